-- What stands at the place of a gate.
use Rattle.std.specs.Prelude.{◌≡◌, ◌≢◌, ◌+◌, ◌<◌, ◌≤◌, ◌^◌, ℕ, List, ◌∷◌, ◌++◌, length, drop, ⊤}
use Rattle.gate_log.specs.declared.scan.Step.{Step}
use Rattle.gate_log.specs.declared.scan.Step.TheVariants.{Closed, Body, Lacking}
use Rattle.gate_log.specs.Frame.{framed}
use Rattle.gate_log.specs.Log.{IsLacking}

-- a closed gate
pub record IsClosedAt (offset : ℕ) (bytes : List ℕ) : Type 0 where
  pub gate : ℕ
  pub rest : List ℕ
  pub is : drop offset bytes ≡ gate ∷ rest
  pub closed : gate ≢ 1

-- an open gate, a body and the next gate
pub record IsBodyAt (offset next : ℕ) (bytes : List ℕ) : Type 0 where
  pub body : List ℕ
  pub gate : ℕ
  pub rest : List ℕ
  pub is : drop offset bytes ≡ 1 ∷ framed body ++ gate ∷ rest
  pub next_is : next ≡ offset + 5 + length body
  pub short : length body < 2 ^ 32

abbrev pub IsStep : ℕ → Step → List ℕ → Type 0
IsStep offset Closed bytes = IsClosedAt offset bytes
IsStep offset (Body next) bytes = IsBodyAt offset next bytes
IsStep offset Lacking bytes = IsLacking (drop offset bytes)

-- the next gate lies five bytes or more behind this one, within the file
abbrev pub IsOnward : ℕ → ℕ → Step → Type 0
IsOnward offset size Closed = ⊤
IsOnward offset size (Body next) = (offset + 5 ≤ next) × (next < size)
IsOnward offset size Lacking = ⊤

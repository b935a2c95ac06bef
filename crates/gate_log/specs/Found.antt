-- Where a log ends, or why the file is none.
use Rattle.std.specs.Prelude.{◌≡◌, ◌+◌, ◌<◌, ◌≤◌, ◌^◌, ℕ, List, ◌++◌, length, drop, All, ⊤}
use Rattle.gate_log.specs.declared.scan.Found.{Found}
use Rattle.gate_log.specs.declared.scan.Found.TheVariants.{End, Bad}
use Rattle.gate_log.specs.Log.{log_bytes, log_length, HoldsLog, IsCutShort}

-- a log of this length
pub record IsLogEnd (length : ℕ) (bytes : List ℕ) : Type 0 where
  pub bodies : List (List ℕ)
  pub holds : HoldsLog bodies bytes
  pub length_is : length ≡ log_length bodies

abbrev pub IsFound : Found → List ℕ → Type 0
IsFound (End length) bytes = IsLogEnd length bytes
IsFound (Bad offset) bytes = IsCutShort bytes offset

-- the log ends within the file
abbrev pub EndsWithin : ℕ → Found → Type 0
EndsWithin size (End length) = (1 ≤ length) × (length ≤ size)
EndsWithin size (Bad offset) = ⊤

-- no more calls of the disk than the log has bytes, or than the place and two
abbrev pub AsksToFind : ℕ → ℕ → Found → Type 0
AsksToFind before now (End length) = now ≤ before + length
AsksToFind before now (Bad offset) = now ≤ before + offset + 2

-- bodies that were found before this place
pub record IsScanned (offset : ℕ) (bytes : List ℕ) : Type 0 where
  pub bodies : List (List ℕ)
  pub split : bytes ≡ log_bytes bodies ++ drop offset bytes
  pub place_is : offset ≡ length (log_bytes bodies)
  pub short : All (λ body. length body < 2 ^ 32) bodies

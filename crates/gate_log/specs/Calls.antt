-- What the calls of a log answer.
use Rattle.std.specs.Prelude.{◌≡◌, ◌≢◌, ◌≤◌, ◌+◌, ℕ, max, List, [], ◌∷◌, ◌++◌, length, Option, None, Some, Result, Ok}
use Rattle.std.specs.Prelude.{Err, ⊤}
use Rattle.gate_log.specs.declared.gate_log.LogFault.{LogFault}
use Rattle.gate_log.specs.declared.gate_log.LogFault.TheVariants.{Device, Stopped, BadLog, OutOfMemory}
use Rattle.gate_log.specs.Log.{gate_place, IsCutShort}
use Rattle.gate_log.specs.LogState.{LogState, IsLogOf}
use Rattle.mds_out.specs.Calls.{number_on}
use Rattle.mds_out.specs.Disk.{Image}
use Rattle.mds_out.specs.Known.{OnTold}

-- a refusal is the disk's: it failed or found no memory
abbrev pub IsDiskAnswer : {T : Type 0} → Result T LogFault → Type 0
IsDiskAnswer (Ok _) = ⊤
IsDiskAnswer (Err Device) = ⊤
IsDiskAnswer (Err Stopped) = ⊥
IsDiskAnswer (Err (BadLog offset)) = ⊥
IsDiskAnswer (Err OutOfMemory) = ⊤

-- so many calls of the disk where this one succeeds, and no more where it is refused
abbrev pub Asks : {T E : Type 0} → ℕ → ℕ → ℕ → Result T E → Type 0
Asks calls before now (Ok _) = now ≡ number_on before calls
Asks calls before now (Err _) = now ≤ before + calls

-- two calls of the disk for a body, none at the end, and no more than two where it is refused
abbrev pub AsksForBody : {E : Type 0} → ℕ → ℕ → Result (Option ℕ) E → Type 0
AsksForBody before now (Ok None) = now ≡ before
AsksForBody before now (Ok (Some next)) = now ≡ number_on before 2
AsksForBody before now (Err _) = now ≤ before + 2

-- a file that is no log is told by the place, and other refusals are the disk's
abbrev pub IsOpenAnswer : {T : Type 0} → Option (List ℕ) → Result T LogFault → Type 0
IsOpenAnswer seen (Ok _) = ⊤
IsOpenAnswer seen (Err Device) = ⊤
IsOpenAnswer seen (Err Stopped) = ⊥
IsOpenAnswer seen (Err (BadLog offset)) = OnTold seen (λ bytes. IsCutShort bytes offset)
IsOpenAnswer seen (Err OutOfMemory) = ⊤

-- an image while the file of a log is made: of that file at most one byte, or no more than it had
pub record IsMaking (file : ℕ) (old : Image → Type 0) (image : Image) : Type 0 where
  pub before : Image
  pub was : old before
  pub others : (other : ℕ) → other ≢ file → image other ≡ before other
  pub short : length (image file) ≤ max (length (before file)) 1

-- the place of a gate of the log: these bodies stand before it, and these from it on
pub record IsGateAt (log : LogState) (offset : ℕ) (before after : List (List ℕ)) (bytes : List ℕ) : Type 0 where
  pub is : IsLogOf log (before ++ after) bytes
  pub place_is : offset ≡ gate_place before

-- some gate of the log stands here
pub record IsSomeGate (log : LogState) (offset : ℕ) (bytes : List ℕ) : Type 0 where
  pub before : List (List ℕ)
  pub after : List (List ℕ)
  pub at : IsGateAt log offset before after bytes

-- these bodies, the first ones of the log, were read up to the gate at this place
pub record HasRead (log : LogState) (offset : ℕ) (read : List (List ℕ)) (bytes : List ℕ) : Type 0 where
  pub after : List (List ℕ)
  pub at : IsGateAt log offset read after bytes

-- At the end the log's bodies are those that were read, else one more was read up to the next gate.
abbrev pub ReadsOn : LogState → List (List ℕ) → Option ℕ → List ℕ → List ℕ → Type 0
ReadsOn log read None into bytes = IsLogOf log read bytes
ReadsOn log read (Some next) into bytes = HasRead log next (read ++ into ∷ []) bytes

-- No body at the end, else the first of these bodies and the place of the next gate.
abbrev pub IsReplayed : LogState → List (List ℕ) → List (List ℕ) → Option ℕ → List ℕ → List ℕ → Type 0
IsReplayed log before [] None into bytes = ⊤
IsReplayed log before [] (Some next) into bytes = ⊥
IsReplayed log before (body ∷ after) None into bytes = ⊥
IsReplayed log before (body ∷ after) (Some next) into bytes =
    (into ≡ body) × IsGateAt log next (before ++ body ∷ []) after bytes

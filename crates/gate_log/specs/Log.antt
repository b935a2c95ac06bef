-- What a log file holds: log = gate (body gate)*, body = length u32, then that many bytes. A gate is one byte; 01 is
-- open.
use Rattle.std.specs.Prelude.{◌≡◌, ◌≢◌, ◌⊎◌, ◌+◌, ◌<◌, ◌^◌, ℕ, List, [], ◌∷◌, ◌++◌, length, take, drop, sum_by, All, ⊤}
use Rattle.gate_log.specs.Frame.{framed, spelled_length}

-- bodies, each behind an open gate
abbrev pub log_bytes : List (List ℕ) → List ℕ
log_bytes [] = []
log_bytes (body ∷ bodies) = 1 ∷ framed body ++ log_bytes bodies

-- the bytes of the log, its closed gate included
abbrev pub log_length : List (List ℕ) → ℕ
log_length bodies = length (log_bytes bodies) + 1

-- the place of the gate behind these bodies
abbrev pub gate_place : List (List ℕ) → ℕ
gate_place before = length (log_bytes before)

-- the place of the first byte of the body that follows these
abbrev pub body_place : List (List ℕ) → ℕ
body_place before = gate_place before + 5

-- The file holds these bodies before its first closed gate. What follows that gate is not part of the log.
pub record HoldsLog (bodies : List (List ℕ)) (file : List ℕ) : Type 0 where
  pub gate : ℕ
  pub rest : List ℕ
  pub split : file ≡ log_bytes bodies ++ gate ∷ rest
  pub closed : gate ≢ 1
  pub short : All (λ body. length body < 2 ^ 32) bodies

-- nothing, or an open gate that is followed by fewer bytes than its body and the next gate need
abbrev pub IsLacking : List ℕ → Type 0
IsLacking [] = ⊤
IsLacking (gate ∷ after) = (gate ≡ 1) × (length after < 4 + spelled_length after + 1)

-- The file is no log: it is empty, or the open gate at this place lacks bytes behind it.
pub record IsCutShort (file : List ℕ) (offset : ℕ) : Type 0 where
  pub bodies : List (List ℕ)
  pub rest : List ℕ
  pub split : file ≡ log_bytes bodies ++ rest
  pub place_is : offset ≡ length (log_bytes bodies)
  pub lacking : IsLacking rest
  pub empty : rest ≡ [] → bodies ≡ []
  pub short : All (λ body. length body < 2 ^ 32) bodies

-- the log stands with the new body or without it
abbrev pub IsBeforeOrAfter : List (List ℕ) → List ℕ → List ℕ → Type 0
IsBeforeOrAfter bodies body file = HoldsLog bodies file ⊎ HoldsLog (bodies ++ body ∷ []) file

-- A file holds one log at most.
abbrev pub HoldsOneLog : Type 0
HoldsOneLog =
    (bodies others : List (List ℕ)) (file : List ℕ) → HoldsLog bodies file → HoldsLog others file → bodies ≡ others

-- A file that is cut short holds none.
abbrev pub IsEitherLogOrShort : Type 0
IsEitherLogOrShort =
    (bodies : List (List ℕ)) (file : List ℕ) (offset : ℕ) → HoldsLog bodies file → IsCutShort file offset → ⊥

-- A file is cut short at one place at most.
abbrev pub IsShortAtOnePlace : Type 0
IsShortAtOnePlace = (file : List ℕ) (offset other : ℕ) → IsCutShort file offset → IsCutShort file other → offset ≡ other

-- A body takes its length and five bytes, and the last gate one.
abbrev pub LengthsAddUp : Type 0
LengthsAddUp = (bodies : List (List ℕ)) → log_length bodies ≡ sum_by (λ body. 5 + length body) bodies + 1

-- One body more makes a log longer.
abbrev pub OneMoreIsLonger : Type 0
OneMoreIsLonger =
    (bodies : List (List ℕ)) (body : List ℕ) → log_length (bodies ++ body ∷ []) ≡ log_length bodies + 5 + length body

-- A body stands in the file at its place.
abbrev pub BodiesStand : Type 0
BodiesStand = (before after : List (List ℕ)) (body file : List ℕ) → HoldsLog (before ++ body ∷ after) file
    → take (length body) (drop (body_place before) file) ≡ body

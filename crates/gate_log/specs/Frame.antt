-- The frame of a body: its length as a big-endian u32, its bytes, and the gate behind it.
use Rattle.std.specs.Prelude.{◌≡◌, ℕ, ◌+◌, ◌-◌, ◌<◌, ◌≤◌, ◌^◌, List, [], ◌∷◌, ◌++◌, length, take, drop, Option, None}
use Rattle.std.specs.Prelude.{Some}
use Rattle.std.specs.Int.{to_be_bytes, from_be_bytes, w32}

-- a body behind its length
abbrev pub framed : List ℕ → List ℕ
framed body = to_be_bytes w32 (length body) ++ body

-- the length, a body of this length, and a closed gate
pub record IsFrame (bytes : List ℕ) : Type 0 where
  pub body : List ℕ
  pub is : bytes ≡ framed body ++ 0 ∷ []
  pub short : length body < 2 ^ 31

-- the body in a frame, which has five bytes more
abbrev pub body_in : List ℕ → List ℕ
body_in bytes = take (length bytes - 5) (drop 4 bytes)

-- the length that the bytes behind a gate begin with
abbrev pub spelled_length : List ℕ → ℕ
spelled_length after = from_be_bytes w32 (take 4 after)

-- Behind the gate at a place a body's length is spelled; none where, before the end, fewer bytes are behind the gate
-- than its body and the next gate need.
abbrev pub IsLengthAt : ℕ → ℕ → Option ℕ → List ℕ → Type 0
IsLengthAt gate end None bytes = end ≤ gate + 5 + spelled_length (drop (gate + 1) bytes)
IsLengthAt gate end (Some count) bytes = to_be_bytes w32 count ≡ take 4 (drop (gate + 1) bytes)

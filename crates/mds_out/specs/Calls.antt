-- Calls that are numbered from 0, of which the ones in a list fail.
use Rattle.std.specs.Prelude.{ℕ, zero, suc, ◌+◌, ◌-◌, ◌^◌, min, List, Bool, ◌==◌, ◌&&◌, nat_lt, if◌then◌else◌}
use Rattle.std.specs.List.{list_any}

-- the call of this number fails; numbers end before the greatest u64, and the calls from there on do not fail
abbrev pub is_failing : List ℕ → ℕ → Bool
is_failing fails number = nat_lt number (2 ^ 64 - 1) && list_any (λ x. x == number) fails

-- the number after this one, which stays at the greatest u64
abbrev pub next_number : ℕ → ℕ
next_number number = min (number + 1) (2 ^ 64 - 1)

-- the number after so many calls more, which stays at the greatest u64
abbrev pub number_on : ℕ → ℕ → ℕ
number_on number calls = min (number + calls) (2 ^ 64 - 1)

-- how many of the first calls have failed
abbrev pub failed_calls : List ℕ → ℕ → ℕ
failed_calls fails zero = 0
failed_calls fails (suc number) = failed_calls fails number + (if is_failing fails number then 1 else 0)

-- The messages that wait, of which the one that was sent last stands by itself.
use Rattle.std.specs.Prelude.{ℕ, Bool, ◌==◌, ◌&&◌, if◌then◌else◌, Option, Some, None}
use Rattle.std.specs.FinSet as set
use Rattle.simulation.specs.Shows.{waiting_cmp}

-- the others, and it
abbrev pub with_last : set.FinSet waiting_cmp → Option (ℕ × ℕ) → set.FinSet waiting_cmp
with_last others None = others
with_last others (Some last) = set.insert others last

abbrev pub is_same_key : ℕ × ℕ → ℕ × ℕ → Bool
is_same_key a b = (a.0 == b.0) && (a.1 == b.1)

-- the last one, where it is another than this
abbrev pub unless_last : Option (ℕ × ℕ) → ℕ × ℕ → Option (ℕ × ℕ)
unless_last None key = None
unless_last (Some last) key = if is_same_key last key then None else Some last

-- the number of the last one, where it waits for this server
abbrev pub last_for : Option (ℕ × ℕ) → ℕ → Option ℕ
last_for None server = None
last_for (Some last) server = if last.0 == server then Some last.1 else None

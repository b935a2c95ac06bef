use Rattle.std.proofs.Common.{◌≡◌, ℕ, ◌+◌, ◌-◌, ◌<◌, ◌≤◌, length, false}
use Rattle.root_slots.specs.Root.{is_fresh}
use Rattle.row_store.proofs.numbers.free_file.Given as goal

abbrev pub invariant-taken : goal.invariant-taken
invariant-taken l = record {
  few : l.file ≤ length l.taken + 1;
  taken : (other : ℕ) → other < l.file → is_fresh other l.taken ≡ false;
}

abbrev pub decreases-taken : goal.decreases-taken
decreases-taken l = length l.taken + 1 - l.file

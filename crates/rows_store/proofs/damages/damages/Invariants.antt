use Rattle.std.proofs.Common.{◌≡◌, ◌≤◌}
use Rattle.rows_store.proofs.damages.damages.Given as goal

abbrev pub invariant-loop-offset : goal.invariant-loop-offset
invariant-loop-offset g l = record {
  few : l.named ≤ l.offset;
  number : l.frame.number ≡ l.fn.frame.number;
}

use Rattle.std.proofs.Common.{◌≡◌, take}
use Rattle.partition.proofs.Loading.{SoFar}
use Rattle.partition.proofs.edits.edits_of_load.Given as goal

abbrev pub invariant-loop-row : goal.invariant-loop-row
invariant-loop-row g l = record {
  so_far : SoFar (g.R.Rows.contents l.fn.rows) l.dir l.part l.load l.row-index l.edits l.added;
  rows : g.R.Rows.contents l.rows ≡ g.R.Rows.contents l.fn.rows;
  faults : g.R.Rows.faults l.rows ≡ g.R.Rows.faults l.fn.rows;
}

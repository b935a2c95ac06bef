use Rattle.std.proofs.Common.{◌≡◌, take}
use Rattle.partition.specs.Rows.{written}
use Rattle.partition.proofs.edits.write_edits.Given as goal

abbrev pub invariant-loop-edit : goal.invariant-loop-edit
invariant-loop-edit g l = record {
  made : g.R.Rows.contents l.rows ≡ written (g.R.Rows.contents l.fn.rows) (take l.edit-index l.edits);
  faults : g.R.Rows.faults l.rows ≡ g.R.Rows.faults l.fn.rows;
}

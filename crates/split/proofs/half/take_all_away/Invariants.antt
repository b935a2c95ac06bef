use Rattle.std.proofs.Common.{◌≡◌, take}
use Rattle.split.specs.Halves.{without_rows}
use Rattle.split.proofs.half.take_all_away.Given as goal

abbrev pub invariant-loop-key : goal.invariant-loop-key
invariant-loop-key g l =
    (g.R.Rows.contents l.rows ≡ without_rows (g.R.Rows.contents l.fn.rows) (take l.key-index l.half)) × (g.R.Rows.faults l.rows ≡ g.R.Rows.faults l.fn.rows)

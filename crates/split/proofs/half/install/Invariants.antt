use Rattle.std.proofs.Common.{◌≡◌, take}
use Rattle.split.specs.Halves.{with_rows}
use Rattle.split.proofs.half.install.Given as goal

abbrev pub invariant-loop-row : goal.invariant-loop-row
invariant-loop-row g l =
    (g.R.Rows.contents l.rows ≡ with_rows (g.R.Rows.contents l.fn.rows) l.dir l.part (take l.row-index l.row-items)) × (g.R.Rows.faults l.rows ≡ g.R.Rows.faults l.fn.rows)

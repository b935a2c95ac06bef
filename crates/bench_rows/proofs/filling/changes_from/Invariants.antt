use Rattle.row_store.specs.Rows.{AreMarked}
use Rattle.bench_rows.proofs.filling.changes_from.Given as goal

abbrev pub invariant-loop-number : goal.invariant-loop-number
invariant-loop-number l = AreMarked l.changes.items

use Rattle.row_store.specs.Rows.{AreMarked}
use Rattle.rows_store.proofs.keeping.many_changes.Given as goal

abbrev pub invariant-loop-rev : goal.invariant-loop-rev
invariant-loop-rev l = AreMarked l.changes.items

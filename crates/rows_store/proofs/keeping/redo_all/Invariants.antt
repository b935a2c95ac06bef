use Rattle.std.proofs.Common.{◌≡◌}
use Rattle.row_store.specs.Value.{StaysReady}
use Rattle.rows_store.proofs.keeping.redo_all.Given as goal

abbrev pub invariant-loop-body : goal.invariant-loop-body
invariant-loop-body l = record {
  ready : StaysReady l.fn.store l.store;
  running : l.store.stopped ≡ l.fn.store.stopped;
}

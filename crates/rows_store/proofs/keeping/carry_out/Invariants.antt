use Rattle.std.proofs.Common.{◌≡◌, false}
use Rattle.row_store.specs.Value.{IsReady}
use Rattle.rows_store.proofs.keeping.carry_out.Given as goal

abbrev pub invariant-loop-step : goal.invariant-loop-step
invariant-loop-step g l = record {
  running : l.store.stopped ≡ false;
  ready : IsReady l.store (g.D.Disk.seen l.disk) (g.D.Disk.sizes l.disk) (g.D.Disk.images l.disk);
}

use Rattle.std.proofs.Common.{◌≡◌, ◌<◌, ◌^◌, false}
use Rattle.row_store.specs.Value.{IsReady, IsGate, length_of}
use Rattle.rows_store.proofs.keeping.bodies_of.Given as goal

abbrev pub invariant-loop-number : goal.invariant-loop-number
invariant-loop-number g l = record {
  running : l.store.stopped ≡ false;
  ready : IsReady l.store (g.D.Disk.seen l.disk) (g.D.Disk.sizes l.disk) (g.D.Disk.images l.disk);
  short : length_of l.store.force < 2 ^ 63;
  gate : IsGate l.store.force l.at (g.D.Disk.seen l.disk);
}

use Rattle.std.proofs.Common.{◌≡◌}
use Rattle.merge_rows.specs.Telling.{AreReady}
use Rattle.rows_store.proofs.merges.open_all.Given as goal

abbrev pub invariant-loop-file : goal.invariant-loop-file
invariant-loop-file g l = record {
  ready : AreReady l.tables.items (g.D.Disk.seen l.disk) (g.D.Disk.sizes l.disk);
  number : l.frame.number ≡ l.fn.frame.number;
}

use Rattle.std.proofs.Common.{◌≡◌}
use Rattle.merge_rows.specs.Merging.{IsMerging}
use Rattle.merge_rows.specs.Telling.{AreReady}
use Rattle.rows_store.proofs.merges.take_turns.Given as goal

abbrev pub invariant-loop-turn : goal.invariant-loop-turn
invariant-loop-turn g l = record {
  ready : AreReady l.tables (g.D.Disk.seen l.disk) (g.D.Disk.sizes l.disk);
  merging : IsMerging l.merge l.tables (g.D.Disk.seen l.disk) (g.D.Disk.sizes l.disk);
  number : l.frame.number ≡ l.fn.frame.number;
}

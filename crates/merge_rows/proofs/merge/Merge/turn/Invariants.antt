use Rattle.std.specs.Prelude.{◌⊎◌}
use Rattle.std.proofs.Common.{◌≡◌, ◌+◌, ◌<◌, ◌≤◌}
use Rattle.merge_rows.specs.Cursors.{weights}
use Rattle.merge_rows.specs.Merging.{IsMerging}
use Rattle.merge_rows.specs.Runs.{WritesOnly}
use Rattle.merge_rows.specs.Telling.{AreReady}
use Rattle.merge_rows.proofs.Running.{quiet}
use Rattle.merge_rows.proofs.merge.Merge.turn.Given as goal

abbrev pub invariant-rows : goal.invariant-rows
invariant-rows g l = record {
  file : l.self.builder.file ≡ l.fn.self.builder.file;
  begun : l.before ≡ l.fn.self.builder.written;
  later : l.before ≤ l.self.builder.written;
  most : l.self.builder.written ≤ l.before + l.blocks;
  added : (l.self.builder.written ≡ l.before) ⊎ (0 < l.self.builder.count);
  ready : AreReady l.tables (g.D.Disk.seen l.disk) (g.D.Disk.sizes l.disk);
  merging : IsMerging l.self l.tables (g.D.Disk.seen l.disk) (g.D.Disk.sizes l.disk);
  number : l.frame.number ≡ l.fn.frame.number;
  writes : WritesOnly g.D.Disk.seen g.D.Disk.sizes g.D.Disk.images g.D.Disk.moment g.D.Disk.images_since g.D.Disk.faults g.D.Disk.lasts g.D.Disk.fails l.fn.self.builder.file l.fn.disk l.disk quiet;
}

abbrev pub decreases-rows : goal.decreases-rows
decreases-rows g l = weights l.self.cursors.items l.tables

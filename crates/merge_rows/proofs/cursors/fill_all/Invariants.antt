use Rattle.std.proofs.Common.{◌≡◌, ◌≤◌, List, take}
use Rattle.sorted_table.specs.declared.table_row.TableRow.{TableRow}
use Rattle.sorted_table.specs.Tables.{HasBlocks}
use Rattle.merge_rows.specs.Cursors.{AllAlong, IsPlaced, HasNext, lefts, weights}
use Rattle.merge_rows.specs.Runs.{OnlyReads}
use Rattle.merge_rows.specs.Telling.{AllTell}
use Rattle.merge_rows.proofs.Running.{quiet}
use Rattle.merge_rows.proofs.cursors.fill_all.Given as goal

abbrev pub invariant-loop-place : goal.invariant-loop-place
invariant-loop-place g l = record {
  placed : AllAlong IsPlaced l.cursors l.tables;
  next : AllAlong HasNext (take l.place l.cursors) (take l.place l.tables);
  same : (blocks : List (List (List TableRow))) → AllTell HasBlocks l.tables (g.D.Disk.seen l.fn.disk) blocks → lefts l.cursors blocks ≡ lefts l.fn.cursors blocks;
  lighter : weights l.cursors l.tables ≤ weights l.fn.cursors l.tables;
  number : l.frame.number ≡ l.fn.frame.number;
  reads : OnlyReads g.D.Disk.seen g.D.Disk.sizes g.D.Disk.images g.D.Disk.moment g.D.Disk.images_since g.D.Disk.faults g.D.Disk.lasts g.D.Disk.fails l.fn.disk l.disk quiet;
}

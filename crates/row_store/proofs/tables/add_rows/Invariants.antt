use Rattle.std.proofs.Common.{◌≡◌, ◌+◌, ◌*◌, ◌≤◌, length}
use Rattle.std.specs.BTreeMap as tree
use Rattle.mds_base.specs.RowKeys.{row_key_cmp}
use Rattle.merge_rows.proofs.Running.{quiet}
use Rattle.merge_rows.specs.Runs.{WritesOnly}
use Rattle.row_store.proofs.Adding.{IsAdding}
use Rattle.sorted_table.specs.Building.{IsGrowing}
use Rattle.row_store.proofs.tables.add_rows.Given as goal

abbrev pub invariant-loop-key : goal.invariant-loop-key
invariant-loop-key g l = record {
  file : l.builder.file ≡ l.fn.builder.file;
  ordered : tree.IsOrdered row_key_cmp l.fresh;
  adding : IsAdding l.fresh.entries l.key-iterator l.fn.builder l.builder (g.D.Disk.seen l.fn.disk l.fn.builder.file) (g.D.Disk.seen l.disk l.fn.builder.file);
  growing : IsGrowing l.builder (g.D.Disk.sizes l.disk);
  asked : g.D.Disk.asked l.disk + 2 * length l.key-iterator ≤ g.D.Disk.asked l.fn.disk + 2 * length l.fresh.entries;
  writes : WritesOnly g.D.Disk.seen g.D.Disk.sizes g.D.Disk.images g.D.Disk.moment g.D.Disk.images_since g.D.Disk.faults g.D.Disk.lasts g.D.Disk.fails l.fn.builder.file l.fn.disk l.disk quiet;
}

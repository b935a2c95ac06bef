use Rattle.std.proofs.Common.{◌≡◌, ◌-◌, ◌≤◌, ◌+◌, ◌*◌, ℕ}
use Rattle.mds_out.specs.Known.{OnTold}
use Rattle.mds_out.specs.Disk.{IsUnchanged, AreSame, LeavesOnly}
use Rattle.sorted_table.specs.Openings.{IsOpening, KeepsAtMost}
use Rattle.sorted_table.proofs.Opens.{opening}
use Rattle.sorted_table.proofs.opening.read_blocks.Given as goal

abbrev pub invariant-whole : goal.invariant-whole
invariant-whole g l = record {
  within : l.at ≤ l.end;
  opening : OnTold (g.D.Disk.seen l.fn.disk l.file) (IsOpening (opening l.at l.sum l.checked));
  aligned : (n : ℕ) × (l.at ≡ 4096 * n) × KeepsAtMost n l.checked;
  unchanged : IsUnchanged (g.D.Disk.seen l.fn.disk) (g.D.Disk.seen l.disk) (g.D.Disk.sizes l.fn.disk) (g.D.Disk.sizes l.disk);
  same : AreSame (g.D.Disk.images l.fn.disk) (g.D.Disk.images l.disk);
  moment : LeavesOnly g.D.Disk.moment g.D.Disk.images_since l.fn.disk l.disk (g.D.Disk.images l.fn.disk);
  lasting : g.D.Disk.lasts l.fn.disk l.disk;
  quiet : g.D.Disk.faults l.disk ≡ g.D.Disk.faults l.fn.disk;
  asked : 4096 * g.D.Disk.asked l.disk ≤ 4096 * g.D.Disk.asked l.fn.disk + l.at;
  changes : g.D.Disk.changes_asked l.disk ≡ g.D.Disk.changes_asked l.fn.disk;
}

abbrev pub decreases-whole : goal.decreases-whole
decreases-whole g l = l.end - l.at

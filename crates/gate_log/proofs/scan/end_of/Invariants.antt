use Rattle.std.proofs.Common.{◌+◌, ◌-◌, ◌<◌, ◌≤◌, Ok}
use Rattle.mds_out.specs.Known.{OnTold}
use Rattle.mds_out.specs.Disk.{IsReading}
use Rattle.gate_log.specs.Found.{IsScanned}
use Rattle.gate_log.proofs.scan.end_of.Given as goal

abbrev pub invariant-gates : goal.invariant-gates
invariant-gates g l = record {
  within : l.offset < l.size;
  scanned : OnTold (g.D.Disk.seen l.fn.disk l.file) (IsScanned l.offset);
  calls : IsReading {T = Unit {0}} g.D.Disk.seen g.D.Disk.sizes g.D.Disk.images g.D.Disk.moment g.D.Disk.images_since g.D.Disk.faults g.D.Disk.changes_asked g.D.Disk.lasts g.D.Disk.fails l.fn.disk l.disk (Ok tt);
  asked : g.D.Disk.asked l.disk ≤ g.D.Disk.asked l.fn.disk + l.offset;
}

abbrev pub decreases-gates : goal.decreases-gates
decreases-gates g l = l.size - l.offset

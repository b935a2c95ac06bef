use Rattle.std.proofs.Common.{◌≡◌, ◌-◌, ◌<◌, ◌^◌, false}
use Rattle.mds_out.specs.Known.{OnTold}
use Rattle.gate_log.specs.Calls.{IsSomeGate}
use Rattle.rows_disks.specs.Benches.{IsRunning}
use Rattle.rows_disks.proofs.logging.replay_into.Given as goal

-- the log is as its calls left it, and the next body stands behind the gate
abbrev pub invariant-bodies : goal.invariant-bodies
invariant-bodies g l = record {
  ready : IsRunning l.log (g.D.Disk.seen l.disk.inner) (g.D.Disk.sizes l.disk.inner) (g.D.Disk.images l.disk.inner);
  gate : l.log.stopped ≡ false → OnTold (g.D.Disk.seen l.disk.inner l.log.file) (IsSomeGate l.log l.gate);
  within : l.gate < l.log.length;
  short : l.log.length < 2 ^ 63;
}

abbrev pub decreases-bodies : goal.decreases-bodies
decreases-bodies g l = l.log.length - l.gate

use Rattle.std.proofs.Common.{◌≡◌, ◌-◌, ◌<◌, Ok}
use Rattle.mds_out.specs.Known.{OnTold}
use Rattle.gate_log.specs.Calls.{IsSomeGate}
use Rattle.gate_log.specs.LogState.{IsReady}
use Rattle.node_store.specs.Disks.{IsStoreReading}
use Rattle.node_store.specs.Parts.{IsNodeOf}
use Rattle.node_store.specs.Reading.{HasReplayed}
use Rattle.node_store.proofs.reading.read_log.Given as goal

-- the bodies before the gate stand for the node and the rows so far
abbrev pub invariant-bodies : goal.invariant-bodies
invariant-bodies g l = record {
  replayed : OnTold (g.D.Disk.seen l.disk l.fn.log.file) (HasReplayed l.server l.fn.setup l.fn.log l.gate (record { node = l.node; rows = l.rows }));
  node : IsNodeOf l.server l.fn.setup l.node;
  gate : OnTold (g.D.Disk.seen l.disk l.fn.log.file) (IsSomeGate l.fn.log l.gate);
  within : l.gate < l.fn.log.length;
  log : l.log ≡ l.fn.log;
  ready : IsReady l.fn.log (g.D.Disk.seen l.disk) (g.D.Disk.sizes l.disk) (g.D.Disk.images l.disk);
  calls : IsStoreReading {T = Unit {0}} g.D.Disk.seen g.D.Disk.sizes g.D.Disk.images g.D.Disk.moment g.D.Disk.images_since g.D.Disk.faults g.D.Disk.changes_asked g.D.Disk.lasts g.D.Disk.fails l.fn.disk l.disk (Ok tt);
}

abbrev pub decreases-bodies : goal.decreases-bodies
decreases-bodies g l = l.fn.log.length - l.gate

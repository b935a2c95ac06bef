use Rattle.std.proofs.Common.{◌∙◌, ◌<◌, ℕ, Some, subst}
use Rattle.mds_base.specs.declared.setup.Setup.{Setup}
use Rattle.mds_out.specs.Known.{OnTold}
use Rattle.gate_log.specs.Calls.{IsSomeGate}
use Rattle.gate_log.specs.LogState.{LogState, IsReady}
use Rattle.node_core.specs.Nodes.{NodeAndRows}
use Rattle.node_store.specs.Reading.{HasReplayed, ReplaysOn}
use Rattle.node_store.proofs.Stores.{reads_on, reads_fail}
use Rattle.node_store.proofs.reading.read_log.Goals as goal

pub bodies-preserved : goal.bodies-preserved
bodies-preserved g c =
    let before = c.bodies.invariant in
    let seen = g.D.Disk.seen c.bodies.disk in
    let seen' = g.D.Disk.seen c.replay_at.new.disk in
    let next = c.in-Some.next in
    let old : NodeAndRows = record { node = c.bodies.node; rows = c.bodies.rows } in
    let new : NodeAndRows = record { node = c.replay_at.new.node; rows = c.replay_at.new.rows } in
    let P : LogState → Type 0 = λ log. (server : ℕ) → (setup : Setup) → OnTold (seen log.file) (HasReplayed server setup log c.bodies.gate old) → OnTold (seen' log.file) (ReplaysOn server setup log (Some next) new) in
    let Q : LogState → Type 0 = λ log. OnTold (seen' log.file) (IsSomeGate log next) in
    let W : LogState → Type 0 = λ log. next < log.length in
    let R : LogState → Type 0 = λ log. IsReady log seen' (g.D.Disk.sizes c.replay_at.new.disk) (g.D.Disk.images c.replay_at.new.disk) in
    record {
      replayed = subst P before.log (rw c.in-Some.is at c.in_ok-next.ensures.replayed) c.args.server c.args.setup before.replayed;
      node = c.in_ok-next.ensures.node c.args.server c.args.setup before.node;
      gate = subst Q before.log (rw c.in-Some.is at c.in_ok-next.ensures.gate);
      within = subst W before.log (rw c.in-Some.is at c.in_ok-next.ensures.onward).1;
      log = c.in_ok-next.ensures.same ∙ before.log;
      ready = subst R before.log c.in_ok-next.ensures.ready;
      calls = reads_on g.met.D.Disk.lasts_on before.calls c.in_ok-next.ensures.call;
    }

pub returns-in-None-clause-node : goal.returns-in-None-clause-node
returns-in-None-clause-node g c = c.in_ok-next.ensures.node c.args.server c.args.setup c.bodies.invariant.node

pub returns-in_err-next-clause-call : goal.returns-in_err-next-clause-call
returns-in_err-next-clause-call g c = reads_fail g.met.D.Disk.lasts_on g.met.D.Disk.fails_after c.bodies.invariant.calls c.in_err-next.ensures.call c.from_residual-in_err-next.ensures.1

pub returns-in-None-clause-call : goal.returns-in-None-clause-call
returns-in-None-clause-call g c = reads_on g.met.D.Disk.lasts_on c.bodies.invariant.calls c.in_ok-next.ensures.call

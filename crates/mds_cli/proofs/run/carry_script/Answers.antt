use Rattle.std.proofs.Common.{◌∙◌, subst, List}
use Rattle.pasts.specs.Fuses.{seen_by, images_by}
use Rattle.pasts.specs.Servers.{AreServers}
use Rattle.pasts.specs.Starts.{AreDisks}
use Rattle.world.specs.declared.state.ServerState.{ServerState}
use Rattle.mds_cli.specs.Disks.{LeadToDisks}
use Rattle.mds_cli.specs.Ending.{EndsSo, outside}
use Rattle.mds_cli.specs.SoFar.{HasStopped}
use Rattle.mds_cli.specs.Payments.{ScriptIsPaid}
use Rattle.mds_cli.specs.Streams.{streams}
use Rattle.mds_cli.specs.Turn.{CarriesAll}
use Rattle.mds_cli.proofs.DisksBack.{leads_all, leads_stopped}
use Rattle.mds_cli.proofs.LinesEnded.{begins_outside, ends_finished, ends_stopped, never_done}
use Rattle.mds_cli.proofs.Payments.{handed_by, paid_finished, paid_stopped}
use Rattle.mds_cli.proofs.run.carry_script.Goals as goal

pub returns-in-Ok-clause-ends : goal.returns-in-Ok-clause-ends
returns-in-Ok-clause-ends g c =
    subst (λ s. EndsSo g.D.Disk.faults g.D.Disk.seen g.D.Disk.images c.finish-status.result (outside (g.S.Source.left c.args.input.now) (g.K.Sink.taken c.args.output.now) (g.S.Source.faults c.args.input.now) (g.K.Sink.faults c.args.output.now)) (outside (g.S.Source.left c.carry.new.input) (g.K.Sink.taken c.finish-status.new.output) (g.S.Source.faults c.carry.new.input) (g.K.Sink.faults c.finish-status.new.output)) s c.into_disks.result.items) c.new-session.ensures.simulation
    (ends_finished g.D.Disk.faults g.D.Disk.lasts g.D.Disk.seen g.D.Disk.images (g.S.Source.left c.args.input.now) (g.K.Sink.taken c.args.output.now) (g.S.Source.faults c.args.input.now) (g.K.Sink.faults c.args.output.now) c.carry.new.self.reader (g.S.Source.left c.carry.new.input) (g.K.Sink.taken c.carry.new.output) c.carry.new.self.interpreter.pending.items (g.S.Source.faults c.carry.new.input) (g.K.Sink.faults c.carry.new.output) (g.K.Sink.taken c.finish-status.new.output) (g.K.Sink.faults c.finish-status.new.output) c.new-session.result.interpreter.simulation c.carry.new.self.interpreter.simulation c.into_disks.result.items (subst (λ s. (servers : List ServerState) → AreServers (seen_by g.D.Disk.seen) (images_by g.D.Disk.images) s.setup s.stores servers → AreDisks g.D.Disk.seen g.D.Disk.images s.setup c.into_disks.result.items servers) c.finish-status.ensures.simulation c.into_disks.ensures.left) (handed_by g.D.Disk.faults g.D.Disk.lasts c.into_disks.result.items c.carry.new.self.interpreter.simulation _ c.into_disks.ensures.same c.finish-status.ensures.simulation)
    (subst (λ first. CarriesAll g.D.Disk.faults g.D.Disk.lasts g.D.Disk.seen g.D.Disk.images first (streams c.carry.new.self.reader (g.S.Source.left c.carry.new.input) (g.K.Sink.taken c.carry.new.output) c.carry.new.self.interpreter.pending.items (g.S.Source.faults c.carry.new.input) (g.K.Sink.faults c.carry.new.output)) c.new-session.result.interpreter.simulation c.carry.new.self.interpreter.simulation) (begins_outside c.new-session.result.reader c.new-session.result.interpreter.pending.items (g.S.Source.left c.args.input.now) (g.K.Sink.taken c.args.output.now) (g.S.Source.faults c.args.input.now) (g.K.Sink.faults c.args.output.now) (c.new-session.ensures.reader ∙ c.requires) c.new-session.ensures.pending) c.in-Ok.ensures.ok) c.finish-status.result c.finish-status.ensures.cases)

pub returns-in-Err-clause-ends : goal.returns-in-Err-clause-ends
returns-in-Err-clause-ends g c =
    subst (λ s. EndsSo g.D.Disk.faults g.D.Disk.seen g.D.Disk.images c.stop-status.result (outside (g.S.Source.left c.args.input.now) (g.K.Sink.taken c.args.output.now) (g.S.Source.faults c.args.input.now) (g.K.Sink.faults c.args.output.now)) (outside (g.S.Source.left c.carry.new.input) (g.K.Sink.taken c.stop-status.new.output) (g.S.Source.faults c.carry.new.input) (g.K.Sink.faults c.stop-status.new.output)) s c.into_disks-in-Err.result.items) c.new-session.ensures.simulation
    (ends_stopped g.D.Disk.faults g.D.Disk.lasts g.D.Disk.seen g.D.Disk.images (g.S.Source.left c.args.input.now) (g.K.Sink.taken c.args.output.now) (g.S.Source.faults c.args.input.now) (g.K.Sink.faults c.args.output.now) c.carry.new.self.reader (g.S.Source.left c.carry.new.input) (g.K.Sink.taken c.carry.new.output) c.carry.new.self.interpreter.pending.items (g.S.Source.faults c.carry.new.input) (g.K.Sink.faults c.carry.new.output) (g.K.Sink.taken c.stop-status.new.output) (g.K.Sink.faults c.stop-status.new.output) c.new-session.result.interpreter.simulation c.carry.new.self.interpreter.simulation c.into_disks-in-Err.result.items (subst (λ s. (servers : List ServerState) → AreServers (seen_by g.D.Disk.seen) (images_by g.D.Disk.images) s.setup s.stores servers → AreDisks g.D.Disk.seen g.D.Disk.images s.setup c.into_disks-in-Err.result.items servers) c.stop-status.ensures.simulation c.into_disks-in-Err.ensures.left) (handed_by g.D.Disk.faults g.D.Disk.lasts c.into_disks-in-Err.result.items c.carry.new.self.interpreter.simulation _ c.into_disks-in-Err.ensures.same c.stop-status.ensures.simulation)
    c.in-Err.status c.stop-status.result (subst (λ first. HasStopped g.D.Disk.faults g.D.Disk.lasts g.D.Disk.seen g.D.Disk.images c.in-Err.status 1 first (streams c.carry.new.self.reader (g.S.Source.left c.carry.new.input) (g.K.Sink.taken c.carry.new.output) c.carry.new.self.interpreter.pending.items (g.S.Source.faults c.carry.new.input) (g.K.Sink.faults c.carry.new.output)) c.new-session.result.interpreter.simulation c.carry.new.self.interpreter.simulation) (begins_outside c.new-session.result.reader c.new-session.result.interpreter.pending.items (g.S.Source.left c.args.input.now) (g.K.Sink.taken c.args.output.now) (g.S.Source.faults c.args.input.now) (g.K.Sink.faults c.args.output.now) (c.new-session.ensures.reader ∙ c.requires) c.new-session.ensures.pending) c.in-Err.ensures.err) c.stop-status.ensures.cases)

pub returns-in-Err-clause-passed_on : goal.returns-in-Err-clause-passed_on
returns-in-Err-clause-passed_on g c = λ is.
    let stopped : HasStopped g.D.Disk.faults g.D.Disk.lasts g.D.Disk.seen g.D.Disk.images c.in-Err.status 1 (outside (g.S.Source.left c.args.input.now) (g.K.Sink.taken c.args.output.now) (g.S.Source.faults c.args.input.now) (g.K.Sink.faults c.args.output.now)) (streams c.carry.new.self.reader (g.S.Source.left c.carry.new.input) (g.K.Sink.taken c.carry.new.output) c.carry.new.self.interpreter.pending.items (g.S.Source.faults c.carry.new.input) (g.K.Sink.faults c.carry.new.output)) c.new-session.result.interpreter.simulation c.carry.new.self.interpreter.simulation = (subst (λ first. HasStopped g.D.Disk.faults g.D.Disk.lasts g.D.Disk.seen g.D.Disk.images c.in-Err.status 1 first (streams c.carry.new.self.reader (g.S.Source.left c.carry.new.input) (g.K.Sink.taken c.carry.new.output) c.carry.new.self.interpreter.pending.items (g.S.Source.faults c.carry.new.input) (g.K.Sink.faults c.carry.new.output)) c.new-session.result.interpreter.simulation c.carry.new.self.interpreter.simulation) (begins_outside c.new-session.result.reader c.new-session.result.interpreter.pending.items (g.S.Source.left c.args.input.now) (g.K.Sink.taken c.args.output.now) (g.S.Source.faults c.args.input.now) (g.K.Sink.faults c.args.output.now) (c.new-session.ensures.reader ∙ c.requires) c.new-session.ensures.pending) c.in-Err.ensures.err) in
    absurd (never_done (g.S.Source.left c.args.input.now) (g.K.Sink.taken c.args.output.now) (g.S.Source.faults c.args.input.now) (g.K.Sink.faults c.args.output.now) c.carry.new.self.reader (g.S.Source.left c.carry.new.input) (g.K.Sink.taken c.carry.new.output) c.carry.new.self.interpreter.pending.items (g.S.Source.faults c.carry.new.input) (g.K.Sink.faults c.carry.new.output) (g.K.Sink.taken c.stop-status.new.output) (g.K.Sink.faults c.stop-status.new.output) c.in-Err.status c.stop-status.result stopped.stops c.stop-status.ensures.cases is)

pub returns-in-Ok-clause-paid : goal.returns-in-Ok-clause-paid
returns-in-Ok-clause-paid g c =
    let all : CarriesAll g.D.Disk.faults g.D.Disk.lasts g.D.Disk.seen g.D.Disk.images (outside (g.S.Source.left c.args.input.now) (g.K.Sink.taken c.args.output.now) (g.S.Source.faults c.args.input.now) (g.K.Sink.faults c.args.output.now)) (streams c.carry.new.self.reader (g.S.Source.left c.carry.new.input) (g.K.Sink.taken c.carry.new.output) c.carry.new.self.interpreter.pending.items (g.S.Source.faults c.carry.new.input) (g.K.Sink.faults c.carry.new.output)) c.new-session.result.interpreter.simulation c.carry.new.self.interpreter.simulation = (subst (λ first. CarriesAll g.D.Disk.faults g.D.Disk.lasts g.D.Disk.seen g.D.Disk.images first (streams c.carry.new.self.reader (g.S.Source.left c.carry.new.input) (g.K.Sink.taken c.carry.new.output) c.carry.new.self.interpreter.pending.items (g.S.Source.faults c.carry.new.input) (g.K.Sink.faults c.carry.new.output)) c.new-session.result.interpreter.simulation c.carry.new.self.interpreter.simulation) (begins_outside c.new-session.result.reader c.new-session.result.interpreter.pending.items (g.S.Source.left c.args.input.now) (g.K.Sink.taken c.args.output.now) (g.S.Source.faults c.args.input.now) (g.K.Sink.faults c.args.output.now) (c.new-session.ensures.reader ∙ c.requires) c.new-session.ensures.pending) c.in-Ok.ensures.ok) in
    subst (λ s. ScriptIsPaid g.D.Disk.faults s.stores c.into_disks.result.items (g.S.Source.left c.args.input.now) (g.K.Sink.taken c.args.output.now) (g.K.Sink.taken c.finish-status.new.output)) c.new-session.ensures.simulation
    (paid_finished g.D.Disk.faults g.D.Disk.lasts g.D.Disk.seen g.D.Disk.images (g.S.Source.left c.args.input.now) (g.K.Sink.taken c.args.output.now) (g.S.Source.faults c.args.input.now) (g.K.Sink.faults c.args.output.now) c.carry.new.self.reader (g.S.Source.left c.carry.new.input) (g.K.Sink.taken c.carry.new.output) c.carry.new.self.interpreter.pending.items (g.S.Source.faults c.carry.new.input) (g.K.Sink.faults c.carry.new.output) (g.K.Sink.taken c.finish-status.new.output) (g.K.Sink.faults c.finish-status.new.output) c.new-session.result.interpreter.simulation c.carry.new.self.interpreter.simulation c.into_disks.result.items (handed_by g.D.Disk.faults g.D.Disk.lasts c.into_disks.result.items c.carry.new.self.interpreter.simulation _ c.into_disks.ensures.same c.finish-status.ensures.simulation) all.so_far c.finish-status.result c.finish-status.ensures.cases)

pub returns-in-Err-clause-paid : goal.returns-in-Err-clause-paid
returns-in-Err-clause-paid g c =
    subst (λ s. ScriptIsPaid g.D.Disk.faults s.stores c.into_disks-in-Err.result.items (g.S.Source.left c.args.input.now) (g.K.Sink.taken c.args.output.now) (g.K.Sink.taken c.stop-status.new.output)) c.new-session.ensures.simulation
    (paid_stopped g.D.Disk.faults g.D.Disk.lasts g.D.Disk.seen g.D.Disk.images (g.S.Source.left c.args.input.now) (g.K.Sink.taken c.args.output.now) (g.S.Source.faults c.args.input.now) (g.K.Sink.faults c.args.output.now) c.carry.new.self.reader (g.S.Source.left c.carry.new.input) (g.K.Sink.taken c.carry.new.output) c.carry.new.self.interpreter.pending.items (g.S.Source.faults c.carry.new.input) (g.K.Sink.faults c.carry.new.output) (g.K.Sink.taken c.stop-status.new.output) (g.K.Sink.faults c.stop-status.new.output) c.new-session.result.interpreter.simulation c.carry.new.self.interpreter.simulation c.into_disks-in-Err.result.items (handed_by g.D.Disk.faults g.D.Disk.lasts c.into_disks-in-Err.result.items c.carry.new.self.interpreter.simulation _ c.into_disks-in-Err.ensures.same c.stop-status.ensures.simulation) c.in-Err.status c.stop-status.result (subst (λ first. HasStopped g.D.Disk.faults g.D.Disk.lasts g.D.Disk.seen g.D.Disk.images c.in-Err.status 1 first (streams c.carry.new.self.reader (g.S.Source.left c.carry.new.input) (g.K.Sink.taken c.carry.new.output) c.carry.new.self.interpreter.pending.items (g.S.Source.faults c.carry.new.input) (g.K.Sink.faults c.carry.new.output)) c.new-session.result.interpreter.simulation c.carry.new.self.interpreter.simulation) (begins_outside c.new-session.result.reader c.new-session.result.interpreter.pending.items (g.S.Source.left c.args.input.now) (g.K.Sink.taken c.args.output.now) (g.S.Source.faults c.args.input.now) (g.K.Sink.faults c.args.output.now) (c.new-session.ensures.reader ∙ c.requires) c.new-session.ensures.pending) c.in-Err.ensures.err) c.stop-status.ensures.cases)

pub returns-in-Ok-clause-disks : goal.returns-in-Ok-clause-disks
returns-in-Ok-clause-disks g c =
    subst (λ s. LeadToDisks g.D.Disk.lasts s.stores c.into_disks.result.items) c.new-session.ensures.simulation
    (leads_all g.D.Disk.faults g.D.Disk.lasts g.D.Disk.seen g.D.Disk.images _ _ c.new-session.result.interpreter.simulation c.carry.new.self.interpreter.simulation c.into_disks.result.items (handed_by g.D.Disk.faults g.D.Disk.lasts c.into_disks.result.items c.carry.new.self.interpreter.simulation _ c.into_disks.ensures.same c.finish-status.ensures.simulation) c.in-Ok.ensures.ok)

pub returns-in-Err-clause-disks : goal.returns-in-Err-clause-disks
returns-in-Err-clause-disks g c =
    subst (λ s. LeadToDisks g.D.Disk.lasts s.stores c.into_disks-in-Err.result.items) c.new-session.ensures.simulation
    (leads_stopped g.D.Disk.faults g.D.Disk.lasts g.D.Disk.seen g.D.Disk.images _ _ c.new-session.result.interpreter.simulation c.carry.new.self.interpreter.simulation c.into_disks-in-Err.result.items (handed_by g.D.Disk.faults g.D.Disk.lasts c.into_disks-in-Err.result.items c.carry.new.self.interpreter.simulation _ c.into_disks-in-Err.ensures.same c.stop-status.ensures.simulation) c.in-Err.status 1 c.in-Err.ensures.err)

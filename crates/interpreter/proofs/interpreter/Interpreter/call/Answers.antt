use Rattle.pasts.specs.Fuses.{seen_by, images_by}
use Rattle.world.specs.declared.event.Event.TheVariants.{Issue}
use Rattle.interpreter.specs.Steps.{Halts}
use Rattle.interpreter.specs.Story.{IsFollowing, IsSending}
use Rattle.interpreter.proofs.MessageFollowed.{sent_followed, sent_halts, unsent_halts}
use Rattle.node_store.proofs.Restarting.{err_at}
use Rattle.interpreter.proofs.EventHappens.{on_ok, on_err}
use Rattle.interpreter.proofs.Payments.{pays_next}
use Rattle.interpreter.proofs.interpreter.Interpreter.call.Goals as goal

pub returns-in_err-message-clause-err : goal.returns-in_err-message-clause-err
returns-in_err-message-clause-err g c =
    err_at _ c.in_err-message.field-0.0 _ c.from_residual.ensures.1
    (unsent_halts (seen_by g.D.Disk.seen) (images_by g.D.Disk.images) c.args.self.now.simulation c.issue.new.self.simulation c.args.self.now.pending.items c.issue.new.self.pending.items c.args.client (Issue c.args.client c.args.call) c.in_err-message.field-0.0 c.in_err-message.ensures.err)

pub returns-clause-ok : goal.returns-clause-ok
returns-clause-ok g c =
    on_ok c.follow.result c.follow.ensures.ok
    (sent_followed (seen_by g.D.Disk.seen) (images_by g.D.Disk.images) c.args.self.now.simulation c.issue.new.self.simulation c.follow.new.self.simulation c.args.self.now.pending.items c.issue.new.self.pending.items c.follow.new.self.pending.items c.args.client c.in_ok-message.message (Issue c.args.client c.args.call) c.in_ok-message.ensures.ok c.in_ok-message.ensures.message)

pub returns-clause-err : goal.returns-clause-err
returns-clause-err g c =
    on_err (Halts (seen_by g.D.Disk.seen) (images_by g.D.Disk.images) c.issue.new.self.simulation c.follow.new.self.simulation c.issue.new.self.pending.items c.follow.new.self.pending.items (λ run. IsFollowing run c.args.client c.in_ok-message.message)) (Halts (seen_by g.D.Disk.seen) (images_by g.D.Disk.images) c.args.self.now.simulation c.follow.new.self.simulation c.args.self.now.pending.items c.follow.new.self.pending.items (λ run. IsSending run c.args.client (Issue c.args.client c.args.call))) c.follow.result c.follow.ensures.err
    (λ halt. sent_halts (seen_by g.D.Disk.seen) (images_by g.D.Disk.images) c.args.self.now.simulation c.issue.new.self.simulation c.follow.new.self.simulation c.args.self.now.pending.items c.issue.new.self.pending.items c.follow.new.self.pending.items c.args.client c.in_ok-message.message (Issue c.args.client c.args.call) halt c.in_ok-message.ensures.ok c.in_ok-message.ensures.message)

pub returns-clause-paid : goal.returns-clause-paid
returns-clause-paid g c =
    pays_next g.D.Disk.faults g.D.Disk.lasts c.args.self.now.simulation.stores c.issue.new.self.simulation.stores c.follow.new.self.simulation.stores c.args.self.now.pending.items c.issue.new.self.pending.items c.follow.new.self.pending.items c.issue.ensures.paid c.follow.ensures.paid

use Rattle.std.proofs.Common.{ap, is_some}
use Rattle.pasts.specs.Fuses.{seen_by, images_by}
use Rattle.interpreter.proofs.MessageFollowed.{round_taken, round_ends, round_on, halts_delivery, halts_take, halts_resend}
use Rattle.node_store.proofs.Restarting.{err_at}
use Rattle.interpreter.proofs.Payments.{pays_next}
use Rattle.interpreter.proofs.interpreter.Interpreter.round.Goals as goal

pub returns-in_err-reply-clause-err : goal.returns-in_err-reply-clause-err
returns-in_err-reply-clause-err g c =
    err_at _ c.in_err-reply.field-0.0 _ c.from_residual.ensures.1
    (halts_delivery (seen_by g.D.Disk.seen) (images_by g.D.Disk.images) c.args.self.now.simulation c.deliver.new.self.simulation c.args.self.now.pending.items c.deliver.new.self.pending.items c.args.client c.args.message c.in_err-reply.field-0.0 c.in_err-reply.ensures.err)

pub returns-in_err-take-clause-err : goal.returns-in_err-take-clause-err
returns-in_err-take-clause-err g c =
    err_at _ c.in_err-take.field-0.0 _ c.from_residual-in_err-take.ensures.1
    (halts_take (seen_by g.D.Disk.seen) (images_by g.D.Disk.images) c.args.self.now.simulation c.deliver.new.self.simulation c.take.new.self.simulation c.args.self.now.pending.items c.deliver.new.self.pending.items c.take.new.self.pending.items c.args.client c.args.message c.in-Some.reply c.in_err-take.field-0.0 ((rw c.in-Some.is at c.in_ok-reply.ensures.ok) (ap is_some c.requires.request.is)) c.in_err-take.ensures.err)

pub returns-then-not-branch-clause-ok : goal.returns-then-not-branch-clause-ok
returns-then-not-branch-clause-ok g c =
    round_ends (seen_by g.D.Disk.seen) (images_by g.D.Disk.images) c.args.self.now.simulation c.take.new.self.simulation c.args.self.now.pending.items c.take.new.self.pending.items c.args.client c.args.message c.in_ok-take.field-0 c.if-not-branch.true
    (round_taken (seen_by g.D.Disk.seen) (images_by g.D.Disk.images) c.args.self.now.simulation c.deliver.new.self.simulation c.take.new.self.simulation c.args.self.now.pending.items c.deliver.new.self.pending.items c.take.new.self.pending.items c.args.client c.args.message c.in-Some.reply c.in_ok-take.field-0 ((rw c.in-Some.is at c.in_ok-reply.ensures.ok) (ap is_some c.requires.request.is)) c.in_ok-take.ensures.ok c.in_ok-take.ensures.redirected)

pub returns-in_err-next-clause-err : goal.returns-in_err-next-clause-err
returns-in_err-next-clause-err g c =
    err_at _ c.in_err-next.field-0.0 _ c.from_residual-in_err-next.ensures.1
    (halts_resend (seen_by g.D.Disk.seen) (images_by g.D.Disk.images) c.args.self.now.simulation c.take.new.self.simulation c.resend.new.self.simulation c.args.self.now.pending.items c.take.new.self.pending.items c.resend.new.self.pending.items c.args.client c.args.message c.in_ok-take.field-0 c.in_err-next.field-0.0 c.if-not-branch.false
    (round_taken (seen_by g.D.Disk.seen) (images_by g.D.Disk.images) c.args.self.now.simulation c.deliver.new.self.simulation c.take.new.self.simulation c.args.self.now.pending.items c.deliver.new.self.pending.items c.take.new.self.pending.items c.args.client c.args.message c.in-Some.reply c.in_ok-take.field-0 ((rw c.in-Some.is at c.in_ok-reply.ensures.ok) (ap is_some c.requires.request.is)) c.in_ok-take.ensures.ok c.in_ok-take.ensures.redirected) c.in_err-next.ensures.err)

pub returns-clause-ok : goal.returns-clause-ok
returns-clause-ok g c =
    round_on (seen_by g.D.Disk.seen) (images_by g.D.Disk.images) c.args.self.now.simulation c.take.new.self.simulation c.resend.new.self.simulation c.args.self.now.pending.items c.take.new.self.pending.items c.resend.new.self.pending.items c.args.client c.args.message c.in_ok-next.next c.in_ok-take.field-0 c.if-not-branch.false
    (round_taken (seen_by g.D.Disk.seen) (images_by g.D.Disk.images) c.args.self.now.simulation c.deliver.new.self.simulation c.take.new.self.simulation c.args.self.now.pending.items c.deliver.new.self.pending.items c.take.new.self.pending.items c.args.client c.args.message c.in-Some.reply c.in_ok-take.field-0 ((rw c.in-Some.is at c.in_ok-reply.ensures.ok) (ap is_some c.requires.request.is)) c.in_ok-take.ensures.ok c.in_ok-take.ensures.redirected) c.in_ok-next.ensures.ok c.in_ok-next.ensures.message

pub returns-in_err-take-clause-paid : goal.returns-in_err-take-clause-paid
returns-in_err-take-clause-paid g c =
    pays_next g.D.Disk.faults g.D.Disk.lasts c.args.self.now.simulation.stores c.deliver.new.self.simulation.stores c.take.new.self.simulation.stores c.args.self.now.pending.items c.deliver.new.self.pending.items c.take.new.self.pending.items c.deliver.ensures.paid c.take.ensures.paid

pub returns-then-not-branch-clause-paid : goal.returns-then-not-branch-clause-paid
returns-then-not-branch-clause-paid g c =
    pays_next g.D.Disk.faults g.D.Disk.lasts c.args.self.now.simulation.stores c.deliver.new.self.simulation.stores c.take.new.self.simulation.stores c.args.self.now.pending.items c.deliver.new.self.pending.items c.take.new.self.pending.items c.deliver.ensures.paid c.take.ensures.paid

pub returns-in_err-next-clause-paid : goal.returns-in_err-next-clause-paid
returns-in_err-next-clause-paid g c =
    pays_next g.D.Disk.faults g.D.Disk.lasts c.args.self.now.simulation.stores c.take.new.self.simulation.stores c.resend.new.self.simulation.stores c.args.self.now.pending.items c.take.new.self.pending.items c.resend.new.self.pending.items
    (pays_next g.D.Disk.faults g.D.Disk.lasts c.args.self.now.simulation.stores c.deliver.new.self.simulation.stores c.take.new.self.simulation.stores c.args.self.now.pending.items c.deliver.new.self.pending.items c.take.new.self.pending.items c.deliver.ensures.paid c.take.ensures.paid) c.resend.ensures.paid

pub returns-clause-paid : goal.returns-clause-paid
returns-clause-paid g c =
    pays_next g.D.Disk.faults g.D.Disk.lasts c.args.self.now.simulation.stores c.take.new.self.simulation.stores c.resend.new.self.simulation.stores c.args.self.now.pending.items c.take.new.self.pending.items c.resend.new.self.pending.items
    (pays_next g.D.Disk.faults g.D.Disk.lasts c.args.self.now.simulation.stores c.deliver.new.self.simulation.stores c.take.new.self.simulation.stores c.args.self.now.pending.items c.deliver.new.self.pending.items c.take.new.self.pending.items c.deliver.ensures.paid c.take.ensures.paid) c.resend.ensures.paid

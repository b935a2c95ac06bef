use Rattle.std.proofs.Common.{refl, arith}
use Rattle.pasts.specs.Fuses.{seen_by, images_by}
use Rattle.interpreter.proofs.MessageFollowed.{follows_none, follows_more, follows_ends, follows_halts, follows_full}
use Rattle.node_store.proofs.Restarting.{err_at}
use Rattle.interpreter.proofs.Payments.{pays_same, pays_next}
use Rattle.interpreter.proofs.interpreter.Interpreter.follow.Goals as goal

pub returns-in_err-round-clause-err : goal.returns-in_err-round-clause-err
returns-in_err-round-clause-err g c =
    err_at _ c.in_err-round.field-0.0 _ c.from_residual.ensures.1
    (follows_halts (seen_by g.D.Disk.seen) (images_by g.D.Disk.images) c.args.self.now.simulation c.loop.self.simulation c.round.new.self.simulation c.args.self.now.pending.items c.loop.self.pending.items c.round.new.self.pending.items c.args.client c.args.message c.loop.next c.loop.counter c.in_err-round.field-0.0 c.loop.invariant.0 c.in_err-round.ensures.err)

pub returns-in-None-clause-ok : goal.returns-in-None-clause-ok
returns-in-None-clause-ok g c =
    follows_ends (seen_by g.D.Disk.seen) (images_by g.D.Disk.images) c.args.self.now.simulation c.loop.self.simulation c.round.new.self.simulation c.args.self.now.pending.items c.loop.self.pending.items c.round.new.self.pending.items c.args.client c.args.message c.loop.next c.loop.counter c.loop.invariant.0 (rw c.in-None.is at c.in_ok-round.ensures.ok)

pub loop-preserved : goal.loop-preserved
loop-preserved g c = (
  follows_more (seen_by g.D.Disk.seen) (images_by g.D.Disk.images) c.args.self.now.simulation c.loop.self.simulation c.round.new.self.simulation c.args.self.now.pending.items c.loop.self.pending.items c.round.new.self.pending.items c.args.client c.args.message c.loop.next c.in-Some.message c.loop.counter c.loop.invariant.0 c.round.ensures.setup
      (rw c.in-Some.is at c.in_ok-round.ensures.request) (rw c.in-Some.is at c.in_ok-round.ensures.ok),
  pays_next g.D.Disk.faults g.D.Disk.lasts c.args.self.now.simulation.stores c.loop.self.simulation.stores c.round.new.self.simulation.stores c.args.self.now.pending.items c.loop.self.pending.items c.round.new.self.pending.items c.loop.invariant.1 c.round.ensures.paid,
)

pub returns-clause-err : goal.returns-clause-err
returns-clause-err g c =
    follows_full (seen_by g.D.Disk.seen) (images_by g.D.Disk.images) c.args.self.now.simulation c.loop.self.simulation c.args.self.now.pending.items c.loop.self.pending.items c.args.client c.args.message c.loop.next c.loop.counter (omega (arith, c.loop-test.false)) c.loop.invariant.0

pub loop-init : goal.loop-init
loop-init g c =
    (follows_none (seen_by g.D.Disk.seen) (images_by g.D.Disk.images) c.args.self.now.simulation c.args.self.now.pending.items c.args.client c.args.message c.requires.request, pays_same g.D.Disk.faults g.D.Disk.lasts c.args.self.now.simulation.stores c.args.self.now.simulation.stores c.args.self.now.pending.items c.args.self.now.pending.items refl refl)

pub returns-in_err-round-clause-paid : goal.returns-in_err-round-clause-paid
returns-in_err-round-clause-paid g c =
    pays_next g.D.Disk.faults g.D.Disk.lasts c.args.self.now.simulation.stores c.loop.self.simulation.stores c.round.new.self.simulation.stores c.args.self.now.pending.items c.loop.self.pending.items c.round.new.self.pending.items c.loop.invariant.1 c.round.ensures.paid

pub returns-in-None-clause-paid : goal.returns-in-None-clause-paid
returns-in-None-clause-paid g c =
    pays_next g.D.Disk.faults g.D.Disk.lasts c.args.self.now.simulation.stores c.loop.self.simulation.stores c.round.new.self.simulation.stores c.args.self.now.pending.items c.loop.self.pending.items c.round.new.self.pending.items c.loop.invariant.1 c.round.ensures.paid

pub returns-clause-paid : goal.returns-clause-paid
returns-clause-paid g c = c.loop.invariant.1

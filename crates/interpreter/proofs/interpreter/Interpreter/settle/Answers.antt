use Rattle.std.proofs.Common.{refl, arith}
use Rattle.pasts.specs.Fuses.{seen_by, images_by}
use Rattle.interpreter.proofs.MessagesSettled.{settles_none, settles_more, settles_ends, settles_halts, settles_full}
use Rattle.node_store.proofs.Restarting.{err_at}
use Rattle.interpreter.proofs.Payments.{pays_same, pays_next}
use Rattle.interpreter.proofs.interpreter.Interpreter.settle.Goals as goal

pub returns-in_default-clause-ok : goal.returns-in_default-clause-ok
returns-in_default-clause-ok g c =
    settles_ends (seen_by g.D.Disk.seen) (images_by g.D.Disk.images) c.args.self.now.simulation c.loop.self.simulation c.args.self.now.pending.items c.loop.self.pending.items c.loop.counter c.loop.invariant.0 c.in_default.ensures.stores c.in_default.ensures.first

pub returns-in_err-deliver-clause-err : goal.returns-in_err-deliver-clause-err
returns-in_err-deliver-clause-err g c =
    err_at _ c.in_err-deliver.field-0.0 _ c.from_residual.ensures.1
    (settles_halts (seen_by g.D.Disk.seen) (images_by g.D.Disk.images) c.args.self.now.simulation c.loop.self.simulation c.deliver.new.self.simulation c.args.self.now.pending.items c.loop.self.pending.items c.deliver.new.self.pending.items c.loop.counter c.in-Some.message c.in_err-deliver.field-0.0 c.loop.invariant.0 c.in-Some.ensures.stores c.in-Some.ensures.first c.in_err-deliver.ensures.err)

pub loop-preserved : goal.loop-preserved
loop-preserved g c = (
  settles_more (seen_by g.D.Disk.seen) (images_by g.D.Disk.images) c.args.self.now.simulation c.loop.self.simulation c.deliver.new.self.simulation c.args.self.now.pending.items c.loop.self.pending.items c.deliver.new.self.pending.items c.loop.counter c.in-Some.message c.in_ok-deliver.field-0 c.loop.invariant.0 c.deliver.ensures.setup c.in-Some.ensures.stores c.in-Some.ensures.first c.in_ok-deliver.ensures.ok c.in_ok-deliver.ensures.room,
  pays_next g.D.Disk.faults g.D.Disk.lasts c.args.self.now.simulation.stores c.loop.self.simulation.stores c.deliver.new.self.simulation.stores c.args.self.now.pending.items c.loop.self.pending.items c.deliver.new.self.pending.items c.loop.invariant.1 c.deliver.ensures.paid,
)

pub returns-clause-err : goal.returns-clause-err
returns-clause-err g c =
    settles_full (seen_by g.D.Disk.seen) (images_by g.D.Disk.images) c.args.self.now.simulation c.loop.self.simulation c.args.self.now.pending.items c.loop.self.pending.items c.loop.counter (omega (arith, c.loop-test.false)) c.loop.invariant.0

pub loop-init : goal.loop-init
loop-init g c =
    (settles_none (seen_by g.D.Disk.seen) (images_by g.D.Disk.images) c.args.self.now.simulation c.args.self.now.pending.items, pays_same g.D.Disk.faults g.D.Disk.lasts c.args.self.now.simulation.stores c.args.self.now.simulation.stores c.args.self.now.pending.items c.args.self.now.pending.items refl refl)

pub returns-in_err-deliver-clause-paid : goal.returns-in_err-deliver-clause-paid
returns-in_err-deliver-clause-paid g c =
    pays_next g.D.Disk.faults g.D.Disk.lasts c.args.self.now.simulation.stores c.loop.self.simulation.stores c.deliver.new.self.simulation.stores c.args.self.now.pending.items c.loop.self.pending.items c.deliver.new.self.pending.items c.loop.invariant.1 c.deliver.ensures.paid

pub returns-in_default-clause-paid : goal.returns-in_default-clause-paid
returns-in_default-clause-paid g c = c.loop.invariant.1

pub returns-clause-paid : goal.returns-clause-paid
returns-clause-paid g c = c.loop.invariant.1

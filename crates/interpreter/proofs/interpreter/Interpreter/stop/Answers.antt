use Rattle.pasts.specs.Fuses.{seen_by, images_by}
use Rattle.world.specs.declared.event.Event.TheVariants.{Stop}
use Rattle.world.specs.declared.event.StopCause.TheVariants.{Asked}
use Rattle.node_store.proofs.Restarting.{err_at}
use Rattle.interpreter.proofs.EventHappens.{full_event}
use Rattle.std.proofs.Common.{refl}
use Rattle.simulation.specs.Payments.{none_at}
use Rattle.interpreter.proofs.Payments.{pays_same, pays_none}
use Rattle.interpreter.proofs.interpreter.Interpreter.stop.Goals as goal

pub returns-in_err-admit-clause-err : goal.returns-in_err-admit-clause-err
returns-in_err-admit-clause-err g c =
    err_at _ c.in_err-admit.field-0.0 _ c.from_residual.ensures.1
    (full_event (seen_by g.D.Disk.seen) (images_by g.D.Disk.images) c.args.self.now.simulation c.args.self.now.pending.items (Stop c.args.server Asked) c.in_err-admit.field-0.0 c.in_err-admit.ensures)

pub returns-in_err-admit-clause-paid : goal.returns-in_err-admit-clause-paid
returns-in_err-admit-clause-paid g c =
    pays_same g.D.Disk.faults g.D.Disk.lasts c.args.self.now.simulation.stores c.args.self.now.simulation.stores c.args.self.now.pending.items c.args.self.now.pending.items refl refl

pub returns-clause-paid : goal.returns-clause-paid
returns-clause-paid g c =
    pays_none g.D.Disk.faults g.D.Disk.lasts c.args.self.now.simulation.stores c.stop.new.self.stores c.args.self.now.pending.items c.args.self.now.pending.items none_at none_at c.stop.ensures.paid refl

use Rattle.std.proofs.Common.{arith, refl, ap}
use Rattle.pasts.specs.Fuses.{seen_by, images_by}
use Rattle.world.specs.declared.event.Event.TheVariants.{Tick}
use Rattle.node_store.proofs.Restarting.{err_at}
use Rattle.interpreter.proofs.EventHappens.{full_event, full_moment}
use Rattle.mds_out.specs.Fused.{Fused}
use Rattle.simulation.specs.Shows.{SimulationV}
use Rattle.interpreter.proofs.Payments.{pays_same}
use Rattle.interpreter.proofs.interpreter.Interpreter.tick.Goals as goal

pub returns-in_err-admit-clause-err : goal.returns-in_err-admit-clause-err
returns-in_err-admit-clause-err g c =
    err_at _ c.in_err-admit.field-0.0 _ c.from_residual.ensures.1
    (full_event (seen_by g.D.Disk.seen) (images_by g.D.Disk.images) c.args.self.now.simulation c.args.self.now.pending.items (Tick c.args.by) c.in_err-admit.field-0.0 c.in_err-admit.ensures)

pub returns-then-saturating_add-ge-MOMENTS-clause-err : goal.returns-then-saturating_add-ge-MOMENTS-clause-err
returns-then-saturating_add-ge-MOMENTS-clause-err g c =
    full_moment (seen_by g.D.Disk.seen) (images_by g.D.Disk.images) c.args.self.now.simulation c.args.self.now.pending.items c.args.by c.in_ok-admit.ensures (omega (arith, c.saturating_add.ensures, c.now.ensures))

pub returns-in_err-admit-clause-paid : goal.returns-in_err-admit-clause-paid
returns-in_err-admit-clause-paid g c =
    pays_same g.D.Disk.faults g.D.Disk.lasts c.args.self.now.simulation.stores c.args.self.now.simulation.stores c.args.self.now.pending.items c.args.self.now.pending.items refl refl

pub returns-then-saturating_add-ge-MOMENTS-clause-paid : goal.returns-then-saturating_add-ge-MOMENTS-clause-paid
returns-then-saturating_add-ge-MOMENTS-clause-paid g c =
    pays_same g.D.Disk.faults g.D.Disk.lasts c.args.self.now.simulation.stores c.args.self.now.simulation.stores c.args.self.now.pending.items c.args.self.now.pending.items refl refl

pub returns-clause-paid : goal.returns-clause-paid
returns-clause-paid g c =
    pays_same g.D.Disk.faults g.D.Disk.lasts c.args.self.now.simulation.stores c.tick.new.self.stores c.args.self.now.pending.items c.args.self.now.pending.items (ap (λ (s : SimulationV (Fused g.row.D.Denot)). s.stores) c.tick.ensures.after) refl

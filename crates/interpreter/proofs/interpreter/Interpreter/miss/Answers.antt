use Rattle.pasts.specs.Fuses.{seen_by, images_by}
use Rattle.std.proofs.Common.{None, refl, ap}
use Rattle.interpreter.specs.Steps.{IsDeliveredTo}
use Rattle.node_store.proofs.Restarting.{err_at}
use Rattle.interpreter.specs.Story.{IsDelivery}
use Rattle.interpreter.specs.declared.interpreter.Halt.TheVariants.{OutOfMemory}
use Rattle.interpreter.proofs.EventHappens.{full_miss, missed_does, delivery, done_printed, not_printed}
use Rattle.simulation.specs.Payments.{none_at}
use Rattle.mds_out.specs.Fused.{Fused}
use Rattle.simulation.specs.Shows.{SimulationV}
use Rattle.interpreter.proofs.Payments.{pays_same, pays_down, pays_at}
use Rattle.interpreter.proofs.interpreter.Interpreter.miss.Goals as goal

pub returns-in_err-admit-clause-err : goal.returns-in_err-admit-clause-err
returns-in_err-admit-clause-err g c =
    err_at _ c.in_err-admit.field-0.0 _ c.from_residual.ensures.1
    (full_miss (seen_by g.D.Disk.seen) (images_by g.D.Disk.images) c.args.self.now.simulation c.args.self.now.pending.items c.args.server c.args.message c.in_err-admit.field-0.0 c.requires.server c.requires.down c.in_err-admit.ensures)

pub returns-in_err-print-clause-err : goal.returns-in_err-print-clause-err
returns-in_err-print-clause-err g c =
    err_at _ OutOfMemory _ c.from_residual-in_err-print.ensures.1
    (not_printed (seen_by g.D.Disk.seen) (images_by g.D.Disk.images) c.args.self.now.simulation c.miss.new.self c.print.new.self.simulation c.args.self.now.pending.items c.print.new.self.pending.items _ (λ run. IsDelivery run c.args.message) c.in_err-print.ensures.simulation
    (delivery (seen_by g.D.Disk.seen) (images_by g.D.Disk.images) c.args.self.now.simulation c.miss.new.self c.args.message None _
    (missed_does (seen_by g.D.Disk.seen) (images_by g.D.Disk.images) c.args.self.now.simulation c.miss.new.self c.args.server c.args.message c.requires.server c.requires.down c.miss.ensures.happens c.miss.ensures.after)) c.in_err-print.ensures.err)

pub returns-clause-ok : goal.returns-clause-ok
returns-clause-ok g c =
    done_printed (seen_by g.D.Disk.seen) (images_by g.D.Disk.images) c.args.self.now.simulation c.miss.new.self c.print.new.self.simulation c.args.self.now.pending.items c.print.new.self.pending.items _ (IsDeliveredTo c.args.message None) c.in_ok-print.ensures.simulation
    (missed_does (seen_by g.D.Disk.seen) (images_by g.D.Disk.images) c.args.self.now.simulation c.miss.new.self c.args.server c.args.message c.requires.server c.requires.down c.miss.ensures.happens c.miss.ensures.after) c.in_ok-print.ensures.ok

pub returns-in_err-admit-clause-paid : goal.returns-in_err-admit-clause-paid
returns-in_err-admit-clause-paid g c =
    pays_same g.D.Disk.faults g.D.Disk.lasts c.args.self.now.simulation.stores c.args.self.now.simulation.stores c.args.self.now.pending.items c.args.self.now.pending.items refl refl

pub returns-in_err-print-clause-paid : goal.returns-in_err-print-clause-paid
returns-in_err-print-clause-paid g c =
    pays_at g.D.Disk.faults g.D.Disk.lasts c.args.self.now.simulation.stores c.miss.new.self c.print.new.self.simulation c.args.self.now.pending.items c.print.new.self.pending.items none_at c.in_err-print.ensures.simulation
    (pays_same g.D.Disk.faults g.D.Disk.lasts c.args.self.now.simulation.stores c.miss.new.self.stores c.args.self.now.pending.items c.print.new.self.pending.items (ap (λ (s : SimulationV (Fused g.row.D.Denot)). s.stores) c.miss.ensures.after) c.in_err-print.ensures.err)

pub returns-clause-paid : goal.returns-clause-paid
returns-clause-paid g c =
    pays_at g.D.Disk.faults g.D.Disk.lasts c.args.self.now.simulation.stores c.miss.new.self c.print.new.self.simulation c.args.self.now.pending.items c.print.new.self.pending.items none_at c.in_ok-print.ensures.simulation
    (pays_down g.D.Disk.faults g.D.Disk.lasts c.args.self.now.simulation.stores c.miss.new.self.stores c.args.self.now.pending.items c.print.new.self.pending.items c.args.server (ap (λ (s : SimulationV (Fused g.row.D.Denot)). s.stores) c.miss.ensures.after) c.in_ok-print.ensures.ok)

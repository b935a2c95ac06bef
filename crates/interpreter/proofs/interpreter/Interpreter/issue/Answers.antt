use Rattle.std.proofs.Common.{refl}
use Rattle.pasts.specs.Fuses.{seen_by, images_by}
use Rattle.simulation.specs.Shows.{IsNone}
use Rattle.world.specs.declared.event.Event.TheVariants.{Issue}
use Rattle.interpreter.specs.declared.interpreter.Halt.TheVariants.{OutOfMemory}
use Rattle.interpreter.specs.Steps.{IsEvent}
use Rattle.node_store.proofs.Restarting.{err_at}
use Rattle.interpreter.proofs.EventHappens.{full_event, refused}
use Rattle.interpreter.proofs.Payments.{pays_same}
use Rattle.interpreter.proofs.interpreter.Interpreter.issue.Goals as goal

pub returns-in_err-admit-clause-err : goal.returns-in_err-admit-clause-err
returns-in_err-admit-clause-err g c =
    err_at _ c.in_err-admit.field-0.0 _ c.from_residual.ensures.1
    (full_event (seen_by g.D.Disk.seen) (images_by g.D.Disk.images) c.args.self.now.simulation c.args.self.now.pending.items (Issue c.args.client c.args.call) c.in_err-admit.field-0.0 c.in_err-admit.ensures)

pub returns-in_err-message-clause-err : goal.returns-in_err-message-clause-err
returns-in_err-message-clause-err g c =
    err_at _ OutOfMemory _ c.from_residual-in_err-message.ensures.1
    (refused (seen_by g.D.Disk.seen) (images_by g.D.Disk.images) c.args.self.now.simulation c.issue.new.self c.args.self.now.pending.items c.args.self.now.pending.items (IsEvent (Issue c.args.client c.args.call)) IsNone c.in_err-message.ensures.err (λ run shows event none. absurd none) c.issue.ensures.setup refl)

pub returns-in_err-admit-clause-paid : goal.returns-in_err-admit-clause-paid
returns-in_err-admit-clause-paid g c =
    pays_same g.D.Disk.faults g.D.Disk.lasts c.args.self.now.simulation.stores c.args.self.now.simulation.stores c.args.self.now.pending.items c.args.self.now.pending.items refl refl

pub returns-in_err-message-clause-paid : goal.returns-in_err-message-clause-paid
returns-in_err-message-clause-paid g c =
    pays_same g.D.Disk.faults g.D.Disk.lasts c.args.self.now.simulation.stores c.issue.new.self.stores c.args.self.now.pending.items c.args.self.now.pending.items c.issue.ensures.stores refl

pub returns-clause-paid : goal.returns-clause-paid
returns-clause-paid g c =
    pays_same g.D.Disk.faults g.D.Disk.lasts c.args.self.now.simulation.stores c.issue.new.self.stores c.args.self.now.pending.items c.args.self.now.pending.items c.issue.ensures.stores refl

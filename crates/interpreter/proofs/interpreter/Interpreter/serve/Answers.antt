use Rattle.std.proofs.Common.{refl, sym, Some, None, arith}
use Rattle.pasts.specs.Fuses.{seen_by, images_by}
use Rattle.simulation.specs.Shows.{IsServeAt}
use Rattle.interpreter.specs.declared.interpreter.Halt.TheVariants.{OutOfMemory}
use Rattle.interpreter.specs.Steps.{IsDeliveredTo}
use Rattle.interpreter.specs.Story.{IsDelivery}
use Rattle.node_store.proofs.Restarting.{err_at}
use Rattle.interpreter.proofs.EventHappens.{full_serve, full_numbers, refused, serve_kind, answered_does, silent_does, stopped_does, delivery, done_silently, done_printed, not_printed}
use Rattle.simulation.specs.Payments.{none_at, once_at}
use Rattle.interpreter.proofs.Payments.{pays_same, pays_none, pays_stop, pays_at}
use Rattle.interpreter.proofs.interpreter.Interpreter.serve.Goals as goal

pub returns-in_err-admit-clause-err : goal.returns-in_err-admit-clause-err
returns-in_err-admit-clause-err g c =
    err_at _ c.in_err-admit.field-0.0 _ c.from_residual.ensures.1
    (full_serve (seen_by g.D.Disk.seen) (images_by g.D.Disk.images) c.args.self.now.simulation c.args.self.now.pending.items c.args.server c.args.message c.in_err-admit.field-0.0 c.requires.server c.requires.up c.in_err-admit.ensures)

pub returns-then-not-has_numbers-clause-err : goal.returns-then-not-has_numbers-clause-err
returns-then-not-has_numbers-clause-err g c =
    full_numbers (seen_by g.D.Disk.seen) (images_by g.D.Disk.images) c.args.self.now.simulation c.args.self.now.pending.items c.args.server c.args.message c.in_ok-admit.ensures c.requires.server c.requires.up (sym c.if-not-has_numbers.ensures)

pub returns-in_err-message-clause-err : goal.returns-in_err-message-clause-err
returns-in_err-message-clause-err g c =
    err_at _ OutOfMemory _ c.from_residual-in_err-message.ensures.1
    (refused (seen_by g.D.Disk.seen) (images_by g.D.Disk.images) c.args.self.now.simulation c.serve.new.self c.args.self.now.pending.items c.args.self.now.pending.items (λ run. IsDelivery run c.args.message) (IsServeAt c.args.server c.args.message) (c.in_err-message.ensures.err c.args.server c.requires.server)
    (serve_kind (seen_by g.D.Disk.seen) (images_by g.D.Disk.images) c.args.self.now.simulation c.args.server c.args.message c.requires.server c.requires.up) c.serve.ensures.setup refl)

pub returns-in_err-print-in-Stopped-clause-err : goal.returns-in_err-print-in-Stopped-clause-err
returns-in_err-print-in-Stopped-clause-err g c =
    err_at _ OutOfMemory _ c.from_residual-in_err-print-in-Stopped.ensures.1
    (not_printed (seen_by g.D.Disk.seen) (images_by g.D.Disk.images) c.args.self.now.simulation c.serve.new.self c.print.new.self.simulation c.args.self.now.pending.items c.print.new.self.pending.items _ (λ run. IsDelivery run c.args.message) c.in_err-print-in-Stopped.ensures.simulation
    (delivery (seen_by g.D.Disk.seen) (images_by g.D.Disk.images) c.args.self.now.simulation c.serve.new.self c.args.message None _ (stopped_does (seen_by g.D.Disk.seen) (images_by g.D.Disk.images) c.args.self.now.simulation c.serve.new.self c.args.server c.args.message c.requires.server c.requires.up (rw c.in-Stopped.is at (c.in_ok-message.ensures.ok c.args.server c.requires.server)))) c.in_err-print-in-Stopped.ensures.err)

pub returns-in-Answered-clause-ok : goal.returns-in-Answered-clause-ok
returns-in-Answered-clause-ok g c =
    done_silently (seen_by g.D.Disk.seen) (images_by g.D.Disk.images) c.args.self.now.simulation c.serve.new.self c.args.self.now.pending.items c.args.self.now.pending.items (IsDeliveredTo c.args.message (Some c.in-Answered.message))
    (answered_does (seen_by g.D.Disk.seen) (images_by g.D.Disk.images) c.args.self.now.simulation c.serve.new.self c.args.server c.args.message c.requires.server c.in-Answered.message c.requires.up (rw c.in-Answered.is at (c.in_ok-message.ensures.ok c.args.server c.requires.server))) refl

pub returns-in-Silent-clause-ok : goal.returns-in-Silent-clause-ok
returns-in-Silent-clause-ok g c =
    done_silently (seen_by g.D.Disk.seen) (images_by g.D.Disk.images) c.args.self.now.simulation c.serve.new.self c.args.self.now.pending.items c.args.self.now.pending.items (IsDeliveredTo c.args.message None)
    (silent_does (seen_by g.D.Disk.seen) (images_by g.D.Disk.images) c.args.self.now.simulation c.serve.new.self c.args.server c.args.message c.requires.server c.requires.up (rw c.in-Silent.is at (c.in_ok-message.ensures.ok c.args.server c.requires.server))) refl

pub returns-in_ok-print-in-Stopped-clause-ok : goal.returns-in_ok-print-in-Stopped-clause-ok
returns-in_ok-print-in-Stopped-clause-ok g c =
    done_printed (seen_by g.D.Disk.seen) (images_by g.D.Disk.images) c.args.self.now.simulation c.serve.new.self c.print.new.self.simulation c.args.self.now.pending.items c.print.new.self.pending.items _ (IsDeliveredTo c.args.message None) c.in_ok-print-in-Stopped.ensures.simulation
    (stopped_does (seen_by g.D.Disk.seen) (images_by g.D.Disk.images) c.args.self.now.simulation c.serve.new.self c.args.server c.args.message c.requires.server c.requires.up (rw c.in-Stopped.is at (c.in_ok-message.ensures.ok c.args.server c.requires.server))) c.in_ok-print-in-Stopped.ensures.ok

pub returns-in_err-admit-clause-paid : goal.returns-in_err-admit-clause-paid
returns-in_err-admit-clause-paid g c =
    pays_same g.D.Disk.faults g.D.Disk.lasts c.args.self.now.simulation.stores c.args.self.now.simulation.stores c.args.self.now.pending.items c.args.self.now.pending.items refl refl

pub returns-then-not-has_numbers-clause-paid : goal.returns-then-not-has_numbers-clause-paid
returns-then-not-has_numbers-clause-paid g c =
    pays_same g.D.Disk.faults g.D.Disk.lasts c.args.self.now.simulation.stores c.args.self.now.simulation.stores c.args.self.now.pending.items c.args.self.now.pending.items refl refl

pub returns-in_err-message-clause-paid : goal.returns-in_err-message-clause-paid
returns-in_err-message-clause-paid g c =
    pays_none g.D.Disk.faults g.D.Disk.lasts c.args.self.now.simulation.stores c.serve.new.self.stores c.args.self.now.pending.items c.args.self.now.pending.items none_at none_at (c.in_err-message.ensures.paid c.args.server c.requires.server) refl

pub returns-in-Answered-clause-paid : goal.returns-in-Answered-clause-paid
returns-in-Answered-clause-paid g c =
    pays_none g.D.Disk.faults g.D.Disk.lasts c.args.self.now.simulation.stores c.serve.new.self.stores c.args.self.now.pending.items c.args.self.now.pending.items none_at none_at (rw c.in-Answered.is at (c.in_ok-message.ensures.paid c.args.server c.requires.server)) refl

pub returns-in-Silent-clause-paid : goal.returns-in-Silent-clause-paid
returns-in-Silent-clause-paid g c =
    pays_none g.D.Disk.faults g.D.Disk.lasts c.args.self.now.simulation.stores c.serve.new.self.stores c.args.self.now.pending.items c.args.self.now.pending.items none_at none_at (rw c.in-Silent.is at (c.in_ok-message.ensures.paid c.args.server c.requires.server)) refl

pub returns-in_ok-print-in-Stopped-clause-paid : goal.returns-in_ok-print-in-Stopped-clause-paid
returns-in_ok-print-in-Stopped-clause-paid g c =
    pays_at g.D.Disk.faults g.D.Disk.lasts c.args.self.now.simulation.stores c.serve.new.self c.print.new.self.simulation c.args.self.now.pending.items c.print.new.self.pending.items none_at c.in_ok-print-in-Stopped.ensures.simulation
    (pays_stop g.D.Disk.faults g.D.Disk.lasts c.args.self.now.simulation.stores c.serve.new.self.stores c.args.self.now.pending.items c.print.new.self.pending.items c.args.server (omega (arith, c.ranges.server.fits)) (rw c.in-Stopped.is at (c.in_ok-message.ensures.paid c.args.server c.requires.server)) c.in_ok-print-in-Stopped.ensures.ok)

pub returns-in_err-print-in-Stopped-clause-paid : goal.returns-in_err-print-in-Stopped-clause-paid
returns-in_err-print-in-Stopped-clause-paid g c =
    pays_at g.D.Disk.faults g.D.Disk.lasts c.args.self.now.simulation.stores c.serve.new.self c.print.new.self.simulation c.args.self.now.pending.items c.print.new.self.pending.items none_at c.in_err-print-in-Stopped.ensures.simulation
    (pays_none g.D.Disk.faults g.D.Disk.lasts c.args.self.now.simulation.stores c.serve.new.self.stores c.args.self.now.pending.items c.print.new.self.pending.items (once_at c.args.server) none_at (rw c.in-Stopped.is at (c.in_ok-message.ensures.paid c.args.server c.requires.server)) c.in_err-print-in-Stopped.ensures.err)

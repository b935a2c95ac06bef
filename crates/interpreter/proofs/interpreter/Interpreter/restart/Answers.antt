use Rattle.std.proofs.Common.{refl, sym, subst, arith}
use Rattle.pasts.specs.Fuses.{seen_by, images_by}
use Rattle.script.specs.declared.line.Line.TheVariants.{Restart}
use Rattle.simulation.specs.Shows.{IsRestartOf}
use Rattle.interpreter.specs.declared.interpreter.Halt.TheVariants.{OutOfMemory}
use Rattle.interpreter.specs.Steps.{HaltsLine}
use Rattle.interpreter.specs.Story.{IsRestarted}
use Rattle.node_store.proofs.Restarting.{err_at}
use Rattle.interpreter.proofs.EventHappens.{full_restart, halts_line, restarted_does, unrestarted_does, restart_kind, faulted, done_silently, done_printed, not_printed}
use Rattle.simulation.specs.Payments.{none_at, once_at}
use Rattle.interpreter.proofs.Payments.{pays_same, pays_none, pays_stop, pays_at}
use Rattle.interpreter.proofs.interpreter.Interpreter.restart.Goals as goal

pub returns-in_err-admit-clause-err : goal.returns-in_err-admit-clause-err
returns-in_err-admit-clause-err g c =
    err_at _ c.in_err-admit.field-0.0 _ c.from_residual.ensures.1
    (halts_line (seen_by g.D.Disk.seen) (images_by g.D.Disk.images) c.args.self.now.simulation c.args.self.now.simulation c.args.self.now.pending.items c.args.self.now.pending.items (Restart c.args.server) c.in_err-admit.field-0.0
    (full_restart (seen_by g.D.Disk.seen) (images_by g.D.Disk.images) c.args.self.now.simulation c.args.self.now.pending.items c.args.server c.in_err-admit.field-0.0 c.in_err-admit.ensures))

pub returns-in_err-print-in-Ok-Stopped-clause-err : goal.returns-in_err-print-in-Ok-Stopped-clause-err
returns-in_err-print-in-Ok-Stopped-clause-err g c =
    err_at _ OutOfMemory _ c.from_residual-in_err-print-in-Ok-Stopped.ensures.1
    (halts_line (seen_by g.D.Disk.seen) (images_by g.D.Disk.images) c.args.self.now.simulation c.print.new.self.simulation c.args.self.now.pending.items c.print.new.self.pending.items (Restart c.args.server) OutOfMemory
    (not_printed (seen_by g.D.Disk.seen) (images_by g.D.Disk.images) c.args.self.now.simulation c.restart.new.self c.print.new.self.simulation c.args.self.now.pending.items c.print.new.self.pending.items _ (λ run. IsRestarted c.args.server) c.in_err-print-in-Ok-Stopped.ensures.simulation
    (unrestarted_does (seen_by g.D.Disk.seen) (images_by g.D.Disk.images) c.args.self.now.simulation c.restart.new.self c.args.server (rw c.in-Ok-Stopped.field-0-is at c.in-Ok-Stopped.ensures.ok)) c.in_err-print-in-Ok-Stopped.ensures.err))

pub returns-in-Ok-Up-clause-ok : goal.returns-in-Ok-Up-clause-ok
returns-in-Ok-Up-clause-ok g c =
    done_silently (seen_by g.D.Disk.seen) (images_by g.D.Disk.images) c.args.self.now.simulation c.restart.new.self c.args.self.now.pending.items c.args.self.now.pending.items (λ run. IsRestarted c.args.server)
    (restarted_does (seen_by g.D.Disk.seen) (images_by g.D.Disk.images) c.args.self.now.simulation c.restart.new.self c.args.server (rw c.in-Ok-Up.field-0-is at c.in-Ok-Up.ensures.ok)) refl

pub returns-in_ok-print-in-Ok-Stopped-clause-ok : goal.returns-in_ok-print-in-Ok-Stopped-clause-ok
returns-in_ok-print-in-Ok-Stopped-clause-ok g c =
    done_printed (seen_by g.D.Disk.seen) (images_by g.D.Disk.images) c.args.self.now.simulation c.restart.new.self c.print.new.self.simulation c.args.self.now.pending.items c.print.new.self.pending.items _ (λ run. IsRestarted c.args.server) c.in_ok-print-in-Ok-Stopped.ensures.simulation
    (unrestarted_does (seen_by g.D.Disk.seen) (images_by g.D.Disk.images) c.args.self.now.simulation c.restart.new.self c.args.server (rw c.in-Ok-Stopped.field-0-is at c.in-Ok-Stopped.ensures.ok)) c.in_ok-print-in-Ok-Stopped.ensures.ok

pub returns-in-Err-clause-err : goal.returns-in-Err-clause-err
returns-in-Err-clause-err g c =
    subst (HaltsLine (seen_by g.D.Disk.seen) (images_by g.D.Disk.images) c.args.self.now.simulation c.restart.new.self c.args.self.now.pending.items c.args.self.now.pending.items (Restart c.args.server)) (sym c.halt_of.ensures)
    (faulted (seen_by g.D.Disk.seen) (images_by g.D.Disk.images) c.args.self.now.simulation c.restart.new.self c.args.self.now.pending.items c.args.self.now.pending.items c.args.server c.in-Err.fault (IsRestartOf c.args.server) c.in-Err.ensures.err (restart_kind (seen_by g.D.Disk.seen) (images_by g.D.Disk.images) c.args.self.now.simulation c.args.server) c.restart.ensures.setup refl c.in-Err.ensures.fault c.in-Err.ensures.damaged)

pub returns-in_err-admit-clause-paid : goal.returns-in_err-admit-clause-paid
returns-in_err-admit-clause-paid g c =
    pays_same g.D.Disk.faults g.D.Disk.lasts c.args.self.now.simulation.stores c.args.self.now.simulation.stores c.args.self.now.pending.items c.args.self.now.pending.items refl refl

pub returns-in-Ok-Up-clause-paid : goal.returns-in-Ok-Up-clause-paid
returns-in-Ok-Up-clause-paid g c =
    pays_none g.D.Disk.faults g.D.Disk.lasts c.args.self.now.simulation.stores c.restart.new.self.stores c.args.self.now.pending.items c.args.self.now.pending.items none_at none_at (rw c.in-Ok-Up.field-0-is at c.in-Ok-Up.ensures.paid) refl

pub returns-in_ok-print-in-Ok-Stopped-clause-paid : goal.returns-in_ok-print-in-Ok-Stopped-clause-paid
returns-in_ok-print-in-Ok-Stopped-clause-paid g c =
    pays_at g.D.Disk.faults g.D.Disk.lasts c.args.self.now.simulation.stores c.restart.new.self c.print.new.self.simulation c.args.self.now.pending.items c.print.new.self.pending.items none_at c.in_ok-print-in-Ok-Stopped.ensures.simulation
    (pays_stop g.D.Disk.faults g.D.Disk.lasts c.args.self.now.simulation.stores c.restart.new.self.stores c.args.self.now.pending.items c.print.new.self.pending.items c.args.server (omega (arith, c.ranges.server.fits)) (rw c.in-Ok-Stopped.field-0-is at c.in-Ok-Stopped.ensures.paid) c.in_ok-print-in-Ok-Stopped.ensures.ok)

pub returns-in_err-print-in-Ok-Stopped-clause-paid : goal.returns-in_err-print-in-Ok-Stopped-clause-paid
returns-in_err-print-in-Ok-Stopped-clause-paid g c =
    pays_at g.D.Disk.faults g.D.Disk.lasts c.args.self.now.simulation.stores c.restart.new.self c.print.new.self.simulation c.args.self.now.pending.items c.print.new.self.pending.items none_at c.in_err-print-in-Ok-Stopped.ensures.simulation
    (pays_none g.D.Disk.faults g.D.Disk.lasts c.args.self.now.simulation.stores c.restart.new.self.stores c.args.self.now.pending.items c.print.new.self.pending.items (once_at c.args.server) none_at (rw c.in-Ok-Stopped.field-0-is at c.in-Ok-Stopped.ensures.paid) c.in_err-print-in-Ok-Stopped.ensures.err)

pub returns-in-Err-clause-paid : goal.returns-in-Err-clause-paid
returns-in-Err-clause-paid g c =
    pays_none g.D.Disk.faults g.D.Disk.lasts c.args.self.now.simulation.stores c.restart.new.self.stores c.args.self.now.pending.items c.args.self.now.pending.items none_at none_at c.in-Err.ensures.paid refl

use Rattle.std.proofs.Common.{◌≡◌, ◌∙◌, refl, sym, ap, subst, ◌&&◌, Some, arith}
use Rattle.mds_out.specs.Fused.{Fused}
use Rattle.pasts.specs.Fuses.{seen_by, images_by}
use Rattle.simulation.specs.Shows.{IsNone}
use Rattle.simulation.specs.Runs.{RunV}
use Rattle.simulation.specs.Shows.{SimulationV, Shows, client_at, is_busy}
use Rattle.world.specs.declared.event.Event.TheVariants.{Take}
use Rattle.interpreter.specs.declared.interpreter.Halt.TheVariants.{OutOfMemory}
use Rattle.interpreter.specs.EventText.{event_text}
use Rattle.interpreter.specs.Steps.{IsEvent}
use Rattle.interpreter.specs.Story.{is_redirected, redirects}
use Rattle.interpreter.specs.Text.{taken_line}
use Rattle.node_store.proofs.Restarting.{err_at}
use Rattle.interpreter.proofs.EventHappens.{full_event, refused, does_event, done_printed, not_printed}
use Rattle.interpreter.proofs.TakeRedirects.{take_line, take_redirects}
use Rattle.simulation.specs.Payments.{none_at}
use Rattle.interpreter.proofs.Payments.{pays_same, pays_taken, pays_at}
use Rattle.interpreter.proofs.interpreter.Interpreter.take.Goals as goal
use Rattle.interpreter.proofs.interpreter.Interpreter.take.Goals.{then-busy, else-busy}

pub returns-in_err-admit-clause-err : goal.returns-in_err-admit-clause-err
returns-in_err-admit-clause-err g c =
    err_at _ c.in_err-admit.field-0.0 _ c.from_residual.ensures.1
    (full_event (seen_by g.D.Disk.seen) (images_by g.D.Disk.images) c.args.self.now.simulation c.args.self.now.pending.items (Take c.args.client c.args.message) c.in_err-admit.field-0.0 c.in_err-admit.ensures)

pub returns-in_err-taken-clause-err : goal.returns-in_err-taken-clause-err
returns-in_err-taken-clause-err g c =
    err_at _ OutOfMemory _ c.from_residual-in_err-taken.ensures.1
    (refused (seen_by g.D.Disk.seen) (images_by g.D.Disk.images) c.args.self.now.simulation c.take.new.self c.args.self.now.pending.items c.args.self.now.pending.items (IsEvent (Take c.args.client c.args.message)) IsNone c.in_err-taken.ensures.err (λ run shows event none. absurd none) c.take.ensures.setup refl)

pub returns-in_err-print-clause-err : goal.returns-in_err-print-clause-err
returns-in_err-print-clause-err g c =
    err_at _ OutOfMemory _ c.from_residual-in_err-print.ensures.1
    (not_printed (seen_by g.D.Disk.seen) (images_by g.D.Disk.images) c.args.self.now.simulation c.take.new.self c.print.new.self.simulation c.args.self.now.pending.items c.print.new.self.pending.items _ (IsEvent (Take c.args.client c.args.message)) c.in_err-print.ensures.simulation
    (does_event (seen_by g.D.Disk.seen) (images_by g.D.Disk.images) c.args.self.now.simulation c.take.new.self (Take c.args.client c.args.message) _ c.in_ok-taken.ensures.ok
    (subst (λ seq. (run : RunV) → Shows (seen_by g.D.Disk.seen) (images_by g.D.Disk.images) c.args.self.now.simulation run → event_text run.trace.world (Take c.args.client c.args.message) ≡ taken_line c.args.client seq c.in_ok-taken.taken) (sym c.seq-seq.ensures)
    (take_line (seen_by g.D.Disk.seen) (images_by g.D.Disk.images) c.args.self.now.simulation c.take.new.self c.args.client c.args.message c.client.result.now c.in_ok-taken.taken c.client.ensures c.in_ok-taken.ensures.taken))) c.in_err-print.ensures.err)

pub returns-clause-ok : goal.returns-clause-ok
returns-clause-ok g c =
    done_printed (seen_by g.D.Disk.seen) (images_by g.D.Disk.images) c.args.self.now.simulation c.take.new.self c.print.new.self.simulation c.args.self.now.pending.items c.print.new.self.pending.items _ (IsEvent (Take c.args.client c.args.message)) c.in_ok-print.ensures.simulation
    (does_event (seen_by g.D.Disk.seen) (images_by g.D.Disk.images) c.args.self.now.simulation c.take.new.self (Take c.args.client c.args.message) _ c.in_ok-taken.ensures.ok
    (subst (λ seq. (run : RunV) → Shows (seen_by g.D.Disk.seen) (images_by g.D.Disk.images) c.args.self.now.simulation run → event_text run.trace.world (Take c.args.client c.args.message) ≡ taken_line c.args.client seq c.in_ok-taken.taken) (sym c.seq-seq.ensures)
    (take_line (seen_by g.D.Disk.seen) (images_by g.D.Disk.images) c.args.self.now.simulation c.take.new.self c.args.client c.args.message c.client.result.now c.in_ok-taken.taken c.client.ensures c.in_ok-taken.ensures.taken))) c.in_ok-print.ensures.ok

pub returns-clause-redirected : goal.returns-clause-redirected
returns-clause-redirected g c run shows =
    let busy : is_busy (client_at c.take.new.self.clients c.args.client) ≡ c.busy-busy.result = ap (λ (s : SimulationV (Fused g.row.D.Denot)). is_busy (client_at s.clients c.args.client)) (sym c.in_ok-print.ensures.simulation) ∙ ap is_busy c.client-2.ensures ∙ sym c.busy-busy.ensures in
    let both : (c.busy-busy.result && is_redirected (Some c.in_ok-taken.taken)) ≡ redirects run.trace.world c.args.client c.args.message =
    take_redirects (seen_by g.D.Disk.seen) (images_by g.D.Disk.images) c.args.self.now.simulation c.take.new.self c.args.client c.args.message c.in_ok-taken.taken c.busy-busy.result c.in_ok-taken.ensures.taken busy c.in_ok-taken.ensures.ok run shows in
    elim c.if-busy.branch [
      | then-busy w ↦ w.result-is ∙ w.is_redirected.ensures ∙ ap (λ b. b && is_redirected (Some c.in_ok-taken.taken)) (sym w.if-busy.true) ∙ both
      | else-busy w ↦ w.result-is ∙ w.if-busy.false ∙ ap (λ b. b && is_redirected (Some c.in_ok-taken.taken)) (sym w.if-busy.false) ∙ both
    ]

pub returns-in_err-admit-clause-paid : goal.returns-in_err-admit-clause-paid
returns-in_err-admit-clause-paid g c =
    pays_same g.D.Disk.faults g.D.Disk.lasts c.args.self.now.simulation.stores c.args.self.now.simulation.stores c.args.self.now.pending.items c.args.self.now.pending.items refl refl

pub returns-in_err-taken-clause-paid : goal.returns-in_err-taken-clause-paid
returns-in_err-taken-clause-paid g c =
    pays_same g.D.Disk.faults g.D.Disk.lasts c.args.self.now.simulation.stores c.take.new.self.stores c.args.self.now.pending.items c.args.self.now.pending.items c.take.ensures.stores refl

pub returns-in_err-print-clause-paid : goal.returns-in_err-print-clause-paid
returns-in_err-print-clause-paid g c =
    pays_at g.D.Disk.faults g.D.Disk.lasts c.args.self.now.simulation.stores c.take.new.self c.print.new.self.simulation c.args.self.now.pending.items c.print.new.self.pending.items none_at c.in_err-print.ensures.simulation
    (pays_same g.D.Disk.faults g.D.Disk.lasts c.args.self.now.simulation.stores c.take.new.self.stores c.args.self.now.pending.items c.print.new.self.pending.items c.take.ensures.stores c.in_err-print.ensures.err)

pub returns-clause-paid : goal.returns-clause-paid
returns-clause-paid g c =
    pays_at g.D.Disk.faults g.D.Disk.lasts c.args.self.now.simulation.stores c.take.new.self c.print.new.self.simulation c.args.self.now.pending.items c.print.new.self.pending.items none_at c.in_ok-print.ensures.simulation
    (pays_taken g.D.Disk.faults g.D.Disk.lasts c.args.self.now.simulation.stores c.take.new.self.stores c.args.self.now.pending.items c.print.new.self.pending.items c.args.client _ c.in_ok-taken.taken (omega (arith, c.ranges.client.fits)) c.take.ensures.stores c.in_ok-print.ensures.ok)

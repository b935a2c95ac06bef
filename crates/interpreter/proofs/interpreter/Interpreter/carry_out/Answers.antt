use Rattle.std.proofs.Common.{sym, subst, refl}
use Rattle.std.specs.Prelude.{IfErr}
use Rattle.script.specs.declared.line.Line.{Line}
use Rattle.script.specs.declared.line.Line.TheVariants.{Skipped, Call, Issue, Retry, Deliver, Take, Settle, Tick, Fuse, Stop}
use Rattle.pasts.specs.Fuses.{seen_by, images_by}
use Rattle.simulation.specs.Payments.{none_at, once_at}
use Rattle.interpreter.specs.Steps.{Arms, HaltsLine}
use Rattle.node_store.proofs.Restarting.{err_at}
use Rattle.interpreter.proofs.EventHappens.{on_any, halts_line, halts_at}
use Rattle.interpreter.proofs.Payments.{pays_same, pays_none, pays_line}
use Rattle.interpreter.proofs.interpreter.Interpreter.carry_out.Goals as goal

pub returns-in-Call-clause-err : goal.returns-in-Call-clause-err
returns-in-Call-clause-err g c = halts_at (seen_by g.D.Disk.seen) (images_by g.D.Disk.images) c.call.result c.args.self.now.simulation c.call.new.self.simulation c.args.self.now.pending.items c.call.new.self.pending.items c.args.line (Call c.in-Call.client c.in-Call.call) c.in-Call.is c.call.ensures.err

pub returns-in_err-issue-in-Issue-clause-err : goal.returns-in_err-issue-in-Issue-clause-err
returns-in_err-issue-in-Issue-clause-err g c =
    err_at _ c.in_err-issue-in-Issue.field-0.0 _ c.from_residual.ensures.1
    (subst (λ (line : Line). HaltsLine (seen_by g.D.Disk.seen) (images_by g.D.Disk.images) c.args.self.now.simulation c.issue.new.self.simulation c.args.self.now.pending.items c.issue.new.self.pending.items line c.in_err-issue-in-Issue.field-0.0) (sym c.in-Issue.is)
    (halts_line (seen_by g.D.Disk.seen) (images_by g.D.Disk.images) c.args.self.now.simulation c.issue.new.self.simulation c.args.self.now.pending.items c.issue.new.self.pending.items (Issue c.in-Issue.client c.in-Issue.call) c.in_err-issue-in-Issue.field-0.0 c.in_err-issue-in-Issue.ensures.err))

pub returns-in-Retry-clause-err : goal.returns-in-Retry-clause-err
returns-in-Retry-clause-err g c = halts_at (seen_by g.D.Disk.seen) (images_by g.D.Disk.images) c.retry.result c.args.self.now.simulation c.retry.new.self.simulation c.args.self.now.pending.items c.retry.new.self.pending.items c.args.line (Retry c.in-Retry.client) c.in-Retry.is c.retry.ensures.err

pub returns-in_err-deliver-in-Deliver-clause-err : goal.returns-in_err-deliver-in-Deliver-clause-err
returns-in_err-deliver-in-Deliver-clause-err g c =
    err_at _ c.in_err-deliver-in-Deliver.field-0.0 _ c.from_residual-in_err-deliver-in-Deliver.ensures.1
    (subst (λ (line : Line). HaltsLine (seen_by g.D.Disk.seen) (images_by g.D.Disk.images) c.args.self.now.simulation c.deliver.new.self.simulation c.args.self.now.pending.items c.deliver.new.self.pending.items line c.in_err-deliver-in-Deliver.field-0.0) (sym c.in-Deliver.is)
    (halts_line (seen_by g.D.Disk.seen) (images_by g.D.Disk.images) c.args.self.now.simulation c.deliver.new.self.simulation c.args.self.now.pending.items c.deliver.new.self.pending.items (Deliver c.in-Deliver.message) c.in_err-deliver-in-Deliver.field-0.0 c.in_err-deliver-in-Deliver.ensures.err))

pub returns-in_err-take-in-Take-clause-err : goal.returns-in_err-take-in-Take-clause-err
returns-in_err-take-in-Take-clause-err g c =
    err_at _ c.in_err-take-in-Take.field-0.0 _ c.from_residual-in_err-take-in-Take.ensures.1
    (subst (λ (line : Line). HaltsLine (seen_by g.D.Disk.seen) (images_by g.D.Disk.images) c.args.self.now.simulation c.take.new.self.simulation c.args.self.now.pending.items c.take.new.self.pending.items line c.in_err-take-in-Take.field-0.0) (sym c.in-Take.is)
    (halts_line (seen_by g.D.Disk.seen) (images_by g.D.Disk.images) c.args.self.now.simulation c.take.new.self.simulation c.args.self.now.pending.items c.take.new.self.pending.items (Take c.in-Take.client c.in-Take.message) c.in_err-take-in-Take.field-0.0 c.in_err-take-in-Take.ensures.err))

pub returns-in-Settle-clause-err : goal.returns-in-Settle-clause-err
returns-in-Settle-clause-err g c = halts_at (seen_by g.D.Disk.seen) (images_by g.D.Disk.images) c.settle.result c.args.self.now.simulation c.settle.new.self.simulation c.args.self.now.pending.items c.settle.new.self.pending.items c.args.line (Settle) c.in-Settle.is c.settle.ensures.err

pub returns-in-Tick-clause-err : goal.returns-in-Tick-clause-err
returns-in-Tick-clause-err g c = halts_at (seen_by g.D.Disk.seen) (images_by g.D.Disk.images) c.tick.result c.args.self.now.simulation c.tick.new.self.simulation c.args.self.now.pending.items c.tick.new.self.pending.items c.args.line (Tick c.in-Tick.by) c.in-Tick.is c.tick.ensures.err

pub returns-in-Stop-clause-err : goal.returns-in-Stop-clause-err
returns-in-Stop-clause-err g c = halts_at (seen_by g.D.Disk.seen) (images_by g.D.Disk.images) c.stop.result c.args.self.now.simulation c.stop.new.self.simulation c.args.self.now.pending.items c.stop.new.self.pending.items c.args.line (Stop c.in-Stop.server) c.in-Stop.is c.stop.ensures.err

pub returns-in-Restart-clause-err : goal.returns-in-Restart-clause-err
returns-in-Restart-clause-err g c =
    subst (λ (line : Line). IfErr c.restart.result (HaltsLine (seen_by g.D.Disk.seen) (images_by g.D.Disk.images) c.args.self.now.simulation c.restart.new.self.simulation c.args.self.now.pending.items c.restart.new.self.pending.items line))
    (sym c.in-Restart.is) c.restart.ensures.err

pub returns-in-Skipped-clause-paid : goal.returns-in-Skipped-clause-paid
returns-in-Skipped-clause-paid g c =
    pays_line g.D.Disk.faults g.D.Disk.lasts c.args.self.now.simulation.stores c.args.self.now.simulation.stores c.args.self.now.pending.items c.args.self.now.pending.items c.args.line Skipped c.in-Skipped.is (pays_same g.D.Disk.faults g.D.Disk.lasts c.args.self.now.simulation.stores c.args.self.now.simulation.stores c.args.self.now.pending.items c.args.self.now.pending.items refl refl)

pub returns-in-Fuse-clause-paid : goal.returns-in-Fuse-clause-paid
returns-in-Fuse-clause-paid g c =
    pays_line g.D.Disk.faults g.D.Disk.lasts c.args.self.now.simulation.stores c.arm.new.self.stores c.args.self.now.pending.items c.args.self.now.pending.items c.args.line (Fuse c.in-Fuse.server c.in-Fuse.calls) c.in-Fuse.is
    (pays_none g.D.Disk.faults g.D.Disk.lasts c.args.self.now.simulation.stores c.arm.new.self.stores c.args.self.now.pending.items c.args.self.now.pending.items none_at (once_at c.in-Fuse.server) c.arm.ensures.paid refl)

pub returns-in-Skipped-clause-arms : goal.returns-in-Skipped-clause-arms
returns-in-Skipped-clause-arms g c = subst (λ (line : Line). Arms c.args.self.now.simulation c.args.self.now.simulation line) (sym c.in-Skipped.is) refl

pub returns-in-Fuse-clause-arms : goal.returns-in-Fuse-clause-arms
returns-in-Fuse-clause-arms g c = subst (λ (line : Line). Arms c.args.self.now.simulation c.arm.new.self line) (sym c.in-Fuse.is) c.arm.ensures.after

pub returns-in-Call-clause-arms : goal.returns-in-Call-clause-arms
returns-in-Call-clause-arms g c = on_any c.call.result (subst (λ (line : Line). Arms c.args.self.now.simulation c.call.new.self.simulation line) (sym c.in-Call.is) tt)

pub returns-in-Retry-clause-arms : goal.returns-in-Retry-clause-arms
returns-in-Retry-clause-arms g c = on_any c.retry.result (subst (λ (line : Line). Arms c.args.self.now.simulation c.retry.new.self.simulation line) (sym c.in-Retry.is) tt)

pub returns-in-Settle-clause-arms : goal.returns-in-Settle-clause-arms
returns-in-Settle-clause-arms g c = on_any c.settle.result (subst (λ (line : Line). Arms c.args.self.now.simulation c.settle.new.self.simulation line) (sym c.in-Settle.is) tt)

pub returns-in-Tick-clause-arms : goal.returns-in-Tick-clause-arms
returns-in-Tick-clause-arms g c = on_any c.tick.result (subst (λ (line : Line). Arms c.args.self.now.simulation c.tick.new.self.simulation line) (sym c.in-Tick.is) tt)

pub returns-in-Stop-clause-arms : goal.returns-in-Stop-clause-arms
returns-in-Stop-clause-arms g c = on_any c.stop.result (subst (λ (line : Line). Arms c.args.self.now.simulation c.stop.new.self.simulation line) (sym c.in-Stop.is) tt)

pub returns-in-Restart-clause-arms : goal.returns-in-Restart-clause-arms
returns-in-Restart-clause-arms g c = on_any c.restart.result (subst (λ (line : Line). Arms c.args.self.now.simulation c.restart.new.self.simulation line) (sym c.in-Restart.is) tt)

use Rattle.std.proofs.Common.{◌≡◌, sym, subst, Ok, Err, rules}
use Rattle.row_store.specs.Steps.{IsKeeping}
use Rattle.row_store.proofs.Leaving.{ok_not_device}
use Rattle.row_store.proofs.Going.{keeping_none, keeping_on, keeping_refused}
use Rattle.row_store.proofs.row_store.RowStore.sweep_root.Goals as goal

pub returns-in_default-clause-step : goal.returns-in_default-clause-step
returns-in_default-clause-step g c =
    keeping_none (Ok tt) c.args.self.now c.args.self.now.merge c.args.disk.now (g.met.D.Disk.counts_now c.args.disk.now) (g.met.D.Disk.only_now c.args.disk.now) (g.met.D.Disk.lasts_here c.args.disk.now) (ok_not_device tt)
    c.requires.running c.requires.ready c.requires.ready.merging

pub sweep-requires-2-clause-running : goal.sweep-requires-2-clause-running
sweep-requires-2-clause-running g c = c.in_ok-sweep.ensures.step.runs

pub sweep-requires-2-clause-ready : goal.sweep-requires-2-clause-ready
sweep-requires-2-clause-ready g c = c.in_ok-sweep.ensures.step.ready c.in_ok-sweep.ensures.step.runs

pub returns-in_err-sweep-clause-step : goal.returns-in_err-sweep-clause-step
returns-in_err-sweep-clause-step g c =
    let fault = c.in_err-sweep.field-0.0 in
    let given : c.from_residual.result ≡ Err fault = search rules in
    subst (IsKeeping g.D.Disk.seen g.D.Disk.sizes g.D.Disk.images g.D.Disk.moment g.D.Disk.images_since g.D.Disk.faults g.D.Disk.lasts g.D.Disk.fails c.args.self.now c.sweep.new.self c.args.disk.now c.sweep.new.disk) (sym given)
    (keeping_refused {T = Unit {0}} fault c.args.self.now c.sweep.new.self c.args.disk.now c.sweep.new.disk c.in_err-sweep.ensures.step)

pub returns-clause-step : goal.returns-clause-step
returns-clause-step g c =
    let a = c.args.disk.now in
    let m = c.sweep.new.disk in
    let b = c.sweep-2.new.disk in
    keeping_on _ c.sweep-2.result c.args.self.now c.sweep.new.self c.sweep-2.new.self a m b (g.met.D.Disk.lasts_on a m b) (g.met.D.Disk.fails_after a m b) c.in_ok-sweep.ensures.step c.sweep-2.ensures.step

use Rattle.std.proofs.Common.{◌≡◌, sym, subst, Ok, Err, rules}
use Rattle.row_store.specs.Steps.{IsKeeping}
use Rattle.row_store.proofs.Going.{keeping_none, keeping_on, keeping_refused}
use Rattle.row_store.proofs.Leaving.{ok_not_device}
use Rattle.row_store.proofs.row_store.RowStore.+sweep_all.Goals as goal

pub sweep_all-requires : goal.sweep_all-requires
sweep_all-requires g t c =
    let running = c.in_ok-sweep-in-len1-up.ensures.step.runs in
    let ready = c.in_ok-sweep-in-len1-up.ensures.step.ready c.in_ok-sweep-in-len1-up.ensures.step.runs in
    search rules

pub returns-in-empty-clause-step : goal.returns-in-empty-clause-step
returns-in-empty-clause-step g t c =
    keeping_none (Ok tt) c.args.self.now c.args.self.now.merge c.args.disk.now (g.met.D.Disk.counts_now c.args.disk.now) (g.met.D.Disk.only_now c.args.disk.now) (g.met.D.Disk.lasts_here c.args.disk.now) (ok_not_device tt)
    c.requires.running c.requires.ready c.requires.ready.merging

pub returns-in_err-sweep-in-len1-up-clause-step : goal.returns-in_err-sweep-in-len1-up-clause-step
returns-in_err-sweep-in-len1-up-clause-step g t c =
    let fault = c.in_err-sweep-in-len1-up.field-0.0 in
    let given : c.from_residual.result ≡ Err fault = search rules in
    subst (IsKeeping {T = Unit {0}} g.D.Disk.seen g.D.Disk.sizes g.D.Disk.images g.D.Disk.moment g.D.Disk.images_since g.D.Disk.faults g.D.Disk.lasts g.D.Disk.fails c.args.self.now c.sweep.new.self c.args.disk.now c.sweep.new.disk) (sym given)
    (keeping_refused {T = Unit {0}} fault c.args.self.now c.sweep.new.self c.args.disk.now c.sweep.new.disk c.in_err-sweep-in-len1-up.ensures.step)

pub returns-in_ok-sweep-in-len1-up-clause-step : goal.returns-in_ok-sweep-in-len1-up-clause-step
returns-in_ok-sweep-in-len1-up-clause-step g t c =
    let a = c.args.disk.now in
    let m = c.sweep.new.disk in
    let b = c.sweep_all.new.disk in
    keeping_on tt c.sweep_all.result c.args.self.now c.sweep.new.self c.sweep_all.new.self a m b (g.met.D.Disk.lasts_on a m b) (g.met.D.Disk.fails_after a m b) c.in_ok-sweep-in-len1-up.ensures.step c.sweep_all.ensures.step

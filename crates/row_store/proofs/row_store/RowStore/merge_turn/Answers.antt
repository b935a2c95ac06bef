use Rattle.std.proofs.Common.{◌≡◌, sym, subst, Bool, None, false, Ok, Err, rules}
use Rattle.mds_base.specs.declared.store_fault.StoreFault.TheVariants.{OutOfMemory}
use Rattle.row_store.specs.declared.row_store.RowStore.{RowStore}
use Rattle.row_store.specs.Steps.{IsKeeping}
use Rattle.row_store.proofs.Going.{keeping_none, keeping_on}
use Rattle.row_store.proofs.Leaving.{ok_not_device, memory_not_device}
use Rattle.row_store.proofs.row_store.RowStore.merge_turn.Goals as goal

pub returns-in_err-pending-clause-step : goal.returns-in_err-pending-clause-step
returns-in_err-pending-clause-step g c = λ running.
    let a = c.args.disk.now in
    let given : c.from_residual.result ≡ Err OutOfMemory = search rules in
    let P : RowStore → Type 0 = λ now. IsKeeping {T = Bool} g.D.Disk.seen g.D.Disk.sizes g.D.Disk.images g.D.Disk.moment g.D.Disk.images_since g.D.Disk.faults g.D.Disk.lasts g.D.Disk.fails c.args.self.now now a a (Err OutOfMemory) in
    subst (IsKeeping {T = Bool} g.D.Disk.seen g.D.Disk.sizes g.D.Disk.images g.D.Disk.moment g.D.Disk.images_since g.D.Disk.faults g.D.Disk.lasts g.D.Disk.fails c.args.self.now c.pending.new.self a a) (sym given) (subst P (sym c.pending.ensures.taken)
    (keeping_none (Err OutOfMemory) c.args.self.now None c.args.disk.now (g.met.D.Disk.counts_now c.args.disk.now) (g.met.D.Disk.only_now c.args.disk.now) (g.met.D.Disk.lasts_here c.args.disk.now) (memory_not_device {T = Bool}) running (c.requires.ready running) tt))

pub returns-in-None-clause-step : goal.returns-in-None-clause-step
returns-in-None-clause-step g c = λ running.
    let a = c.args.disk.now in
    let P : RowStore → Type 0 = λ now. IsKeeping {T = Bool} g.D.Disk.seen g.D.Disk.sizes g.D.Disk.images g.D.Disk.moment g.D.Disk.images_since g.D.Disk.faults g.D.Disk.lasts g.D.Disk.fails c.args.self.now now a a (Ok false) in
    subst P (sym c.pending.ensures.taken) (keeping_none (Ok false) c.args.self.now None c.args.disk.now (g.met.D.Disk.counts_now c.args.disk.now) (g.met.D.Disk.only_now c.args.disk.now) (g.met.D.Disk.lasts_here c.args.disk.now) (ok_not_device false) running (c.requires.ready running) tt)

pub returns-in-Some-clause-step : goal.returns-in-Some-clause-step
returns-in-Some-clause-step g c = λ running.
    let a = c.args.disk.now in
    let b = c.go_on.new.disk in
    let P : RowStore → Type 0 = λ now. IsKeeping {T = Bool} g.D.Disk.seen g.D.Disk.sizes g.D.Disk.images g.D.Disk.moment g.D.Disk.images_since g.D.Disk.faults g.D.Disk.lasts g.D.Disk.fails c.args.self.now now a a (Ok false) in
    let first = subst P (sym c.pending.ensures.taken) (keeping_none (Ok false) c.args.self.now None c.args.disk.now (g.met.D.Disk.counts_now c.args.disk.now) (g.met.D.Disk.only_now c.args.disk.now) (g.met.D.Disk.lasts_here c.args.disk.now) (ok_not_device false) running (c.requires.ready running) tt) in
    keeping_on false c.go_on.result c.args.self.now c.pending.new.self c.go_on.new.self a a b (g.met.D.Disk.lasts_on a a b) (g.met.D.Disk.fails_after a a b) first c.go_on.ensures.step

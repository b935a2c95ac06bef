use Rattle.std.proofs.Common.{◌≡◌, ◌∙◌, sym, ap, subst, length, Bool, false, Ok, Err, arith, rules}
use Rattle.root_slots.specs.declared.root.Root.{Root}
use Rattle.row_store.specs.Steps.{IsKeeping}
use Rattle.row_store.proofs.Going.{keeping_none, keeping_on, keeping_refused, keeping_as}
use Rattle.row_store.proofs.Leaving.{ok_not_device, only_memory}
use Rattle.row_store.proofs.Merged.{merged_length}
use Rattle.row_store.proofs.Turned.{named_of, few_tables}
use Rattle.row_store.proofs.row_store.RowStore.bring_in.Goals as goal

pub returns-in_err-root-clause-step : goal.returns-in_err-root-clause-step
returns-in_err-root-clause-step g c =
    let fault = c.in_err-root.field-0.0 in
    let a = c.args.disk.now in
    let given : c.from_residual.result ≡ Err fault = search rules in
    subst (IsKeeping {T = Bool} g.D.Disk.seen g.D.Disk.sizes g.D.Disk.images g.D.Disk.moment g.D.Disk.images_since g.D.Disk.faults g.D.Disk.lasts g.D.Disk.fails c.args.self.now c.args.self.now a a) (sym given)
    (keeping_none {T = Bool} (Err fault) c.args.self.now c.args.self.now.merge a (g.met.D.Disk.counts_now a) (g.met.D.Disk.only_now a) (g.met.D.Disk.lasts_here a) (only_memory {T = Bool} fault c.in_err-root.ensures.refused)
    c.requires.running c.requires.ready c.requires.ready.merging)

pub returns-in_err-old-clause-step : goal.returns-in_err-old-clause-step
returns-in_err-old-clause-step g c =
    let fault = c.in_err-old.field-0.0 in
    let a = c.args.disk.now in
    let m = c.replace.new.disk in
    let given : c.from_residual-in_err-old.result ≡ Err fault = search rules in
    subst (IsKeeping {T = Bool} g.D.Disk.seen g.D.Disk.sizes g.D.Disk.images g.D.Disk.moment g.D.Disk.images_since g.D.Disk.faults g.D.Disk.lasts g.D.Disk.fails c.args.self.now c.replace.new.self a m) (sym given) (keeping_refused {T = Root} fault c.args.self.now c.replace.new.self a m c.in_err-old.ensures.step)

pub sweep_all-requires-clause-running : goal.sweep_all-requires-clause-running
sweep_all-requires-clause-running g c = c.in_ok-old.ensures.step.runs

pub sweep_all-requires-clause-ready : goal.sweep_all-requires-clause-ready
sweep_all-requires-clause-ready g c = c.in_ok-old.ensures.step.ready c.in_ok-old.ensures.step.runs

pub returns-in_err-sweep_all-clause-step : goal.returns-in_err-sweep_all-clause-step
returns-in_err-sweep_all-clause-step g c =
    let fault = c.in_err-sweep_all.field-0.0 in
    let a = c.args.disk.now in
    let m = c.replace.new.disk in
    let b = c.sweep_all.new.disk in
    let given : c.from_residual-in_err-sweep_all.result ≡ Err fault = search rules in
    subst (IsKeeping {T = Bool} g.D.Disk.seen g.D.Disk.sizes g.D.Disk.images g.D.Disk.moment g.D.Disk.images_since g.D.Disk.faults g.D.Disk.lasts g.D.Disk.fails c.args.self.now c.sweep_all.new.self a b) (sym given) (keeping_refused {T = Unit {0}} fault c.args.self.now c.sweep_all.new.self a b
    (keeping_on _ (Err fault) c.args.self.now c.replace.new.self c.sweep_all.new.self a m b (g.met.D.Disk.lasts_on a m b) (g.met.D.Disk.fails_after a m b) c.in_ok-old.ensures.step c.in_err-sweep_all.ensures.step))

pub returns-clause-step : goal.returns-clause-step
returns-clause-step g c =
    let a = c.args.disk.now in
    let m = c.replace.new.disk in
    let b = c.sweep_all.new.disk in
    keeping_as tt (Ok false) c.args.self.now c.sweep_all.new.self a b (ok_not_device false)
    (keeping_on _ (Ok tt) c.args.self.now c.replace.new.self c.sweep_all.new.self a m b (g.met.D.Disk.lasts_on a m b) (g.met.D.Disk.fails_after a m b) c.in_ok-old.ensures.step c.in_ok-sweep_all.ensures.step)

pub returns-clause-fewer : goal.returns-clause-fewer
returns-clause-fewer g c = λ _.
    let a = c.args.disk.now in
    let store = c.args.self.now in
    let few = few_tables store.force store.tables.items (named_of store.force store.tables.items (g.D.Disk.seen a) (g.D.Disk.sizes a) (g.D.Disk.images a) c.requires.ready.force) in
    let size = merged_length c.args.newer store.tables.items c.args.table (omega (arith, c.requires.some)) in
    let same = ap (λ t. length t.items) c.sweep_all.ensures.tables ∙ ap length c.in_ok-old.ensures.tables ∙ size in
    omega (arith, same, few, c.requires.some)

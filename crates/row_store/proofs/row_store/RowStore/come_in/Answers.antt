use Rattle.std.proofs.Common.{◌≡◌, sym, subst, Option, Err, rules}
use Rattle.row_store.specs.declared.row_store.InForce.{InForce}
use Rattle.row_store.specs.Steps.{IsFlushed}
use Rattle.row_store.specs.Value.{HasRoot}
use Rattle.std.specs.Prelude.{IsSome}
use Rattle.row_store.proofs.Going.{flushed_then, flushed_as, on_any}
use Rattle.row_store.proofs.row_store.RowStore.come_in.Goals as goal

pub sweep_root-requires-clause-running : goal.sweep_root-requires-clause-running
sweep_root-requires-clause-running g c = (c.in_ok-old.ensures.flushed c.requires.written.0 c.requires.written.1).runs

pub sweep_root-requires-clause-ready : goal.sweep_root-requires-clause-ready
sweep_root-requires-clause-ready g c =
    let step = c.in_ok-old.ensures.flushed c.requires.written.0 c.requires.written.1 in
    step.ready step.runs

pub returns-in_err-old-clause-flushed : goal.returns-in_err-old-clause-flushed
returns-in_err-old-clause-flushed g c = λ state written.
    let fault = c.in_err-old.field-0.0 in
    let given : c.from_residual.result ≡ Err fault = search rules in
    subst (IsFlushed {T = Unit {0}} g.D.Disk.seen g.D.Disk.sizes g.D.Disk.images g.D.Disk.moment g.D.Disk.images_since g.D.Disk.faults g.D.Disk.lasts g.D.Disk.fails state c.args.self.now c.enter.new.self c.args.disk.now c.enter.new.disk) (sym given)
    (flushed_as {T = Option InForce} fault state c.args.self.now c.enter.new.self c.args.disk.now c.enter.new.disk (c.in_err-old.ensures.flushed state written))

pub returns-clause-flushed : goal.returns-clause-flushed
returns-clause-flushed g c = λ state written.
    let a = c.args.disk.now in
    let m = c.enter.new.disk in
    let b = c.sweep_root.new.disk in
    let step = c.in_ok-old.ensures.flushed state written in
    flushed_then _ c.sweep_root.result c.args.self.now c.enter.new.self c.sweep_root.new.self a m b (g.met.D.Disk.lasts_on a m b) (g.met.D.Disk.fails_after a m b) state step c.sweep_root.ensures.step c.sweep_root.ensures.refused
    (on_any c.sweep_root.result (HasRoot c.sweep_root.new.self) (subst (λ (f : Option InForce). IsSome f) (sym c.sweep_root.ensures.force) step.root))

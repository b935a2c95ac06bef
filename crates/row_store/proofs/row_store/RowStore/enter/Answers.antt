use Rattle.std.proofs.Common.{◌≡◌, sym, subst, refl, Err, rules}
use Rattle.mds_base.specs.declared.store_fault.StoreFault.TheVariants.{OutOfMemory}
use Rattle.row_store.specs.declared.row_store.RowStore.{RowStore}
use Rattle.row_store.specs.Steps.{IsFlushed}
use Rattle.row_store.proofs.Entered.{entered_done, entered_refused, flushed_none}
use Rattle.row_store.proofs.RootNumbers.{above_of}
use Rattle.row_store.proofs.row_store.RowStore.enter.Goals as goal

pub returns-in_err-put_first-clause-flushed : goal.returns-in_err-put_first-clause-flushed
returns-in_err-put_first-clause-flushed g c = λ state written.
    let a = c.args.disk.now in
    let now : RowStore = record c.args.self.now { tables = c.put_first.new.tables; merge = c.put_first.new.merge } in
    let given : c.from_residual.result ≡ Err OutOfMemory = search rules in
    subst (IsFlushed g.D.Disk.seen g.D.Disk.sizes g.D.Disk.images g.D.Disk.moment g.D.Disk.images_since g.D.Disk.faults g.D.Disk.lasts g.D.Disk.fails state c.args.self.now now a a) (sym given)
    (flushed_none g.D.Disk.seen g.D.Disk.sizes g.D.Disk.images g.D.Disk.moment g.D.Disk.images_since g.D.Disk.faults g.D.Disk.lasts g.D.Disk.fails state c.args.self.now now a (g.met.D.Disk.only_now a) (g.met.D.Disk.lasts_here a) refl refl refl c.in_err-put_first.ensures.err.0 c.in_err-put_first.ensures.err.1 refl refl c.requires.ready)

pub change_root-requires-clause-above : goal.change_root-requires-clause-above
change_root-requires-clause-above g c = above_of c.args.self.now.slots c.args.self.now.force c.args.next.root.number c.requires.ready.numbered c.requires.next.number

pub returns-in-Ok-clause-flushed : goal.returns-in-Ok-clause-flushed
returns-in-Ok-clause-flushed g c = λ state written.
    let a = c.args.disk.now in
    let b = c.change_root.new.disk in
    let call = c.in-Ok.ensures.call in
    entered_done g.D.Disk.seen g.D.Disk.sizes g.D.Disk.images g.D.Disk.moment g.D.Disk.images_since g.D.Disk.faults g.D.Disk.lasts g.D.Disk.fails state c.args.self.now _ c.args.next.root c.args.next.log c.args.next.table a b c.requires.next c.requires.ready written call.elsewhere call.told call.any_moment c.change_root.ensures.any_moment refl
    c.replace.result (g.met.D.Disk.counts_now b) c.in-Ok.ensures.in_force c.replace.ensures.after c.in_ok-put_first.ensures.ok.0 c.in_ok-put_first.ensures.ok.1 c.new.ensures.empty refl c.requires.running call.cause.kept call.lasts

pub returns-in-Err-clause-flushed : goal.returns-in-Err-clause-flushed
returns-in-Err-clause-flushed g c = λ state written.
    let a = c.args.disk.now in
    let b = c.change_root.new.disk in
    let call = c.in-Err.ensures.call in
    entered_refused g.D.Disk.seen g.D.Disk.sizes g.D.Disk.images g.D.Disk.moment g.D.Disk.images_since g.D.Disk.faults g.D.Disk.lasts g.D.Disk.fails state c.args.self.now _ c.args.next.root c.args.next.log c.args.next.table a b c.requires.next c.requires.ready written call.elsewhere call.told call.any_moment c.change_root.ensures.any_moment refl
    c.in-Err.fault refl call.cause call.lasts call.failed

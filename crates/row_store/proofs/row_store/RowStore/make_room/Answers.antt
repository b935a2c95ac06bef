use Rattle.std.proofs.Common.{◌≡◌, sym, subst, Err, rules}
use Rattle.row_store.specs.Steps.{IsKeeping}
use Rattle.row_store.proofs.Going.{keeping_on, keeping_refused}
use Rattle.row_store.proofs.row_store.RowStore.make_room.Goals as goal

pub make_root_file-requires-clause-running : goal.make_root_file-requires-clause-running
make_root_file-requires-clause-running g c = c.in_ok-merge_full.ensures.step.runs

pub make_root_file-requires-clause-ready : goal.make_root_file-requires-clause-ready
make_root_file-requires-clause-ready g c = c.in_ok-merge_full.ensures.step.ready c.in_ok-merge_full.ensures.step.runs

pub returns-in_err-merge_full-clause-step : goal.returns-in_err-merge_full-clause-step
returns-in_err-merge_full-clause-step g c =
    let fault = c.in_err-merge_full.field-0.0 in
    let given : c.from_residual.result ≡ Err fault = search rules in
    subst (IsKeeping g.D.Disk.seen g.D.Disk.sizes g.D.Disk.images g.D.Disk.moment g.D.Disk.images_since g.D.Disk.faults g.D.Disk.lasts g.D.Disk.fails c.args.self.now c.merge_full.new.self c.args.disk.now c.merge_full.new.disk) (sym given)
    (keeping_refused {T = Unit {0}} fault c.args.self.now c.merge_full.new.self c.args.disk.now c.merge_full.new.disk c.in_err-merge_full.ensures.step)

pub returns-clause-step : goal.returns-clause-step
returns-clause-step g c =
    let a = c.args.disk.now in
    let m = c.merge_full.new.disk in
    let b = c.make_root_file.new.disk in
    keeping_on _ c.make_root_file.result c.args.self.now c.merge_full.new.self c.make_root_file.new.self a m b (g.met.D.Disk.lasts_on a m b) (g.met.D.Disk.fails_after a m b) c.in_ok-merge_full.ensures.step c.make_root_file.ensures.step

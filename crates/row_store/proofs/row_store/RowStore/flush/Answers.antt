use Rattle.std.proofs.Common.{◌≡◌, sym, subst, Err, rules}
use Rattle.row_store.specs.Steps.{IsFlushed}
use Rattle.row_store.proofs.Going.{flushed_behind, flushed_refused}
use Rattle.row_store.proofs.row_store.RowStore.flush.Goals as goal

pub returns-in_err-make_room-clause-flushed : goal.returns-in_err-make_room-clause-flushed
returns-in_err-make_room-clause-flushed g c = λ running.
    let fault = c.in_err-make_room.field-0.0 in
    let a = c.args.disk.now in
    let m = c.make_room.new.disk in
    let given : c.from_residual.result ≡ Err fault = search rules in
    subst (IsFlushed {T = Unit {0}} g.D.Disk.seen g.D.Disk.sizes g.D.Disk.images g.D.Disk.moment g.D.Disk.images_since g.D.Disk.faults g.D.Disk.lasts g.D.Disk.fails c.args.state.now c.args.self.now c.make_room.new.self a m) (sym given)
    (flushed_refused {T = Unit {0}} {U = Unit {0}} fault c.args.state.now c.args.self.now c.make_room.new.self a m c.in_err-make_room.ensures.step)

pub returns-clause-flushed : goal.returns-clause-flushed
returns-clause-flushed g c = λ running.
    let a = c.args.disk.now in
    let m = c.make_room.new.disk in
    let b = c.flush_on.new.disk in
    flushed_behind tt c.flush_on.result c.args.self.now c.make_room.new.self c.flush_on.new.self a m b (g.met.D.Disk.lasts_on a m b) (g.met.D.Disk.fails_after a m b) c.args.state.now c.in_ok-make_room.ensures.step c.flush_on.ensures.flushed

use Rattle.std.proofs.Common.{sym, subst, refl, Ok, Err}
use Rattle.row_store.specs.declared.row_store.RowStore.{RowStore}
use Rattle.row_store.specs.Files.{in_use, IsTaken}
use Rattle.row_store.specs.Steps.{IsFlushed}
use Rattle.row_store.specs.Value.{stops_by}
use Rattle.row_store.proofs.Going.{keeping_leaves, flushed_behind, flushed_refused}
use Rattle.row_store.proofs.Leaving.{ok_not_device}
use Rattle.row_store.proofs.Told.{stops_at}
use Rattle.row_store.proofs.Using.{named_taken, merging_used}
use Rattle.row_store.proofs.row_store.RowStore.flush_on.Goals as goal

pub come_in-requires-clause-ready : goal.come_in-requires-clause-ready
come_in-requires-clause-ready g c =
    let store = c.args.self.now in
    let a = c.args.disk.now in
    let m = c.write_next.new.disk in
    let taken = in_use store.merge store.force in
    let leaves = c.in-Ok.ensures.call in
    (keeping_leaves (Ok c.in-Ok.next) (IsTaken taken) store store.pool store.merge store.stopped a m (g.met.D.Disk.counts_now m) refl (named_taken store.merge store.force) c.requires.ready leaves refl
    (merging_used store (g.D.Disk.seen a) (g.D.Disk.seen m) (g.D.Disk.sizes a) (g.D.Disk.sizes m) (g.D.Disk.images a) c.requires.ready leaves.bytes leaves.lengths) c.requires.running (λ device. absurd (ok_not_device c.in-Ok.next device))).ready c.requires.running

pub come_in-requires-clause-written : goal.come_in-requires-clause-written
come_in-requires-clause-written g c = (c.args.state.now, c.in-Ok.ensures.state)

pub returns-in-Ok-clause-flushed : goal.returns-in-Ok-clause-flushed
returns-in-Ok-clause-flushed g c =
    let store = c.args.self.now in
    let a = c.args.disk.now in
    let m = c.write_next.new.disk in
    let b = c.come_in.new.disk in
    let taken = in_use store.merge store.force in
    let leaves = c.in-Ok.ensures.call in
    let step = keeping_leaves (Ok c.in-Ok.next) (IsTaken taken) store store.pool store.merge store.stopped a m (g.met.D.Disk.counts_now m) refl (named_taken store.merge store.force) c.requires.ready leaves refl
    (merging_used store (g.D.Disk.seen a) (g.D.Disk.seen m) (g.D.Disk.sizes a) (g.D.Disk.sizes m) (g.D.Disk.images a) c.requires.ready leaves.bytes leaves.lengths) c.requires.running (λ device. absurd (ok_not_device c.in-Ok.next device)) in
    flushed_behind c.in-Ok.next c.come_in.result store store c.come_in.new.self a m b (g.met.D.Disk.lasts_on a m b) (g.met.D.Disk.fails_after a m b) c.args.state.now step (c.come_in.ensures.flushed c.args.state.now c.in-Ok.ensures.state)

pub returns-in-Err-clause-flushed : goal.returns-in-Err-clause-flushed
returns-in-Err-clause-flushed g c =
    let store = c.args.self.now in
    let a = c.args.disk.now in
    let m = c.write_next.new.disk in
    let taken = in_use store.merge store.force in
    let fault = c.in-Err.fault in
    let leaves = c.in-Err.ensures.call in
    let P : RowStore → Type 0 = λ now. IsFlushed {T = Unit {0}} g.D.Disk.seen g.D.Disk.sizes g.D.Disk.images g.D.Disk.moment g.D.Disk.images_since g.D.Disk.faults g.D.Disk.lasts g.D.Disk.fails c.args.state.now store now a m (Err fault) in
    subst P (sym c.stop_at.ensures) (flushed_refused fault c.args.state.now store (record store { stopped = stops_by fault store.stopped }) a m
    (keeping_leaves (Err fault) (IsTaken taken) store store.pool store.merge (stops_by fault store.stopped) a m (g.met.D.Disk.counts_now m) refl (named_taken store.merge store.force) c.requires.ready leaves refl
    (merging_used store (g.D.Disk.seen a) (g.D.Disk.seen m) (g.D.Disk.sizes a) (g.D.Disk.sizes m) (g.D.Disk.images a) c.requires.ready leaves.bytes leaves.lengths) tt (λ is. stops_at _ fault store.stopped is)))

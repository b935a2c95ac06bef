use Rattle.std.proofs.Common.{◌≡◌, Ok, Err, true, refl, rules}
use Rattle.root_slots.specs.Root.{is_fresh}
use Rattle.row_store.specs.Files.{in_use, IsTaken}
use Rattle.row_store.proofs.Going.{keeping_leaves, keeping_none}
use Rattle.row_store.proofs.Leaving.{ok_not_device, leaves_writing}
use Rattle.row_store.proofs.Using.{named_taken, taken_apart, merging_used}
use Rattle.row_store.proofs.row_store.RowStore.sweep.Goals as goal

pub returns-then-not-is_free-clause-step : goal.returns-then-not-is_free-clause-step
returns-then-not-is_free-clause-step g c =
    keeping_none (Ok tt) c.args.self.now c.args.self.now.merge c.args.disk.now (g.met.D.Disk.counts_now c.args.disk.now) (g.met.D.Disk.only_now c.args.disk.now) (g.met.D.Disk.lasts_here c.args.disk.now) (ok_not_device tt)
    c.requires.running c.requires.ready c.requires.ready.merging

pub returns-in-Ok-clause-step : goal.returns-in-Ok-clause-step
returns-in-Ok-clause-step g c =
    let store = c.args.self.now in
    let a = c.args.disk.now in
    let b = c.cut_file.new.disk in
    let taken = in_use store.merge store.force in
    let free : is_fresh c.args.file taken ≡ true = search rules in
    let leaves = leaves_writing (Ok tt) (IsTaken taken) c.args.file a b (taken_apart taken c.args.file free) c.in-Ok.ensures.call in
    keeping_leaves (Ok tt) (IsTaken taken) store store.pool store.merge store.stopped a b (g.met.D.Disk.counts_now b) refl (named_taken store.merge store.force) c.requires.ready leaves refl
    (merging_used store (g.D.Disk.seen a) (g.D.Disk.seen b) (g.D.Disk.sizes a) (g.D.Disk.sizes b) (g.D.Disk.images a) c.requires.ready leaves.bytes leaves.lengths) c.requires.running (λ device. absurd (ok_not_device tt device))

pub returns-in-Err-clause-step : goal.returns-in-Err-clause-step
returns-in-Err-clause-step g c =
    let store = c.args.self.now in
    let a = c.args.disk.now in
    let b = c.cut_file.new.disk in
    let taken = in_use store.merge store.force in
    let free : is_fresh c.args.file taken ≡ true = search rules in
    let leaves = leaves_writing (Err c.in-Err.fault) (IsTaken taken) c.args.file a b (taken_apart taken c.args.file free) c.in-Err.ensures.call in
    keeping_leaves (Err c.in-Err.fault) (IsTaken taken) store store.pool store.merge true a b (g.met.D.Disk.counts_now b) refl (named_taken store.merge store.force) c.requires.ready leaves refl
    (merging_used store (g.D.Disk.seen a) (g.D.Disk.seen b) (g.D.Disk.sizes a) (g.D.Disk.sizes b) (g.D.Disk.images a) c.requires.ready leaves.bytes leaves.lengths) tt (λ device. refl)

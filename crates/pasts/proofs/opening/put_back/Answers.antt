use Rattle.std.proofs.Common.{◌≡◌, ap, subst, [], length, arith}
use Rattle.std.specs.Vec.Iter.{into_iter_items}
use Rattle.pasts.proofs.DisksGiven.{ArePutBack, put_none, put_one, put_all, disk_of, nothing_left}
use Rattle.pasts.proofs.opening.put_back.Goals as goal

pub loop-store-init : goal.loop-store-init
loop-store-init g c =
    let d = g.D.Disk in
    let all = c.into_iter-store-iterator.ensures.into_iter_gives.0 in
    let n = ap length all in
    record {
      so = put_none d.seen d.images (into_iter_items c.into_iter-store-iterator.result) c.args.back.now.items;
      room = omega arith;
      grown = omega arith;
    }

pub push_reserved-requires : goal.push_reserved-requires
push_reserved-requires g c =
    let n = ap length c.in-Some.ensures.steps.0 in
    let room = c.loop-store.invariant.room in
    omega arith

pub loop-store-preserved : goal.loop-store-preserved
loop-store-preserved g c =
    let d = g.D.Disk in
    let steps = c.in-Some.ensures.steps.0 in
    let n = ap length steps in
    let old = c.loop-store.invariant in
    let room = old.room in
    let grown = old.grown in
    let pushed = c.push_reserved.ensures in
    record {
      so = put_one d.seen d.images (into_iter_items c.into_iter-store-iterator.result) c.args.back.now.items (into_iter_items c.loop-store.store-iterator) (into_iter_items c.next.new.self) c.loop-store.back.items c.push_reserved.new.self.items c.in-Some.store c.into_inner.result
          old.so steps (disk_of d.seen d.images c.in-Some.store c.into_disk.result c.into_inner.result c.into_disk.ensures.disk c.into_inner.ensures c.into_disk.ensures.kept) pushed.items;
      room = omega arith;
      grown = omega arith;
    }

pub returns-clause-disks : goal.returns-clause-disks
returns-clause-disks g c =
    let d = g.D.Disk in
    let none = c.in-None.ensures.steps in
    let it = c.loop-store.store-iterator in
    let len = it.rest.ok in
    let empty : into_iter_items it ≡ [] = nothing_left (into_iter_items it) (omega arith) in
    let all = c.into_iter-store-iterator.ensures.into_iter_gives.0 in
    put_all d.seen d.images c.args.stores.items c.args.back.now.items (into_iter_items it) c.loop-store.back.items
    (subst (λ l. ArePutBack d.seen d.images l (into_iter_items it) c.args.back.now.items c.loop-store.back.items) all c.loop-store.invariant.so) empty

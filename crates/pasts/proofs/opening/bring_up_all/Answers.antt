use Rattle.std.proofs.Common.{◌+◌, refl, arith}
use Rattle.std.specs.Vec.Iter.{into_iter_items}
use Rattle.pasts.proofs.ServersOpened.{raised_one, counted_one, raised_below, raised_count, all_back, not_opened}
use Rattle.pasts.proofs.opening.bring_up_all.Goals as goal

pub push_reserved-requires : goal.push_reserved-requires
push_reserved-requires g c =
    let d = g.D.Disk in
    let at = c.loop-disk in
    let n = raised_count d.lasts d.seen d.images c.args.setup c.args.disks.items (into_iter_items at.rest) at.server at.stores.items at.invariant.so in
    let m = raised_below d.lasts d.seen d.images c.args.setup c.args.disks.items (into_iter_items at.rest) (into_iter_items c.next.new.self) at.server at.stores.items c.in-Some.disk at.invariant.so c.in-Some.ensures.items in
    let room = at.invariant.room in
    omega arith

pub handed_back-requires-clause-room : goal.handed_back-requires-clause-room
handed_back-requires-clause-room g c =
    let d = g.D.Disk in
    let at = c.loop-disk in
    let n = raised_count d.lasts d.seen d.images c.args.setup c.args.disks.items (into_iter_items at.rest) at.server at.stores.items at.invariant.so in
    let m = raised_below d.lasts d.seen d.images c.args.setup c.args.disks.items (into_iter_items at.rest) (into_iter_items c.next.new.self) at.server at.stores.items c.in-Some.disk at.invariant.so c.in-Some.ensures.items in
    let back = c.requires.back.1 in
    omega arith

pub returns-in-Err-clause-back : goal.returns-in-Err-clause-back
returns-in-Err-clause-back g c =
    let d = g.D.Disk in
    let at = c.loop-disk in
    let h = c.handed_back.ensures in
    all_back d.lasts d.seen d.images c.args.setup c.args.disks.items (into_iter_items at.rest) (into_iter_items c.next.new.self) at.server at.stores.items c.in-Some.disk c.in-Err.field-0.disk h.0 c.handed_back.result.items
    at.invariant.so c.in-Some.ensures.items h.2 h.1 g.met.D.Disk.lasts_here c.in-Err.ensures.back

pub returns-in-Err-clause-refused : goal.returns-in-Err-clause-refused
returns-in-Err-clause-refused g c =
    let d = g.D.Disk in
    let at = c.loop-disk in
    let h = c.handed_back.ensures in
    not_opened d.lasts d.seen d.images c.args.setup c.args.disks.items (into_iter_items at.rest) (into_iter_items c.next.new.self) at.server at.stores.items c.in-Some.disk c.in-Err.field-0.disk h.0 c.handed_back.result.items
    at.invariant.so c.in-Some.ensures.items h.2 h.1 g.met.D.Disk.lasts_here d.faults at.invariant.counted c.in-Err.field-0.fault c.in-Err.ensures.back c.in-Err.ensures.cause

pub loop-disk-preserved : goal.loop-disk-preserved
loop-disk-preserved g c =
    let d = g.D.Disk in
    let at = c.loop-disk in
    let room = at.invariant.room in
    let cap = c.push_reserved.ensures.capacity in
    record {
      so = raised_one d.lasts d.seen d.images c.args.setup c.args.disks.items (into_iter_items at.rest) (into_iter_items c.next.new.self) at.server (at.server + 1) at.stores.items c.push_reserved.new.self.items c.in-Some.disk c.in-Ok.store
          at.invariant.so c.in-Some.ensures.items c.in-Ok.ensures.up refl c.push_reserved.ensures.items;
      counted = counted_one d.lasts d.seen d.images c.args.setup c.args.disks.items (into_iter_items at.rest) (into_iter_items c.next.new.self) at.server at.stores.items c.push_reserved.new.self.items c.in-Some.disk c.in-Ok.store
          at.invariant.so c.in-Some.ensures.items d.faults at.invariant.counted c.in-Ok.ensures.counts c.push_reserved.ensures.items;
      room = omega arith;
    }

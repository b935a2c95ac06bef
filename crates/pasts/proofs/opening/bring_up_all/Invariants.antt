use Rattle.std.proofs.Common.{◌≤◌}
use Rattle.std.specs.Vec.{vec_capacity}
use Rattle.std.specs.Vec.Iter.{into_iter_items, into_iter_len}
use Rattle.pasts.specs.Openings.{AreCounted}
use Rattle.pasts.proofs.ServersOpened.{AreRaised}
use Rattle.pasts.proofs.opening.bring_up_all.Given as goal

abbrev pub invariant-loop-disk : goal.invariant-loop-disk
invariant-loop-disk g l = record {
  so : AreRaised g.D.Disk.lasts g.D.Disk.seen g.D.Disk.images l.setup l.fn.disks.items (into_iter_items l.rest) l.server l.stores.items;
  counted : AreCounted g.D.Disk.faults l.fn.disks.items l.stores.items;
  room : l.setup.servers ≤ vec_capacity l.stores;
}

abbrev pub decreases-loop-disk : goal.decreases-loop-disk
decreases-loop-disk g l = into_iter_len l.rest

use Rattle.std.proofs.Common.{◌+◌, ◌≤◌, length, vec_len}
use Rattle.std.specs.Vec.{vec_capacity}
use Rattle.std.specs.Vec.Iter.{into_iter_items}
use Rattle.pasts.proofs.DisksGiven.{ArePutBack}
use Rattle.pasts.proofs.opening.put_back.Given as goal

abbrev pub invariant-loop-store : goal.invariant-loop-store
invariant-loop-store g l = record {
  so : ArePutBack g.D.Disk.seen g.D.Disk.images (into_iter_items l.initial.store-iterator) (into_iter_items l.store-iterator) l.initial.back.items l.back.items;
  room : vec_len l.back + length (into_iter_items l.store-iterator) ≤ vec_capacity l.back;
  grown : vec_capacity l.initial.back ≤ vec_capacity l.back;
}

use Rattle.std.proofs.Common.{◌≡◌, ◌+◌, ◌≤◌, ◌++◌, length, vec_len}
use Rattle.std.specs.Vec.{vec_capacity}
use Rattle.std.specs.Vec.Iter.{into_iter_items}
use Rattle.pasts.proofs.opening.handed_back.Given as goal

abbrev pub invariant-loop-disk : goal.invariant-loop-disk
invariant-loop-disk g l = record {
  all : l.back.items ++ into_iter_items l.disk-iterator ≡ l.initial.back.items ++ into_iter_items l.initial.disk-iterator;
  room : vec_len l.back + length (into_iter_items l.disk-iterator) ≤ vec_capacity l.back;
}

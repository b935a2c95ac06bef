use Rattle.std.proofs.Common.{◌≡◌, ◌≤◌, length, take, drop}
use Rattle.mds_out.specs.Undo.{unwound}
use Rattle.mds_out.proofs.changes.Changes.unwind.Given as goal

abbrev pub invariant-loop-place : goal.invariant-loop-place
invariant-loop-place l = record {
  low : l.place ≤ length l.self;
  count : l.len ≤ length l.buffer;
  room : length l.buffer ≡ length l.fn.buffer;
  done : take l.len l.buffer ≡ unwound (take l.fn.len l.fn.buffer) (drop l.place l.self);
}

abbrev pub decreases-loop-place : goal.decreases-loop-place
decreases-loop-place l = l.place

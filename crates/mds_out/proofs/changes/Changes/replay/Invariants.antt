use Rattle.std.proofs.Common.{◌≡◌, ◌≤◌, length, take, fold}
use Rattle.mds_out.specs.Change.{changed, redone}
use Rattle.mds_out.proofs.changes.Changes.replay.Given as goal

abbrev pub invariant-loop-kept : goal.invariant-loop-kept
invariant-loop-kept l = record {
  count : l.len ≤ length l.buffer;
  room : length l.buffer ≡ length l.fn.buffer;
  replayed : take l.len l.buffer ≡ fold (λ bytes change. changed bytes (redone l.spoil change)) (take l.fn.len l.fn.buffer) (take l.kept-index l.self);
}

use Rattle.std.proofs.Common.{◌≡◌, ◌++◌, map, take, drop, length}
use Rattle.mds_out.proofs.Places.{restarted}
use Rattle.mds_out.proofs.slots.restart_files.Given as goal

abbrev pub invariant-loop-place : goal.invariant-loop-place
invariant-loop-place l = record {
  size : length l.slots.items ≡ length l.fn.slots.items;
  done : l.slots.items ≡ map (restarted l.outcome) (take l.place l.fn.slots.items) ++ drop l.place l.fn.slots.items;
}

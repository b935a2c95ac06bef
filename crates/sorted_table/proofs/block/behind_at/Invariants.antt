use Rattle.sorted_table.specs.Starts.{is_before}
use Rattle.sorted_table.proofs.BlockLoops.{Seeks}
use Rattle.sorted_table.proofs.block.behind_at.Given as goal

abbrev pub invariant-loop-place : goal.invariant-loop-place
invariant-loop-place l = Seeks l.fn.count (is_before l.start) l.fn.bytes l._place l.rest

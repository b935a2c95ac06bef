use Rattle.sorted_table.proofs.BlockLoops.{HasRead}
use Rattle.sorted_table.proofs.block.rows_at.Given as goal

abbrev pub invariant-loop-place : goal.invariant-loop-place
invariant-loop-place l = HasRead l.fn.count l.fn.bytes l._place l.rows.items l.rest

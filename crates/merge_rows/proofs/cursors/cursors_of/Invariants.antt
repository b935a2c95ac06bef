use Rattle.std.proofs.Common.{◌≡◌, replicate}
use Rattle.merge_rows.specs.Cursors.{at_front}
use Rattle.merge_rows.proofs.cursors.cursors_of.Given as goal

abbrev pub invariant-loop-place : goal.invariant-loop-place
invariant-loop-place l = l.cursors.items ≡ replicate l._place at_front

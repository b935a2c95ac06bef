use Rattle.std.proofs.Common.{◌≡◌, ◌++◌, map}
use Rattle.bulk.specs.Trees.{row_of}
use Rattle.bulk.proofs.object.Object.rows.Given as goal

abbrev pub invariant-loop-place : goal.invariant-loop-place
invariant-loop-place l = l.rows ++ map (row_of l.first) l.place-iterator ≡ map (row_of l.first) l.initial.place-iterator

use Rattle.std.proofs.Common.{◌≡◌, ◌++◌, take}
use Rattle.split.proofs.pieces.push_copies.Given as goal

abbrev pub invariant-loop-row : goal.invariant-loop-row
invariant-loop-row l = l.list ≡ l.fn.list ++ take l.row-index l.rows

use Rattle.std.proofs.Common.{◌≡◌, take}
use Rattle.split.specs.Pieces.{all_rows}
use Rattle.split.proofs.collector.join.Given as goal

abbrev pub invariant-loop-piece : goal.invariant-loop-piece
invariant-loop-piece l = l.rows ≡ all_rows (take l.piece-index l.pieces)

use Rattle.std.proofs.Common.{◌≡◌, ◌++◌, drop, None}
use Rattle.split.specs.Halves.{rising, last_key}
use Rattle.split.proofs.half.keep_rising.Given as goal

abbrev pub invariant-loop-row : goal.invariant-loop-row
invariant-loop-row l = l.half.items ++ rising l.dir l.part l.depth (last_key l.half.items) (drop l.row-index l.rows) ≡ rising l.dir l.part l.depth None l.rows

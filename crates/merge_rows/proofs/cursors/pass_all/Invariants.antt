use Rattle.std.proofs.Common.{◌≡◌, ◌++◌, map, take, drop}
use Rattle.merge_rows.specs.Cursors.{cursor_passed}
use Rattle.merge_rows.proofs.cursors.pass_all.Given as goal

abbrev pub invariant-loop-cursor : goal.invariant-loop-cursor
invariant-loop-cursor l = l.cursors ≡ map (cursor_passed l.key) (take l.cursor-index l.fn.cursors) ++ drop l.cursor-index l.fn.cursors

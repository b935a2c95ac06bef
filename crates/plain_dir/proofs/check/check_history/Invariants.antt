use Rattle.plain_dir.proofs.Checking.{SoFar}
use Rattle.plain_dir.proofs.check.check_history.Given as goal

abbrev pub invariant-loop-place : goal.invariant-loop-place
invariant-loop-place l = SoFar l.history l.place l.dir l.numbers

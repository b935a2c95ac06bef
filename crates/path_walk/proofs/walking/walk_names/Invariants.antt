use Rattle.path_walk.proofs.Steps.{HasCome}
use Rattle.path_walk.proofs.walking.walk_names.Given as goal

abbrev pub invariant-loop-at : goal.invariant-loop-at
invariant-loop-at g l = HasCome l.names l.at l.here (g.A.Asker.asks l.fn.asker) (g.A.Asker.asks l.asker)

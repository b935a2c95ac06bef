use Rattle.split.proofs.Keyed.{frozen_moves, half_exact, rest_exact, outside_put, outside_taken}
use Rattle.split.proofs.laws.laws_of_halves.Goals as goal

pub returns-clause-frozen : goal.returns-clause-frozen
returns-clause-frozen c = frozen_moves

pub returns-clause-exact : goal.returns-clause-exact
returns-clause-exact c = half_exact

pub returns-clause-rest : goal.returns-clause-rest
returns-clause-rest c = rest_exact

pub returns-clause-outside : goal.returns-clause-outside
returns-clause-outside c rows dir part depth key attr deep low keyed at out =
    (outside_put rows dir part depth key attr deep low keyed at out, outside_taken rows dir part depth key deep low keyed out)

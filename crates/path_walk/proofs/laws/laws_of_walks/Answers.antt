use Rattle.path_walk.specs.Paths.{names_along}
use Rattle.path_walk.proofs.OneWalk.{one_walk}
use Rattle.path_walk.proofs.laws.laws_of_walks.Goals as goal

pub returns : goal.returns
returns c = record { one = λ path asks others verdict other a b same. one_walk (names_along path) asks others verdict other a b same }

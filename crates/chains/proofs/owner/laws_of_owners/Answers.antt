use Rattle.chains.proofs.Owners.{own_located, own_located_moving, own_located_frozen, frozen_child, child_on_chain, children_reach_all}
use Rattle.chains.proofs.owner.laws_of_owners.Goals as goal

pub returns-clause-quiet : goal.returns-clause-quiet
returns-clause-quiet c = λ radix hash part small large f g within. own_located f g within hash part

pub returns-clause-moving : goal.returns-clause-moving
returns-clause-moving c = λ radix hash part depth small large f g within. own_located_moving f g within hash part depth

pub returns-clause-frozen : goal.returns-clause-frozen
returns-clause-frozen c = λ radix hash part depth small large f g within. own_located_frozen f g within hash part depth

pub returns-clause-frozen_child : goal.returns-clause-frozen_child
returns-clause-frozen_child c = λ radix hash part depth small large f. frozen_child large f hash part depth

pub returns-clause-child_on_chain : goal.returns-clause-child_on_chain
returns-clause-child_on_chain c = λ radix hash part depth set f. child_on_chain f hash part depth

pub returns-clause-reach_all : goal.returns-clause-reach_all
returns-clause-reach_all c = λ radix small large f. children_reach_all f

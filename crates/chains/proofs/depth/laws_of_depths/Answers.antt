use Rattle.chains.proofs.Depths.{depth_least, depth_is, no_child, range_is_located, located_active, depth_same}
use Rattle.chains.proofs.depth.laws_of_depths.Goals as goal

pub returns-clause-depth : goal.returns-clause-depth
returns-clause-depth c = λ radix part set f. depth_least f part

pub returns-clause-unique : goal.returns-clause-unique
returns-clause-unique c = λ radix part depth set. depth_is depth

pub returns-clause-no_child : goal.returns-clause-no_child
returns-clause-no_child c = λ radix part depth set f. no_child f part depth

pub returns-clause-range : goal.returns-clause-range
returns-clause-range c = λ radix hash part set f. range_is_located f hash part

pub returns-clause-active : goal.returns-clause-active
returns-clause-active c = λ radix hash part depth set f. located_active f hash part depth

pub returns-clause-same : goal.returns-clause-same
returns-clause-same c = λ radix part depth small middle large low high children. depth_same depth low high children

use Rattle.chains.proofs.Prefixes.{chain_prefix, located_greatest, located_unique, located_on, located_has, locate_above, located_at, locate_grows}
use Rattle.chains.proofs.location.laws_of_locating.Goals as goal

pub returns-clause-prefix : goal.returns-clause-prefix
returns-clause-prefix c = λ radix hash x y set f. chain_prefix f hash x y

pub returns-clause-greatest : goal.returns-clause-greatest
returns-clause-greatest c = located_greatest

pub returns-clause-unique : goal.returns-clause-unique
returns-clause-unique c = λ radix hash x y set. located_unique x y

pub returns-clause-on_chain : goal.returns-clause-on_chain
returns-clause-on_chain c = located_on

pub returns-clause-in_set : goal.returns-clause-in_set
returns-clause-in_set c = λ radix hash set f. located_has f hash

pub returns-clause-above : goal.returns-clause-above
returns-clause-above c = λ radix hash x set f. locate_above f hash x

pub returns-clause-at : goal.returns-clause-at
returns-clause-at c = λ radix hash x set f. located_at f hash x

pub returns-clause-grows : goal.returns-clause-grows
returns-clause-grows c = λ radix hash small large f g within. locate_grows f g within hash

use Rattle.chains.proofs.Sets.{root_formed, union_formed, union_has_first, union_has_second}
use Rattle.chains.proofs.Depths.{add_formed}
use Rattle.chains.proofs.well_formed.laws_of_well_formed_sets.Goals as goal

pub returns-clause-root : goal.returns-clause-root
returns-clause-root c = root_formed

pub returns-clause-unions : goal.returns-clause-unions
returns-clause-unions c = λ radix a b f g. union_formed f g

pub returns-clause-first_within : goal.returns-clause-first_within
returns-clause-first_within c = union_has_first

pub returns-clause-second_within : goal.returns-clause-second_within
returns-clause-second_within c = union_has_second

pub returns-clause-next_child : goal.returns-clause-next_child
returns-clause-next_child c = λ radix set part depth f has w deep. add_formed f part depth has w deep

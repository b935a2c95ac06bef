use Rattle.chains.proofs.Owners.{formed_wide, formed_narrow, located_wide, depth_wide}
use Rattle.chains.proofs.radix.laws_of_radixes.Goals as goal

pub returns-clause-wide : goal.returns-clause-wide
returns-clause-wide c = λ radix wider set. formed_wide

pub returns-clause-narrow : goal.returns-clause-narrow
returns-clause-narrow c = λ radix wider set. formed_narrow

pub returns-clause-location : goal.returns-clause-location
returns-clause-location c = λ radix wider hash set le f. located_wide le f hash

pub returns-clause-depth : goal.returns-clause-depth
returns-clause-depth c = λ radix wider part set le f. depth_wide le f part

use Rattle.chains.proofs.Lists.{chain_rising, chain_contains, chain_length, chain_unset, chain_set, last_is, next_is}
use Rattle.chains.proofs.Prefixes.{chain_below, chain_to_range, range_to_chain, range_parent}
use Rattle.chains.proofs.chain.laws_of_chains.Goals as goal

pub returns-clause-rising : goal.returns-clause-rising
returns-clause-rising c = chain_rising

pub returns-clause-elements : goal.returns-clause-elements
returns-clause-elements c = chain_contains

pub returns-clause-unset_bit : goal.returns-clause-unset_bit
returns-clause-unset_bit c = chain_unset

pub returns-clause-set_bit : goal.returns-clause-set_bit
returns-clause-set_bit c = chain_set

pub returns-clause-range : goal.returns-clause-range
returns-clause-range c = λ radix hash part depth deep low. (chain_to_range part depth low, range_to_chain hash part depth deep)

pub returns-clause-parent_range : goal.returns-clause-parent_range
returns-clause-parent_range c = λ radix hash part depth low on. range_parent hash part depth low (chain_to_range part depth low on)

pub returns-clause-last : goal.returns-clause-last
returns-clause-last c = λ radix hash part is. last_is part is

pub returns-clause-next : goal.returns-clause-next
returns-clause-next c = λ radix hash part depth deep here more. next_is hash part depth deep here more

pub returns-clause-below : goal.returns-clause-below
returns-clause-below c radix hash part = chain_below

pub returns-clause-count : goal.returns-clause-count
returns-clause-count c = chain_length

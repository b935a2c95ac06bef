use Rattle.chains.proofs.Reversals.{reversed_below, reversed_bit, reversed_back, range_interval, moving_half_upper}
use Rattle.chains.proofs.reversal.laws_of_reversed_hashes.Goals as goal

pub returns-clause-below : goal.returns-clause-below
returns-clause-below c = reversed_below

pub returns-clause-bits : goal.returns-clause-bits
returns-clause-bits c = reversed_bit

pub returns-clause-twice : goal.returns-clause-twice
returns-clause-twice c = reversed_back

pub returns-clause-interval : goal.returns-clause-interval
returns-clause-interval c = range_interval

pub returns-clause-upper_half : goal.returns-clause-upper_half
returns-clause-upper_half c = moving_half_upper

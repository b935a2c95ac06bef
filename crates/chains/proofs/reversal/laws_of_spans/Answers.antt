use Rattle.chains.proofs.Reversals.{span_fits, reversed_child, span_halves, located_to_end, stays_in_range, active_to_end}
use Rattle.chains.proofs.reversal.laws_of_spans.Goals as goal

pub returns-clause-fits : goal.returns-clause-fits
returns-clause-fits c = span_fits

pub returns-clause-middle : goal.returns-clause-middle
returns-clause-middle c = reversed_child

pub returns-clause-lower_half : goal.returns-clause-lower_half
returns-clause-lower_half c = λ width depth part deep low. (span_halves width depth part deep low).0

pub returns-clause-upper_half : goal.returns-clause-upper_half
returns-clause-upper_half c = λ width depth part deep low. (span_halves width depth part deep low).1

pub returns-clause-to_end : goal.returns-clause-to_end
returns-clause-to_end c = λ radix width part x y set f. located_to_end f width part x y

pub returns-clause-active : goal.returns-clause-active
returns-clause-active c = λ radix width part depth y set f. stays_in_range f width part depth y

pub returns-clause-active_to_end : goal.returns-clause-active_to_end
returns-clause-active_to_end c = λ radix width part depth x y set f. active_to_end f width part depth x y

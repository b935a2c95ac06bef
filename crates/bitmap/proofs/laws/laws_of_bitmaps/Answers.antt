use Rattle.bitmap.specs.BitSetLaws.{has_zero, has_with, has_union, same_bits, same_from_test, test_from_same}
use Rattle.bitmap.specs.WordLaws.{has_set, words_back, words_same}
use Rattle.bitmap.proofs.laws.laws_of_bitmaps.Goals as goal

pub returns-clause-zero : goal.returns-clause-zero
returns-clause-zero c = has_zero

pub returns-clause-insert : goal.returns-clause-insert
returns-clause-insert c = has_with

pub returns-clause-union : goal.returns-clause-union
returns-clause-union c = has_union

pub returns-clause-same : goal.returns-clause-same
returns-clause-same c = same_bits

pub returns-clause-equals : goal.returns-clause-equals
returns-clause-equals c a b = (same_from_test a b, test_from_same a b)

pub returns-clause-words_back : goal.returns-clause-words_back
returns-clause-words_back c = words_back

pub returns-clause-one_spelling : goal.returns-clause-one_spelling
returns-clause-one_spelling c = words_same

pub returns-clause-bits : goal.returns-clause-bits
returns-clause-bits c = has_set

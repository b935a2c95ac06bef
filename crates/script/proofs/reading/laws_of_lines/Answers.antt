use Rattle.script.proofs.Meanings.{one_line}
use Rattle.script.proofs.Numerals.{numeral_spelled, numeral_found}
use Rattle.script.proofs.Printing.{line_printed}
use Rattle.script.proofs.reading.laws_of_lines.Goals as goal

pub returns-clause-one : goal.returns-clause-one
returns-clause-one c = one_line

pub returns-clause-printed : goal.returns-clause-printed
returns-clause-printed c = line_printed

pub returns-clause-numbers : goal.returns-clause-numbers
returns-clause-numbers c = λ word number. (numeral_found word number, λ numeral. numeral_spelled word number numeral.0 numeral.1)

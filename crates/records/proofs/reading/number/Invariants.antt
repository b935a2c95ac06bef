use Rattle.records.proofs.Numbers.{Numbers}
use Rattle.records.proofs.reading.number.Given as goal

abbrev pub invariant-loop-place : goal.invariant-loop-place
invariant-loop-place l = Numbers l.least l.most l.width l.value l.place l.bytes

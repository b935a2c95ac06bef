use Rattle.std.proofs.Common.{◌≡◌, true}
use Rattle.records.specs.ReadingInstalls.{bit_in, is_grown}
use Rattle.records.proofs.reading_installs.is_grown.Given as goal

abbrev pub invariant-loop-bit : goal.invariant-loop-bit
invariant-loop-bit l = is_grown (bit_in l.bytes) l.first l.bit ≡ true

use Rattle.std.proofs.Common.{◌≡◌, true}
use Rattle.records.specs.ReadingInstalls.{bit_in, has_required}
use Rattle.records.proofs.reading_installs.has_required.Given as goal

abbrev pub invariant-loop-depth : goal.invariant-loop-depth
invariant-loop-depth l = has_required (bit_in l.bytes) l.number l.depth ≡ true

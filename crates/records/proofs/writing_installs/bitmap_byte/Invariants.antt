use Rattle.std.proofs.Common.{◌≡◌, ◌+◌, ◌*◌}
use Rattle.bitmap.specs.Bits.{has}
use Rattle.bitmap.specs.Words.{number_of}
use Rattle.records.proofs.writing_installs.bitmap_byte.Given as goal

abbrev pub invariant-loop-bit : goal.invariant-loop-bit
invariant-loop-bit l = l.byte ≡ number_of (λ i. has l.bitmap (l.place * 8 + i)) l.bit

use Rattle.std.proofs.Common.{◌*◌}
use Rattle.chains.specs.WellFormed.{IsRequired}
use Rattle.bitmap.specs.Bits.{has}
use Rattle.bitmap.specs.Words.{SpellsFrom, set_of, word_bits}
use Rattle.bitmap.proofs.missing.required_in.Given as goal

abbrev pub invariant-loop-depth : goal.invariant-loop-depth
invariant-loop-depth l = SpellsFrom (IsRequired l.depth (has (set_of l.words))) (l.row * word_bits) l.required

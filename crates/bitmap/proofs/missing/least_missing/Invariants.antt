use Rattle.std.proofs.Common.{ℕ, ◌*◌, ◌<◌}
use Rattle.mds_base.specs.declared.TheConstants.{RADIX}
use Rattle.chains.specs.WellFormed.{IsMissing}
use Rattle.bitmap.specs.Bits.{has}
use Rattle.bitmap.specs.Words.{set_of, word_bits}
use Rattle.bitmap.proofs.missing.least_missing.Given as goal

abbrev pub invariant-loop-row : goal.invariant-loop-row
invariant-loop-row l = (m : ℕ) → m < l.row * word_bits → IsMissing RADIX (has (set_of l.words)) m → ⊥

-- One step of turning bits round: the bits of a mask and those `by` above them change places.
use Rattle.std.specs.Prelude.{ℕ, ◌*◌, ◌/◌, ◌%◌, ◌^◌, bit_and, bit_or}

abbrev pub swapped : ℕ → ℕ → ℕ → ℕ
swapped by mask n = bit_or (bit_and (n / 2 ^ by) mask) (bit_and n mask * 2 ^ by % 2 ^ 64)

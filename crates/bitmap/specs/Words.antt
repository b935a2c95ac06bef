-- The words that spell a bitmap. Their sizes are the one number here that goes with the radix: there are
-- 2 ^ radix bits.
use Rattle.std.specs.Prelude.{◌≡◌, ℕ, zero, suc, ◌+◌, ◌*◌, ◌/◌, ◌%◌, ◌^◌, ◌<◌, ◌==◌, ◌&&◌, ◌↔◌, nat_lt, Bool, List, map}
use Rattle.std.specs.Prelude.{length, slice_index, if◌then◌else◌}
use Rattle.std.specs.List.{range_with_len}
use Rattle.std.specs.Int.{bit_at, Width, w64}
use Rattle.std.specs.FinSet as set
use Rattle.chains.specs.WellFormed.{IsWellFormed}
use Rattle.bitmap.specs.Bits.{Bits, has}

-- how many words spell a bitmap, and how many bits a word has
abbrev pub word_count : ℕ
word_count = 16

abbrev pub word_bits : ℕ
word_bits = 64

abbrev pub word_width : Width
word_width = w64

-- 16 words of 64 bits
pub record IsWhole (words : List ℕ) : Type 0 where
  pub count : length words ≡ word_count
  pub words_fit : (k : ℕ) → slice_index words k < 2 ^ word_bits

-- bit i is bit i mod 64 of word i / 64
unfoldable pub bit_of : List ℕ → ℕ → Bool
bit_of words i =
    nat_lt i (word_count * word_bits) && (bit_at (slice_index words (i / word_bits)) (i % word_bits) == 1)

-- the numbers below n that pass a test
unfoldable pub passing : (ℕ → Bool) → ℕ → Bits
passing test zero = set.empty
passing test (suc n) = if test n then set.insert (passing test n) n else passing test n

-- the bits of one word say which of the numbers from `first` on have a property
pub record SpellsFrom (property : ℕ → Type 0) (first word : ℕ) : Type 0 where
  pub at : (i : ℕ) → i < word_bits → (bit_at word i ≡ 1) ↔ property (first + i)

-- the set that words spell
unfoldable pub set_of : List ℕ → Bits
set_of words = passing (bit_of words) (word_count * word_bits)

-- the number whose bits below n are those that pass a test
unfoldable pub number_of : (ℕ → Bool) → ℕ → ℕ
number_of test zero = 0
number_of test (suc n) = if test n then number_of test n + 2 ^ n else number_of test n

-- the words that spell a set
unfoldable pub words_of : Bits → List ℕ
words_of bits =
    map (λ k. number_of (λ i. has bits (k * word_bits + i)) word_bits) (range_with_len 0 word_count)

-- what is true of the words of each bitmap: they are whole and what they spell is well formed
pub record IsBitmap (radix : ℕ) (words : List ℕ) : Type 0 where
  pub whole : IsWhole words
  pub well_formed : IsWellFormed radix (has (set_of words))

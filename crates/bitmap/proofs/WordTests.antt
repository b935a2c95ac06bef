-- What a bitmap has to have and lacks, a word at a time.
use Rattle.std.proofs.Common.{◌≡◌, ℕ, suc, ◌+◌, ◌-◌, ◌*◌, ◌/◌, ◌%◌, ◌^◌, ◌<◌, ◌≤◌, ◌⊎◌, ◌↔◌, ◌==◌, inl, inr, Bool, IsTrue, List, length, slice_index, bit_and, bit_or, min, sym, ap, ◌∙◌, subst, arith, pow_pos, pow_mono}
use mir.Val.{bool_byte}
use Rattle.std.proofs.lemmas.List.{get_or_past}
use Rattle.std.specs.Int.{bit_at, bit_not, trailing_zeros}
use Rattle.std.proofs.lemmas.Bool.{true≢false, cases_lt, cases_eq, eq-eqb, eqb-true, ne_eqb}
use Rattle.std.proofs.lemmas.Nat.{and_le_l}
use Rattle.std.proofs.lemmas.Nat.Bits.{bit_at-lt, bit_at-zero, bit_at_or, bit_at_and, bit_at_not, bit_at_above, bit_at_ones, bit_at_ones_above, bit_at-trailing_zeros}
use Rattle.chains.specs.WellFormed.{IsRequired, IsMissing, IsLeastMissing}
use Rattle.chains.proofs.Shifts.{bit_at_shr, bit_at_shl_low, bit_at_shl_high}
use Rattle.bitmap.specs.Bits.{has}
use Rattle.bitmap.specs.Words.{word_count, word_bits, word_width, SpellsFrom, set_of}
use Rattle.bitmap.specs.WordLaws.{has_set_at, place_bit}
use Rattle.bitmap.proofs.Edits.{bit_past}

abbrev pub Holds : List ℕ → ℕ → Type 0
Holds words m = IsTrue (has (set_of words) m)

-- ---- bits of words

pub has_at : (words : List ℕ) (k i : ℕ) → length words ≡ word_count → i < word_bits → has (set_of words) (k * word_bits + i) ≡ (bit_at (slice_index words k) i == 1)
has_at words k i count low =
    has_set_at words (k * word_bits + i)
    ∙ elim (cases_lt k word_count) [
      | inl inside ↦ place_bit words k i inside low
      | inr past ↦
          bit_past words (k * word_bits + i) (omega arith)
          ∙ sym (ap (λ x. bit_at x i == 1) (get_or_past words k 0 (omega arith)) ∙ ap (λ x. x == 1) (bit_at-zero i))
    ]

-- a number that is the bit of a word at a place says whether the set has that place
says : (words : List ℕ) (x m k j : ℕ) → length words ≡ word_count → j < word_bits → m ≡ k * word_bits + j → x ≡ bit_at (slice_index words k) j → (x ≡ 1) ↔ Holds words m
says words x m k j count low place is =
    let same : has (set_of words) m ≡ (x == 1) = ap (has (set_of words)) place ∙ (has_at words k j count low ∙ ap (λ y. y == 1) (sym is)) in
    (λ e. same ∙ eq-eqb x 1 e, λ t. eqb-true x 1 (sym same ∙ t))

-- the bits from a word's first on are that word
pub one_word : (words : List ℕ) (first here : ℕ) → length words ≡ word_count → here ≡ slice_index words (first / word_bits) → first % word_bits ≡ 0 → SpellsFrom (Holds words) first (here / 2 ^ (first % word_bits))
one_word words first here count is none =
    let k = first / word_bits in
    let s = first % word_bits in
    record {
      at = λ i within.
          says words (bit_at (here / 2 ^ s) i) (first + i) k (s + i) count (omega arith) (omega arith) (bit_at_shr here s i ∙ ap (λ x. bit_at x (s + i)) is);
    }

-- and the bits from another on are the end of one word and the front of the next
pub two_words : (words : List ℕ) (first here next : ℕ) → length words ≡ word_count → ((k : ℕ) → slice_index words k < 2 ^ word_bits) → here ≡ slice_index words (first / word_bits) → next ≡ slice_index words (first / word_bits + 1) → (first % word_bits ≡ 0 → ⊥) → SpellsFrom (Holds words) first (bit_or (here / 2 ^ (first % word_bits)) (next * 2 ^ (word_bits - first % word_bits) % 2 ^ word_bits))
two_words words first here next count fits is next_is some =
    let k = first / word_bits in
    let s = first % word_bits in
    let back = word_bits - s in
    let low = here / 2 ^ s in
    let high = next * 2 ^ back % 2 ^ word_bits in
    record {
      at = λ i within.
          elim (cases_lt (s + i) word_bits) [
            | inl inside ↦
                let none : bit_at high i ≡ 0 = bit_at_shl_low word_bits next back i within (omega arith) in
                let from = bit_at_shr here s i ∙ ap (λ x. bit_at x (s + i)) is in
                says words (bit_at (bit_or low high) i) (first + i) k (s + i) count inside (omega arith) (omega (arith, bit_at_or low high i, from, none))
            | inr past ↦
                let none : bit_at low i ≡ 0 = bit_at_shr here s i ∙ (ap (λ x. bit_at x (s + i)) is ∙ bit_at_above (slice_index words k) word_bits (s + i) (fits k) past) in
                let from = bit_at_shl_high word_bits next back i within (omega arith) ∙ ap (λ x. bit_at x (i - back)) next_is in
                says words (bit_at (bit_or low high) i) (first + i) (k + 1) (i - back) count (omega arith) (omega arith) (omega (arith, bit_at_or low high i, none, from))
          ];
    }

-- ---- what is required

-- at no depth only 0 is
pub required_root : (b : ℕ → Bool) (row required : ℕ) → required ≡ bool_byte (row == 0) → SpellsFrom (IsRequired 0 b) (row * word_bits) required
required_root b row required is =
    elim (cases_eq row 0) [
      | inl none ↦
          let one : required ≡ 1 = is ∙ ap bool_byte (eq-eqb row 0 none) in
          record {
            at = λ i low.
                elim (cases_eq i 0) [
                  | inl first ↦ (λ e. inl (omega arith), λ need. ap (λ x. bit_at x i) one ∙ ap (bit_at 1) first)
                  | inr later ↦
                      let unset : bit_at required i ≡ 0 = ap (λ x. bit_at x i) one ∙ bit_at_ones_above 1 i (omega arith) in
                      (λ e. absurd (omega arith), λ need. absurd (only_root b (row * word_bits + i) (omega arith) need))
                ];
          }
      | inr some ↦
          let nothing : required ≡ 0 = is ∙ ap bool_byte (ne_eqb row 0 some) in
          record {
            at = λ i low.
                let unset : bit_at required i ≡ 0 = ap (λ x. bit_at x i) nothing ∙ bit_at-zero i in
                (λ e. absurd (omega arith), λ need. absurd (only_root b (row * word_bits + i) (omega arith) need));
          }
    ]
  where
    only_root : (b : ℕ → Bool) (m : ℕ) → (m ≡ 0 → ⊥) → IsRequired 0 b m → ⊥
    only_root b m some (inl none) = some none
    only_root b m some (inr (j, lt, low, yet)) = absurd (omega arith)

wider : (d m : ℕ) (b : ℕ → Bool) → IsRequired d b m → IsRequired (d + 1) b m
wider d m b (inl e) = inl e
wider d m b (inr (j, lt, low, yet)) = inr (j, omega arith, low, yet)

-- of what the next depth requires only what its power adds is new
narrower : (d m : ℕ) (b : ℕ → Bool) → IsRequired (d + 1) b m → IsRequired d b m ⊎ ((m < 2 ^ (d + 1)) × IsTrue (b (m + 2 ^ d)))
narrower d m b (inl e) = inl (inl e)
narrower d m b (inr (j, lt, low, yet)) =
    elim (cases_eq j d) [
      | inr ne ↦ inl (inr (j, omega arith, low, yet))
      | inl e ↦
          let next : suc j ≡ d + 1 = omega arith in
          inr (omega (arith, ap (λ k. 2 ^ k) next), ap (λ k. b (m + 2 ^ k)) (sym e) ∙ yet)
    ]

added : (d m : ℕ) (b : ℕ → Bool) → m < 2 ^ (d + 1) → IsTrue (b (m + 2 ^ d)) → IsRequired (d + 1) b m
added d m b low yet =
    let next : d + 1 ≡ suc d = omega arith in
    inr (d, omega arith, omega (arith, ap (λ k. 2 ^ k) next), yet)

pub required_same : (d first required end : ℕ) (b : ℕ → Bool) → end ≡ 2 ^ (d + 1) → end ≤ first → SpellsFrom (IsRequired d b) first required → SpellsFrom (IsRequired (d + 1) b) first required
required_same d first required end b is past spells = record {
  at = λ i within. (
    λ e. wider d (first + i) b ((spells.at i within).0 e),
    λ need. elim (narrower d (first + i) b need) [
      | inl was ↦ (spells.at i within).1 was
      | inr w ↦ absurd (omega (arith, w.0))
    ],
  );
}

both_set : (a b : ℕ) → min a b ≡ 1 → a < 2 → b < 2 → (a ≡ 1) × (b ≡ 1)
both_set a b e la lb = (omega arith, omega arith)

pub required_more : (d first required window mask by end : ℕ) (b : ℕ → Bool) → by ≡ 2 ^ d → end ≡ 2 ^ (d + 1) → mask ≡ 2 ^ min (end - first) word_bits - 1 → first < end → SpellsFrom (IsRequired d b) first required → SpellsFrom (λ m. IsTrue (b m)) (first + by) window → SpellsFrom (IsRequired (d + 1) b) first (bit_or required (bit_and window mask))
required_more d first required window mask by end b power is low more spells more_spells =
    let count = min (end - first) word_bits in
    let new = bit_and window mask in
    let place : (i : ℕ) → first + by + i ≡ first + i + 2 ^ d = λ i. omega arith in
    record {
      at = λ i within.
          let bits = bit_at_or required new i in
          let new_bits = bit_at_and window mask i in (
            λ e. elim (cases_eq (bit_at required i) 1) [
              | inl was ↦ wider d (first + i) b ((spells.at i within).0 was)
              | inr not ↦
                  let one : min (bit_at window i) (bit_at mask i) ≡ 1 = omega (arith, bit_at-lt required i) in
                  let both = both_set (bit_at window i) (bit_at mask i) one (bit_at-lt window i) (bit_at-lt mask i) in
                  elim (cases_lt i count) [
                    | inr past ↦ absurd (omega (arith, both.1, ap (λ x. bit_at x i) low, bit_at_ones_above count i past))
                    | inl lt ↦ added d (first + i) b (omega arith) (ap b (sym (place i)) ∙ (more_spells.at i within).0 both.0)
                  ]
            ],
            λ need. elim (narrower d (first + i) b need) [
              | inl was ↦ omega (arith, bits, (spells.at i within).1 was, bit_at-lt new i)
              | inr w ↦
                  let lt : i < count = omega (arith, w.0) in
                  let there : bit_at window i ≡ 1 = (more_spells.at i within).1 (ap b (place i) ∙ w.1) in
                  omega (arith, bits, new_bits, there, ap (λ x. bit_at x i) low, bit_at_ones count i lt, bit_at-lt required i)
            ],
          );
    }

-- ---- what is missing

required_below : {r : ℕ} (b : ℕ → Bool) (m : ℕ) → IsRequired r b m → m < 2 ^ r
required_below {r} b m (inl e) = omega (arith, e, pow_pos r)
required_below {r} b m (inr (j, deep, low, yet)) = omega (arith, low, pow_mono {i = suc j} {j = r} deep)

pub none_missing : {r : ℕ} {b : ℕ → Bool} (n : ℕ) → 2 ^ r ≤ n → ((m : ℕ) → m < n → IsMissing r b m → ⊥) → (m : ℕ) → IsMissing r b m → ⊥
none_missing {r} {b} n all none m lacks = none m (omega (arith, required_below b m lacks.1)) lacks

abbrev missing_in : List ℕ → ℕ → ℕ → ℕ
missing_in words row required = bit_and required (bit_not word_width (slice_index words row))

missing_bit : (words : List ℕ) (row required i : ℕ) → ((k : ℕ) → slice_index words k < 2 ^ word_bits) → i < word_bits → bit_at (missing_in words row required) i ≡ min (bit_at required i) (1 - bit_at (slice_index words row) i)
missing_bit words row required i fits low =
    bit_at_and required (bit_not word_width (slice_index words row)) i
    ∙ ap (min (bit_at required i)) (bit_at_not word_width (slice_index words row) i (fits row) low)

-- a bit of what a word misses is a number that is missing
missing_at : {r : ℕ} (words : List ℕ) (row required i : ℕ) → length words ≡ word_count → ((k : ℕ) → slice_index words k < 2 ^ word_bits) → SpellsFrom (IsRequired r (has (set_of words))) (row * word_bits) required → i < word_bits → (bit_at (missing_in words row required) i ≡ 1) ↔ IsMissing r (has (set_of words)) (row * word_bits + i)
missing_at {r} words row required i count fits spells low =
    let bit = bit_at (slice_index words row) i in
    let is = missing_bit words row required i fits low in
    let bound = bit_at-lt (slice_index words row) i in
    let at = has_at words row i count low in (
      λ e.
          let both = both_set (bit_at required i) (1 - bit) (sym is ∙ e) (bit_at-lt required i) (omega arith) in
          (at ∙ ne_eqb bit 1 (λ set. absurd (omega (arith, both.1))), (spells.at i low).0 both.0),
      λ lacks.
          let unset : bit ≡ 0 = elim (cases_eq bit 1) [
            | inl set ↦ absurd (true≢false (sym (at ∙ eq-eqb bit 1 set) ∙ lacks.0))
            | inr ne ↦ omega arith
          ] in
          omega (arith, is, (spells.at i low).1 lacks.1),
    )

pub missing_least : {r : ℕ} (words : List ℕ) (row required : ℕ) → length words ≡ word_count → ((k : ℕ) → slice_index words k < 2 ^ word_bits) → required < 2 ^ word_bits → SpellsFrom (IsRequired r (has (set_of words))) (row * word_bits) required → ((m : ℕ) → m < row * word_bits → IsMissing r (has (set_of words)) m → ⊥) → 0 < missing_in words row required → IsLeastMissing r (has (set_of words)) (row * word_bits + trailing_zeros word_width (missing_in words row required))
missing_least {r} words row required count fits fit spells none some =
    let x = missing_in words row required in
    let small : x < 2 ^ word_bits = omega (arith, and_le_l required (bit_not word_width (slice_index words row))) in
    let lowest = bit_at-trailing_zeros word_width x some small in
    let t = trailing_zeros word_width x in
    record {
      missing = (missing_at words row required t count fits spells lowest.0).0 lowest.1;
      least = λ m lacks.
          elim (cases_lt m (row * word_bits + t)) [
            | inr le ↦ le
            | inl lt ↦ elim (cases_lt m (row * word_bits)) [
              | inl before ↦ absurd (none m before lacks)
              | inr from ↦
                  let i = m - row * word_bits in
                  let place : m ≡ row * word_bits + i = omega arith in
                  let bit = (missing_at words row required i count fits spells (omega (arith, lowest.0))).1 (subst (IsMissing r (has (set_of words))) place lacks) in
                  absurd (omega (arith, bit, lowest.2 i (omega arith)))
            ]
          ];
    }

pub missing_no_more : {r : ℕ} (words : List ℕ) (row required : ℕ) → length words ≡ word_count → ((k : ℕ) → slice_index words k < 2 ^ word_bits) → SpellsFrom (IsRequired r (has (set_of words))) (row * word_bits) required → ((m : ℕ) → m < row * word_bits → IsMissing r (has (set_of words)) m → ⊥) → missing_in words row required ≡ 0 → (m : ℕ) → m < (row + 1) * word_bits → IsMissing r (has (set_of words)) m → ⊥
missing_no_more {r} words row required count fits spells none zero_is m lt lacks =
    elim (cases_lt m (row * word_bits)) [
      | inl before ↦ none m before lacks
      | inr from ↦
          let i = m - row * word_bits in
          let place : m ≡ row * word_bits + i = omega arith in
          let bit = (missing_at words row required i count fits spells (omega arith)).1 (subst (IsMissing r (has (set_of words))) place lacks) in
          absurd (omega (arith, bit, ap (λ x. bit_at x i) zero_is, bit_at-zero i))
    ]

-- What reads and writes of words do to the set that they spell.
use Rattle.std.proofs.Common.{◌≡◌, ℕ, zero, suc, ◌*◌, ◌/◌, ◌%◌, ◌^◌, ◌<◌, ◌≤◌, ◌==◌, ◌&&◌, ◌||◌, nat_eq, nat_lt, inl, inr, Bool, false, List, length, slice_index, get_or, set as put, bit_and, bit_or, max, sym, refl, ap, ap₂, ◌∙◌, subst, arith, pow_pos, mod-lt, lit<, get_or-set_other, get_or-set_same, length-set}
use Rattle.std.proofs.lemmas.List.{get_or_past}
use Rattle.std.specs.FinSet as set
use Rattle.std.specs.Int.{bit_at}
use Rattle.std.proofs.lemmas.Bool.{cases_lt, cases_eq, lt-ltb, le-ltb, eq-eqb, ne_eqb}
use Rattle.std.proofs.lemmas.Nat.{mod_below, or_lt, div_below}
use Rattle.std.proofs.lemmas.Nat.Bits.{bit_at-lt, bit_at_or, bit_at_set_same, bit_at_set_other, shr_and_one}
use Rattle.chains.specs.WellFormed.{with_number, union_of}
use Rattle.bitmap.specs.Bits.{has}
use Rattle.bitmap.specs.Words.{word_count, word_bits, word_width, IsWhole, bit_of, set_of}
use Rattle.bitmap.specs.BitSetLaws.{has_with, has_union, same_bits}
use Rattle.bitmap.specs.WordLaws.{has_set, has_set_at}

abbrev bit_count : ℕ
bit_count = word_count * word_bits

abbrev raw : List ℕ → ℕ → Bool
raw words i = bit_at (slice_index words (i / word_bits)) (i % word_bits) == 1

bit_inside : (words : List ℕ) (i : ℕ) → i < bit_count → bit_of words i ≡ raw words i
unfolding bit_of
bit_inside words i lt = ap (λ b. b && raw words i) (lt-ltb i bit_count lt)

pub bit_past : (words : List ℕ) (i : ℕ) → bit_count ≤ i → bit_of words i ≡ false
unfolding bit_of
bit_past words i le = ap (λ b. b && raw words i) (le-ltb i bit_count le)

functions : {f g : ℕ → Bool} → ((i : ℕ) → f i ≡ g i) → f ≡ g
functions same j i = same i j

-- ---- reads

pub read_inside : (words : List ℕ) (i : ℕ) → i < bit_count → nat_eq (bit_and (slice_index words (i / word_bits) / 2 ^ (i % word_bits)) 1) 1 ≡ has (set_of words) i
read_inside words i lt =
    ap (λ x. nat_eq x 1) (shr_and_one (slice_index words (i / word_bits)) (i % word_bits)) ∙ (sym (bit_inside words i lt) ∙ sym (has_set_at words i))

pub read_past : (words : List ℕ) (i : ℕ) → bit_count ≤ i → nat_lt i bit_count ≡ has (set_of words) i
read_past words i le = le-ltb i bit_count le ∙ (sym (bit_past words i le) ∙ sym (has_set_at words i))

-- ---- a bit set

row_of : (i : ℕ) → i < bit_count → i / word_bits < word_count
row_of i lt = div_below i word_bits word_count (lit< tt) lt

same_place : (i q : ℕ) → i / word_bits ≡ q / word_bits → i % word_bits ≡ q % word_bits → i ≡ q
same_place i q row column = omega arith

abbrev marked : List ℕ → ℕ → List ℕ
marked words q =
    put words (q / word_bits) (bit_or (get_or words (q / word_bits) 0) (1 * 2 ^ (q % word_bits) % 2 ^ word_bits))

raw_marked : (words : List ℕ) (q i : ℕ) → q / word_bits < length words → raw (marked words q) i ≡ ((i == q) || raw words i)
raw_marked words q i within =
    let low : q % word_bits < word_bits = mod_below q word_bits (lit< tt) in
    let word = get_or words (q / word_bits) 0 in
    let more = bit_or word (1 * 2 ^ (q % word_bits) % 2 ^ word_bits) in
    elim (cases_eq (i / word_bits) (q / word_bits)) [
      | inl row ↦
          let here : slice_index (marked words q) (i / word_bits) ≡ more = ap (slice_index (marked words q)) row ∙ get_or-set_same words (q / word_bits) more 0 within in
          ap (λ x. bit_at x (i % word_bits) == 1) here
          ∙ elim (cases_eq (i % word_bits) (q % word_bits)) [
            | inl column ↦
                ap (λ j. bit_at more j == 1) column
                ∙ (ap (λ x. x == 1) (bit_at_set_same word_width word (q % word_bits) low)
                ∙ sym (ap (λ b. b || raw words i) (eq-eqb i q (same_place i q row column))))
            | inr other ↦
                ap (λ x. x == 1) (bit_at_set_other word_width word (q % word_bits) low (i % word_bits) other)
                ∙ (ap (λ j. bit_at (slice_index words j) (i % word_bits) == 1) (sym row)
                ∙ sym (ap (λ b. b || raw words i) (ne_eqb i q (λ e. other (ap (λ x. x % word_bits) e)))))
          ]
      | inr other ↦
          ap (λ x. bit_at x (i % word_bits) == 1) (get_or-set_other words (q / word_bits) (i / word_bits) more 0 other)
          ∙ sym (ap (λ b. b || raw words i) (ne_eqb i q (λ e. other (ap (λ x. x / word_bits) e))))
    ]

bit_marked : (words : List ℕ) (q i : ℕ) → length words ≡ word_count → q < bit_count → bit_of (marked words q) i ≡ with_number (bit_of words) q i
bit_marked words q i count lt =
    elim (cases_lt i bit_count) [
      | inl inside ↦
          bit_inside (marked words q) i inside
          ∙ (raw_marked words q i (omega (arith, row_of q lt)) ∙ ap (λ b. (i == q) || b) (sym (bit_inside words i inside)))
      | inr past ↦
          bit_past (marked words q) i past
          ∙ sym (ap₂ (λ a b. a || b) (ne_eqb i q (λ e. absurd (omega arith))) (bit_past words i past))
    ]

pub set_marked : (words : List ℕ) (q : ℕ) → length words ≡ word_count → q < bit_count → set_of (marked words q) ≡ set.insert (set_of words) q
set_marked words q count lt =
    same_bits (set_of (marked words q)) (set.insert (set_of words) q)
    (has_set (marked words q)
    ∙ (functions (λ i. bit_marked words q i count lt)
    ∙ sym (has_with (set_of words) q ∙ ap (λ t. with_number t q) (has_set words))))

pub whole_marked : (words : List ℕ) (q : ℕ) → q < bit_count → IsWhole words → IsWhole (marked words q)
whole_marked words q lt whole =
    let row = q / word_bits in
    let word = get_or words row 0 in
    let within : row < length words = omega (arith, row_of q lt, whole.count) in
    let more = bit_or word (1 * 2 ^ (q % word_bits) % 2 ^ word_bits) in
    let fits : more < 2 ^ word_bits = or_lt word_bits word (1 * 2 ^ (q % word_bits) % 2 ^ word_bits) (whole.words_fit row) (mod-lt (1 * 2 ^ (q % word_bits)) (pow_pos word_bits)) in
    record {
      count = length-set words row more ∙ whole.count;
      words_fit = λ k.
          elim (cases_eq k row) [
            | inl e ↦
                let P : ℕ → Type 0 = λ x. x < 2 ^ word_bits in
                subst P (sym (ap (slice_index (marked words q)) e ∙ get_or-set_same words row more 0 within)) fits
            | inr ne ↦
                let P : ℕ → Type 0 = λ x. x < 2 ^ word_bits in
                subst P (sym (get_or-set_other words row k more 0 ne)) (whole.words_fit k)
          ];
    }

-- ---- words joined

or_digit : (x y : ℕ) → x < 2 → y < 2 → (max x y == 1) ≡ ((x == 1) || (y == 1))
or_digit zero zero lx ly = refl
or_digit zero (suc zero) lx ly = refl
or_digit (suc zero) zero lx ly = refl
or_digit (suc zero) (suc zero) lx ly = refl
or_digit x (suc (suc y)) lx ly = absurd (omega arith)
or_digit (suc (suc x)) y lx ly = absurd (omega arith)

abbrev joined_to : List ℕ → List ℕ → List ℕ → Type 0
joined_to new old more = (k : ℕ) → k < word_count → get_or new k 0 ≡ bit_or (get_or old k 0) (get_or more k 0)

raw_joined : (new old more : List ℕ) → joined_to new old more → (i : ℕ) → i < bit_count → raw new i ≡ (raw old i || raw more i)
raw_joined new old more each i lt =
    let row = i / word_bits in
    let column = i % word_bits in
    ap (λ x. bit_at x column == 1) (each row (row_of i lt))
    ∙ (ap (λ x. x == 1) (bit_at_or (get_or old row 0) (get_or more row 0) column)
    ∙ or_digit (bit_at (get_or old row 0) column) (bit_at (get_or more row 0) column) (bit_at-lt (get_or old row 0) column) (bit_at-lt (get_or more row 0) column))

bit_joined : (new old more : List ℕ) → joined_to new old more → (i : ℕ) → bit_of new i ≡ union_of (bit_of old) (bit_of more) i
bit_joined new old more each i =
    elim (cases_lt i bit_count) [
      | inl lt ↦
          bit_inside new i lt
          ∙ (raw_joined new old more each i lt ∙ sym (ap₂ (λ a b. a || b) (bit_inside old i lt) (bit_inside more i lt)))
      | inr past ↦
          bit_past new i past ∙ sym (ap₂ (λ a b. a || b) (bit_past old i past) (bit_past more i past))
    ]

pub set_joined : (new old more : List ℕ) → joined_to new old more → set_of new ≡ set.union (set_of old) (set_of more)
set_joined new old more each =
    same_bits (set_of new) (set.union (set_of old) (set_of more))
    (has_set new
    ∙ (functions (bit_joined new old more each)
    ∙ sym (has_union (set_of old) (set_of more) ∙ ap₂ union_of (has_set old) (has_set more))))

pub whole_joined : (new old more : List ℕ) → joined_to new old more → length new ≡ word_count → IsWhole old → IsWhole more → IsWhole new
whole_joined new old more each count a b = record {
  count = count;
  words_fit = λ k.
      let P : ℕ → Type 0 = λ x. x < 2 ^ word_bits in
      elim (cases_lt k word_count) [
        | inl lt ↦ subst P (sym (each k lt)) (or_lt word_bits (get_or old k 0) (get_or more k 0) (a.words_fit k) (b.words_fit k))
        | inr past ↦ subst P (sym (get_or_past new k 0 (omega arith))) (pow_pos word_bits)
      ];
}

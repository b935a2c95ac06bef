-- Words and the sets that they spell: the laws by which a bitmap gives its words back.
use Rattle.std.proofs.Common.{◌≡◌, ℕ, zero, suc, ◌+◌, ◌-◌, ◌*◌, ◌/◌, ◌%◌, ◌^◌, ◌<◌, ◌⊎◌, ◌==◌, ◌&&◌, ◌||◌, nat_eq}
use Rattle.std.proofs.Common.{nat_lt, inl, inr, Bool, true, false, IsTrue, cond, List, map, slice_index, sym, refl, ap}
use Rattle.std.proofs.Common.{◌∙◌, arith, pow-suc}
use Rattle.std.proofs.Math.Path.{fun_ext}
use Rattle.std.specs.FinSet as set
use Rattle.std.specs.List.{range_with_len}
use Rattle.std.specs.Ordering.{nat_cmp}
use Rattle.std.specs.Int.{bit_at}
use Rattle.std.proofs.lemmas.Bool.{cases_Bool, cases_lt, cases_eq, lt-ltb, le-ltb, ltb-true, eq-eqb, ne_eqb, and_parts}
use Rattle.std.proofs.lemmas.Bool.{and_from}
use Rattle.std.proofs.lemmas.List.{ext_get_or}
use Rattle.std.proofs.lemmas.List.FromFn.{get_or-map-range_with_len, length-map-range_with_len}
use Rattle.std.proofs.lemmas.Nat.{div-mul-add, mod-mul-add}
use Rattle.std.proofs.lemmas.Nat.Bits.{bit_at-lt, same_from_bits_below, bit_at_cat_low, bit_at_cat_high}
use Rattle.std.specs.Cmp.Lexicographic.{pointwise, bytes_decides}
use Rattle.bitmap.specs.Bits.{Bits, has, is_same}
use Rattle.bitmap.specs.Words.{word_count, word_bits, IsWhole, bit_of, passing, set_of, number_of, words_of}
use Rattle.bitmap.specs.BitSetLaws.{has_with, same_bits, same_from_test, test_from_same}

passing_none : (t : ℕ → Bool) → passing t 0 ≡ set.empty
unfolding passing
passing_none t = refl

passing_more : (t : ℕ → Bool) (n : ℕ) → passing t (suc n) ≡ cond (t n) (set.insert (passing t n) n) (passing t n)
unfolding passing
passing_more t n = refl

with_is : (t : ℕ → Bool) (n i : ℕ) → t n ≡ true → ((i == n) || (nat_lt i n && t i)) ≡ (nat_lt i (suc n) && t i)
with_is t n i yet =
    elim (cases_eq i n) [
      | inl e ↦
          ap (λ b. b || (nat_lt i n && t i)) (eq-eqb i n e)
          ∙ sym (and_from (nat_lt i (suc n)) (t i) (lt-ltb i (suc n) (omega arith)) (ap t e ∙ yet))
      | inr ne ↦
          ap (λ b. b || (nat_lt i n && t i)) (ne_eqb i n ne)
          ∙ ap (λ b. b && t i) (same_below i n ne)
    ]
  where
    same_below : (i n : ℕ) → (i ≡ n → ⊥) → nat_lt i n ≡ nat_lt i (suc n)
    same_below i n ne =
        elim (cases_lt i n) [
          | inl lt ↦ lt-ltb i n lt ∙ sym (lt-ltb i (suc n) (omega arith))
          | inr le ↦ le-ltb i n le ∙ sym (le-ltb i (suc n) (omega arith))
        ]

without_is : (t : ℕ → Bool) (n i : ℕ) → t n ≡ false → (nat_lt i n && t i) ≡ (nat_lt i (suc n) && t i)
without_is t n i unset =
    elim (cases_eq i n) [
      | inl e ↦ ap (λ b. b && t i) (le-ltb i n (omega arith)) ∙ sym (none (nat_lt i (suc n)) (t i) (ap t e ∙ unset))
      | inr ne ↦ elim (cases_lt i n) [
        | inl lt ↦ ap (λ b. b && t i) (lt-ltb i n lt ∙ sym (lt-ltb i (suc n) (omega arith)))
        | inr le ↦ ap (λ b. b && t i) (le-ltb i n le ∙ sym (le-ltb i (suc n) (omega arith)))
      ]
    ]
  where
    none : (a b : Bool) → b ≡ false → (a && b) ≡ false
    none true b e = e
    none false b e = refl

pub has_passing : (t : ℕ → Bool) (n i : ℕ) → has (passing t n) i ≡ (nat_lt i n && t i)
has_passing t zero i =
    ap (λ (s : Bits). has s i) (passing_none t)
    ∙ (set.contains-empty nat_cmp i ∙ ap (λ b. b && t i) (sym (le-ltb i 0 (omega arith))))
has_passing t (suc n) i =
    elim (cases_Bool (t n)) [
      | inl yet ↦
          ap (λ (s : Bits). has s i)
          (passing_more t n ∙ ap (λ b. cond b (set.insert (passing t n) n) (passing t n)) yet)
          ∙ (ap (λ (f : ℕ → Bool). f i) (has_with (passing t n) n)
          ∙ (ap (λ b. (i == n) || b) (has_passing t n i) ∙ with_is t n i yet))
      | inr unset ↦
          ap (λ (s : Bits). has s i)
          (passing_more t n ∙ ap (λ b. cond b (set.insert (passing t n) n) (passing t n)) unset)
          ∙ (has_passing t n i ∙ without_is t n i unset)
    ]

limit_idle : (a b : Bool) → (a && (a && b)) ≡ (a && b)
limit_idle true b = refl
limit_idle false b = refl

pub has_set_at : (words : List ℕ) (i : ℕ) → has (set_of words) i ≡ bit_of words i
unfolding set_of bit_of
has_set_at words i =
    has_passing (bit_of words) (word_count * word_bits) i
    ∙ limit_idle (nat_lt i (word_count * word_bits)) (bit_at (slice_index words (i / word_bits)) (i % word_bits) == 1)

-- the set has exactly the bits that are set
pub has_set : (words : List ℕ) → has (set_of words) ≡ bit_of words
has_set words = fun_ext (has_set_at words)

pub same_sets : (v w : List ℕ) → ((i : ℕ) → bit_of v i ≡ bit_of w i) → set_of v ≡ set_of w
same_sets v w same = same_bits (set_of v) (set_of w) (has_set v ∙ (fun_ext same ∙ sym (has_set w)))

-- a number that has a bit is below their count
pub bit_below : (words : List ℕ) (i : ℕ) → IsTrue (bit_of words i) → i < word_count * word_bits
unfolding bit_of
bit_below words i e = ltb-true i (word_count * word_bits) ((and_parts (nat_lt i (word_count * word_bits)) _ e).0)

-- ---- a number by its bits

number_none : (t : ℕ → Bool) → number_of t 0 ≡ 0
unfolding number_of
number_none t = refl

number_more : (t : ℕ → Bool) (n : ℕ) → number_of t (suc n) ≡ cond (t n) (number_of t n + 2 ^ n) (number_of t n)
unfolding number_of
number_more t n = refl

digit : Bool → ℕ
digit b = cond b 1 0

number_step : (t : ℕ → Bool) (n : ℕ)
    → ((t n ≡ true) × (number_of t (suc n) ≡ 1 * 2 ^ n + number_of t n))
    ⊎ ((t n ≡ false) × (number_of t (suc n) ≡ 0 * 2 ^ n + number_of t n))
number_step t n =
    elim (cases_Bool (t n)) [
      | inl e ↦ inl (e, number_more t n ∙ (ap (λ b. cond b (number_of t n + 2 ^ n) (number_of t n)) e ∙ omega arith))
      | inr e ↦ inr (e, number_more t n ∙ (ap (λ b. cond b (number_of t n + 2 ^ n) (number_of t n)) e ∙ omega arith))
    ]

pub number_below : (t : ℕ → Bool) (n : ℕ) → number_of t n < 2 ^ n
number_below t zero = omega (arith, number_none t)
number_below t (suc n) =
    elim (number_step t n) [
      | inl w ↦ omega (arith, w.1, number_below t n, pow-suc 2 n)
      | inr w ↦ omega (arith, w.1, number_below t n, pow-suc 2 n)
    ]

pub bit_at_number : (t : ℕ → Bool) (n i : ℕ) → i < n → bit_at (number_of t n) i ≡ cond (t i) 1 0
bit_at_number t zero i lt = absurd (omega arith)
bit_at_number t (suc n) i lt =
    elim (cases_lt i n) [
      | inl low ↦ elim (number_step t n) [
        | inl w ↦ ap (λ x. bit_at x i) w.1 ∙ (bit_at_cat_low 1 n (number_of t n) i low ∙ bit_at_number t n i low)
        | inr w ↦ ap (λ x. bit_at x i) w.1 ∙ (bit_at_cat_low 0 n (number_of t n) i low ∙ bit_at_number t n i low)
      ]
      | inr high ↦
          let e : i ≡ n = omega arith in
          let z : i - n ≡ 0 = omega arith in
          elim (number_step t n) [
            | inl w ↦
                ap (λ x. bit_at x i) w.1
                ∙ (bit_at_cat_high 1 n (number_of t n) i (number_below t n) high
                ∙ (ap (bit_at 1) z ∙ sym (ap (λ b. cond b 1 0) (ap t e ∙ w.0))))
            | inr w ↦
                ap (λ x. bit_at x i) w.1
                ∙ (bit_at_cat_high 0 n (number_of t n) i (number_below t n) high
                ∙ (ap (bit_at 0) z ∙ sym (ap (λ b. cond b 1 0) (ap t e ∙ w.0))))
          ]
    ]

-- ---- the words again

word_digit : (x : ℕ) → x < 2 → cond (x == 1) 1 0 ≡ x
word_digit zero lt = refl
word_digit (suc zero) lt = refl
word_digit (suc (suc x)) lt = absurd (omega arith)

pub place_bit : (words : List ℕ) (k i : ℕ) → k < word_count → i < word_bits
    → bit_of words (k * word_bits + i) ≡ (bit_at (slice_index words k) i == 1)
unfolding bit_of
place_bit words k i row low =
    ap (λ b. b && (bit_at (slice_index words ((k * word_bits + i) / word_bits)) ((k * word_bits + i) % word_bits) == 1))
    (lt-ltb (k * word_bits + i) (word_count * word_bits) (omega arith))
    ∙ (ap (λ j. bit_at (slice_index words j) ((k * word_bits + i) % word_bits) == 1) (div-mul-add k word_bits i low)
    ∙ ap (λ j. bit_at (slice_index words k) j == 1) (mod-mul-add k word_bits i low))

words_at : (bits : Bits)
    → words_of bits ≡ map (λ k. number_of (λ i. has bits (k * word_bits + i)) word_bits) (range_with_len 0 word_count)
unfolding words_of
words_at bits = refl

pub words_back : (words : List ℕ) → IsWhole words → words_of (set_of words) ≡ words
words_back words whole =
    let bits = set_of words in
    let f = λ (k : ℕ). number_of (λ i. has bits (k * word_bits + i)) word_bits in
    words_at bits
    ∙ ext_get_or 0 (map f (range_with_len 0 word_count)) words
    (length-map-range_with_len f 0 word_count ∙ sym whole.count)
    (λ k lt.
    let row : k < word_count = omega (arith, length-map-range_with_len f 0 word_count) in
    get_or-map-range_with_len f 0 word_count k k 0 row (omega arith)
    ∙ same_from_bits_below word_bits (f k) (slice_index words k)
    (number_below (λ i. has bits (k * word_bits + i)) word_bits) (whole.words_fit k)
    (λ i low.
    bit_at_number (λ i. has bits (k * word_bits + i)) word_bits i low
    ∙ (ap (λ b. cond b 1 0) (has_set_at words (k * word_bits + i) ∙ place_bit words k i row low)
    ∙ word_digit (bit_at (slice_index words k) i) (bit_at-lt (slice_index words k) i))))

-- words with one set are one
pub words_same : (v w : List ℕ) → IsWhole v → IsWhole w → set_of v ≡ set_of w → v ≡ w
words_same v w a b same = sym (words_back v a) ∙ (ap words_of same ∙ words_back w b)

one_answer : (p q : Bool) → (p ≡ true → q ≡ true) → (q ≡ true → p ≡ true) → p ≡ q
one_answer true q f g = sym (f refl)
one_answer false true f g = g refl
one_answer false false f g = refl

pub words_test : (v w : List ℕ) (a b : Bits) → set_of v ≡ a → set_of w ≡ b → IsWhole v → IsWhole w
    → pointwise nat_eq v w ≡ is_same a b
words_test v w a b va wb whole_v whole_w =
    let decides = bytes_decides v w in
    one_answer (pointwise nat_eq v w) (is_same a b)
    (λ e. test_from_same a b (sym va ∙ (ap set_of (decides.0 e) ∙ wb)))
    (λ e. decides.1 (words_same v w whole_v whole_w (va ∙ (same_from_test a b e ∙ sym wb))))

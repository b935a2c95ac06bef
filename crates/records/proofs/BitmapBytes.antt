-- Bitmaps byte by byte, as they are read and written.
use Rattle.std.proofs.Common.{◌≡◌, ◌∙◌, sym, ap, subst, refl, ℕ, zero, suc, ◌+◌, ◌-◌, ◌*◌, ◌/◌, ◌%◌, ◌^◌, ◌<◌, ◌≤◌, ◌==◌, ◌&&◌, ◌||◌, not, nat_lt, Bool, true, false, cond, List, [], ◌∷◌, ◌++◌, append_assoc, length, get_or, take, drop, map, set, slice_index, add-one, bit_and, arith, Result, Ok, Err, inl, inr}
use Rattle.std.specs.Int.{bit_at, w64, from_le_bytes}
use Rattle.std.specs.List.{range_with_len}
use Rattle.std.proofs.Math.Nat.{pow-le-pow_right}
use Rattle.std.proofs.Math.Path.{fun_ext}
use Rattle.std.proofs.Math.Seq.{drop-cons, take-suc}
use Rattle.std.proofs.lemmas.Bool.{cases_lt}
use Rattle.std.proofs.lemmas.Bool.Decides.{nat_tests}
use Rattle.std.proofs.lemmas.List.{length-take, length-drop, length-set, get_or-take, take-take, drop_all, take_all, get_or-set_same, get_or-set_other}
use Rattle.std.proofs.lemmas.List.FromFn.{map-range_with_len_more}
use Rattle.std.proofs.lemmas.Nat.Bits.{bit_at-zero, bit_at_cat_low, bit_at_cat_high, shr_and_one}
use Rattle.bitmap.specs.Bits.{Bits}
use Rattle.bitmap.specs.BitSetLaws.{same_bits}
use Rattle.bitmap.specs.WordLaws.{has_set_at, has_passing, number_below}
use Rattle.bitmap.specs.Words.{bit_of, passing, set_of, number_of}
use Rattle.records.specs.declared.fault.Fault.{Fault}
use Rattle.records.specs.declared.fault.Fault.TheVariants.{Short, Bad}
use Rattle.records.specs.Faults.{◌>>=◌}
use Rattle.records.specs.Reading.{byte_where, list_after}
use Rattle.records.specs.Installs.{bitmap_byte}
use Rattle.records.specs.ReadingInstalls.{bit_in, has_under, has_required, may_stand, is_grown, may_grow}
use Rattle.records.proofs.Decoding.{IsBytes}
use Rattle.records.proofs.Bitmaps.{AreBytes}

-- ---- one bit

pub bit_inside : (xs : List ℕ) (i : ℕ) → (bit_and (get_or xs (i / 8) 0 / 2 ^ (i % 8)) 1 == 1) ≡ bit_in xs i
bit_inside xs i = ap (λ (n : ℕ). n == 1) (shr_and_one (get_or xs (i / 8) 0) (i % 8))

-- ---- what a number requires

pub required_fails : (set : ℕ → Bool) (n d j : ℕ) → j < d → has_under set n j ≡ false → has_required set n d ≡ false
unfolding has_required
required_fails set n zero j lt off = absurd (omega arith)
required_fails set n (suc d) j lt off = elim (cases_lt j d) [
  | inl less ↦ ap (λ (b : Bool). b && has_under set n d) (required_fails set n d j less off)
  | inr ge ↦ let same : j ≡ d = omega arith in last (has_required set n d) (has_under set n d) (subst (λ (k : ℕ). has_under set n k ≡ false) same off)
]
  where
    last : (a b : Bool) → b ≡ false → (a && b) ≡ false
    last true b e = e
    last false b e = refl

pub required_more : (set : ℕ → Bool) (n d : ℕ) → has_required set n d ≡ true → has_under set n d ≡ true → has_required set n (d + 1) ≡ true
unfolding has_required
required_more set n d so_far on = ap (has_required set n) (add-one d) ∙ (ap (λ (b : Bool). b && has_under set n d) so_far ∙ on)

pub required_none : (set : ℕ → Bool) (n : ℕ) → has_required set n 0 ≡ true
unfolding has_required
required_none set n = refl

pub grown_fails : (set : ℕ → Bool) (first count i : ℕ) → i < count → may_stand set (first + i) ≡ false → is_grown set first count ≡ false
unfolding is_grown
grown_fails set first zero i lt off = absurd (omega arith)
grown_fails set first (suc count) i lt off = elim (cases_lt i count) [
  | inl less ↦ ap (λ (b : Bool). b && may_stand set (first + count)) (grown_fails set first count i less off)
  | inr ge ↦ let same : i ≡ count = omega arith in last (is_grown set first count) (may_stand set (first + count)) (subst (λ (k : ℕ). may_stand set (first + k) ≡ false) same off)
]
  where
    last : (a b : Bool) → b ≡ false → (a && b) ≡ false
    last true b e = e
    last false b e = refl

pub grown_more : (set : ℕ → Bool) (first count : ℕ) → is_grown set first count ≡ true → may_stand set (first + count) ≡ true → is_grown set first (count + 1) ≡ true
unfolding is_grown
grown_more set first count so_far on = ap (is_grown set first) (add-one count) ∙ (ap (λ (b : Bool). b && may_stand set (first + count)) so_far ∙ on)

pub grown_none : (set : ℕ → Bool) (first : ℕ) → is_grown set first 0 ≡ true
unfolding is_grown
grown_none set first = refl

-- whether the last of some bytes may follow the others
pub grow_is : (bytes : List ℕ) (place : ℕ) → length bytes ≡ place + 1 → may_grow (take place bytes) (get_or bytes place 0) ≡ ((not (place == 0) || (get_or bytes place 0 % 2 == 1)) && is_grown (bit_in bytes) (place * 8) 8)
grow_is bytes place long =
    let count : length (take place bytes) ≡ place = omega (arith, length-take place bytes) in
    let whole : take place bytes ++ get_or bytes place 0 ∷ [] ≡ bytes = sym (take-suc bytes place 0 (omega arith)) ∙ take_all (suc place) bytes (omega arith) in
    ap (λ (n : ℕ). (not (n == 0) || (get_or bytes place 0 % 2 == 1)) && is_grown (bit_in (take place bytes ++ get_or bytes place 0 ∷ [])) (n * 8) 8) count
    ∙ ap (λ (l : List ℕ). (not (place == 0) || (get_or bytes place 0 % 2 == 1)) && is_grown (bit_in l) (place * 8) 8) whole

-- the same of the front of more bytes
pub front_grows : (bytes : List ℕ) (place : ℕ) → may_grow (take place (take (place + 1) bytes)) (get_or (take (place + 1) bytes) place 0) ≡ may_grow (take place bytes) (get_or bytes place 0)
front_grows bytes place =
    ap (λ (l : List ℕ). may_grow l (get_or (take (place + 1) bytes) place 0)) (take-take place (place + 1) bytes (omega arith))
    ∙ ap (may_grow (take place bytes)) (get_or-take (place + 1) bytes place 0 (omega arith))

-- ---- one byte after another

abbrev pub grown_byte : List ℕ → ℕ → List ℕ → Result (ℕ × List ℕ) Fault
grown_byte so_far left = byte_where (may_grow so_far)

-- what reading one byte of a bitmap gives
abbrev grown_or : Bool → ℕ → List ℕ → Result (ℕ × List ℕ) Fault
grown_or t b rest = cond t (Ok (b, rest)) (Err (Bad (suc (length rest))))

one_step : (so_far : List ℕ) (left b : ℕ) (rest : List ℕ) → may_grow so_far b ≡ true → list_after grown_byte so_far (suc left) (b ∷ rest) ≡ list_after grown_byte (so_far ++ b ∷ []) left rest
unfolding list_after byte_where
one_step so_far left b rest on = ap (λ (t : Bool). grown_or t b rest >>= λ x. list_after grown_byte (so_far ++ x.0 ∷ []) left x.1) on

no_step : (so_far : List ℕ) (left b : ℕ) (rest : List ℕ) → may_grow so_far b ≡ false → list_after grown_byte so_far (suc left) (b ∷ rest) ≡ Err (Bad (suc (length rest)))
unfolding list_after byte_where
no_step so_far left b rest off = ap (λ (t : Bool). grown_or t b rest >>= λ x. list_after grown_byte (so_far ++ x.0 ∷ []) left x.1) off

cut_short : (so_far : List ℕ) (left : ℕ) → list_after grown_byte so_far (suc left) [] ≡ Err Short
unfolding list_after byte_where
cut_short so_far left = refl

steps_done : (so_far rest : List ℕ) → list_after grown_byte so_far 0 rest ≡ Ok (so_far, rest)
unfolding list_after
steps_done so_far rest = refl

-- so many bytes of a bitmap were read
pub record BytesRead (bytes : List ℕ) (place : ℕ) : Type 0 where
  pub within : place ≤ length bytes
  pub reads : list_after grown_byte (take place bytes) (128 - place) (drop place bytes) ≡ list_after grown_byte [] 128 bytes

pub bytes_begin : (bytes : List ℕ) → BytesRead bytes 0
bytes_begin bytes = record { within = omega arith; reads = refl }

here : (bytes : List ℕ) (place : ℕ) → place < 128 → place < length bytes → BytesRead bytes place → list_after grown_byte (take place bytes) (suc (128 - (place + 1))) (get_or bytes place 0 ∷ drop (suc place) bytes) ≡ list_after grown_byte [] 128 bytes
here bytes place lt inside r =
    let left : suc (128 - (place + 1)) ≡ 128 - place = omega arith in
    ap (λ (n : ℕ). list_after grown_byte (take place bytes) n (get_or bytes place 0 ∷ drop (suc place) bytes)) left
    ∙ ap (λ (l : List ℕ). list_after grown_byte (take place bytes) (128 - place) l) (sym (drop-cons bytes place 0 inside)) ∙ r.reads

pub bytes_more : (bytes : List ℕ) (place : ℕ) → place < 128 → place < length bytes → may_grow (take place bytes) (get_or bytes place 0) ≡ true → BytesRead bytes place → BytesRead bytes (place + 1)
bytes_more bytes place lt inside on r = record {
  within = omega arith;
  reads = ap (λ (n : ℕ). list_after grown_byte (take n bytes) (128 - (place + 1)) (drop n bytes)) (add-one place)
      ∙ ap (λ (l : List ℕ). list_after grown_byte l (128 - (place + 1)) (drop (suc place) bytes)) (take-suc bytes place 0 inside)
      ∙ sym (one_step (take place bytes) (128 - (place + 1)) (get_or bytes place 0) (drop (suc place) bytes) on)
      ∙ here bytes place lt inside r;
}

pub bytes_bad : (bytes : List ℕ) (place : ℕ) → place < 128 → place < length bytes → may_grow (take place bytes) (get_or bytes place 0) ≡ false → BytesRead bytes place → list_after grown_byte [] 128 bytes ≡ Err (Bad (length bytes - place))
bytes_bad bytes place lt inside off r =
    let count : suc (length (drop (suc place) bytes)) ≡ length bytes - place = omega (arith, length-drop (suc place) bytes) in
    sym (here bytes place lt inside r) ∙ no_step (take place bytes) (128 - (place + 1)) (get_or bytes place 0) (drop (suc place) bytes) off ∙ ap (λ (n : ℕ). Err (Bad n)) count

pub bytes_short : (bytes : List ℕ) (place : ℕ) → place < 128 → length bytes ≤ place → BytesRead bytes place → list_after grown_byte [] 128 bytes ≡ Err Short
bytes_short bytes place lt past r =
    let left : 128 - place ≡ suc (127 - place) = omega arith in
    sym r.reads ∙ ap (λ (n : ℕ). list_after grown_byte (take place bytes) n (drop place bytes)) left
    ∙ ap (λ (l : List ℕ). list_after grown_byte (take place bytes) (suc (127 - place)) l) (drop_all place bytes past) ∙ cut_short (take place bytes) (127 - place)

pub bytes_end : (bytes : List ℕ) (place : ℕ) → place ≡ 128 → BytesRead bytes place → list_after grown_byte [] 128 bytes ≡ Ok (take 128 bytes, drop 128 bytes)
bytes_end bytes place is r =
    sym r.reads ∙ ap (λ (n : ℕ). list_after grown_byte (take n bytes) (128 - n) (drop n bytes)) is ∙ steps_done (take 128 bytes) (drop 128 bytes)

-- ---- the bytes of a word

-- the number that bytes are, the lowest first
little : List ℕ → ℕ
little [] = 0
little (b ∷ bytes) = little bytes * 2 ^ 8 + b

little_bit : (bytes : List ℕ) (i : ℕ) → AreBytes bytes → bit_at (little bytes) i ≡ bit_at (get_or bytes (i / 8) 0) (i % 8)
unfolding little
little_bit [] i are = bit_at-zero i ∙ sym (bit_at-zero (i % 8))
little_bit (b ∷ bytes) i are = elim (cases_lt i 8) [
  | inl low ↦
      let byte : i / 8 ≡ 0 = omega arith in
      let bit : i % 8 ≡ i = omega arith in
      bit_at_cat_low (little bytes) 8 b i low ∙ sym (ap (λ (k : ℕ). bit_at (get_or (b ∷ bytes) k 0) (i % 8)) byte ∙ ap (bit_at b) bit)
  | inr high ↦
      let byte : i / 8 ≡ suc ((i - 8) / 8) = omega arith in
      let bit : (i - 8) % 8 ≡ i % 8 = omega arith in
      bit_at_cat_high (little bytes) 8 b i are.0 high ∙ little_bit bytes (i - 8) are.1
      ∙ ap (bit_at (get_or bytes ((i - 8) / 8) 0)) bit ∙ sym (ap (λ (k : ℕ). bit_at (get_or (b ∷ bytes) k 0) (i % 8)) byte)
]

-- eight bytes from a place on
abbrev pub eight_from : List ℕ → ℕ → List ℕ
eight_from xs at = get_or xs at 0 ∷ get_or xs (at + 1) 0 ∷ get_or xs (at + 2) 0 ∷ get_or xs (at + 3) 0 ∷ get_or xs (at + 4) 0 ∷ get_or xs (at + 5) 0 ∷ get_or xs (at + 6) 0 ∷ get_or xs (at + 7) 0 ∷ []

eighth : (xs : List ℕ) (at k : ℕ) → k < 8 → get_or (eight_from xs at) k 0 ≡ get_or xs (at + k) 0
eighth xs at zero lt = let same : at ≡ at + 0 = omega arith in ap (λ (n : ℕ). get_or xs n 0) same
eighth xs at (suc zero) lt = refl
eighth xs at (suc (suc zero)) lt = refl
eighth xs at (suc (suc (suc zero))) lt = refl
eighth xs at (suc (suc (suc (suc zero)))) lt = refl
eighth xs at (suc (suc (suc (suc (suc zero))))) lt = refl
eighth xs at (suc (suc (suc (suc (suc (suc zero)))))) lt = refl
eighth xs at (suc (suc (suc (suc (suc (suc (suc zero))))))) lt = refl
eighth xs at (suc (suc (suc (suc (suc (suc (suc (suc k)))))))) lt = absurd (omega arith)

le_is_little : (a b c d e f g h : ℕ) → from_le_bytes w64 (a ∷ b ∷ c ∷ d ∷ e ∷ f ∷ g ∷ h ∷ []) ≡ little (a ∷ b ∷ c ∷ d ∷ e ∷ f ∷ g ∷ h ∷ [])
unfolding little
le_is_little a b c d e f g h = omega arith

pub word_bit : (xs : List ℕ) (row i : ℕ) → IsBytes xs → i < 64 → (bit_at (from_le_bytes w64 (eight_from xs (row * 8))) i == 1) ≡ bit_in xs (row * 64 + i)
word_bit xs row i fits lt =
    let at : ℕ = row * 8 in
    let list : List ℕ = eight_from xs at in
    let are : AreBytes list = (fits at, (fits (at + 1), (fits (at + 2), (fits (at + 3), (fits (at + 4), (fits (at + 5), (fits (at + 6), (fits (at + 7), tt)))))))) in
    let byte : at + i / 8 ≡ (row * 64 + i) / 8 = omega arith in
    let bit : i % 8 ≡ (row * 64 + i) % 8 = omega arith in
    let whole = le_is_little (get_or xs at 0) (get_or xs (at + 1) 0) (get_or xs (at + 2) 0) (get_or xs (at + 3) 0) (get_or xs (at + 4) 0) (get_or xs (at + 5) 0) (get_or xs (at + 6) 0) (get_or xs (at + 7) 0) in
    ap (λ (n : ℕ). bit_at n i == 1) whole
    ∙ ap (λ (n : ℕ). n == 1) (little_bit list i are ∙ ap (λ (n : ℕ). bit_at n (i % 8)) (eighth xs at (i / 8) (omega arith)) ∙ ap (λ (n : ℕ). bit_at (get_or xs n 0) (i % 8)) byte ∙ ap (bit_at (get_or xs ((row * 64 + i) / 8) 0)) bit)

-- ---- words that have the bits of bytes

-- the first words have them
pub record WordsRead (words bytes : List ℕ) (row : ℕ) : Type 0 where
  pub whole : length words ≡ 16
  pub bits : (k i : ℕ) → k < row → i < 64 → (bit_at (get_or words k 0) i == 1) ≡ bit_in bytes (k * 64 + i)

pub words_begin : (words bytes : List ℕ) → length words ≡ 16 → WordsRead words bytes 0
words_begin words bytes whole = record { whole = whole; bits = λ k i lt low. absurd (omega arith) }

pub words_more : (words bytes : List ℕ) (row word : ℕ) → row < 16 → ((i : ℕ) → i < 64 → (bit_at word i == 1) ≡ bit_in bytes (row * 64 + i)) → WordsRead words bytes row → WordsRead (set words row word) bytes (row + 1)
words_more words bytes row word below own r = record {
  whole = length-set words row word ∙ r.whole;
  bits = λ k i lt low. elim (cases_lt k row) [
    | inl less ↦ ap (λ (w : ℕ). bit_at w i == 1) (get_or-set_other words row k word 0 (omega arith)) ∙ r.bits k i less low
    | inr ge ↦
        let same : k ≡ row = omega arith in
        subst (λ (n : ℕ). (bit_at (get_or (set words row word) n 0) i == 1) ≡ bit_in bytes (n * 64 + i)) (sym same) (ap (λ (w : ℕ). bit_at w i == 1) (get_or-set_same words row word 0 (omega (arith, below, r.whole))) ∙ own i low)
  ];
}

pub words_end : (words bytes : List ℕ) (row : ℕ) → 16 ≤ row → WordsRead words bytes row → set_of words ≡ passing (bit_in bytes) 1024
unfolding bit_of
words_end words bytes row le r = same_bits (set_of words) (passing (bit_in bytes) 1024) (fun_ext (λ i. has_set_at words i ∙ (one i ∙ sym (has_passing (bit_in bytes) 1024 i))))
  where
    one : (i : ℕ) → (nat_lt i 1024 && (bit_at (slice_index words (i / 64)) (i % 64) == 1)) ≡ (nat_lt i 1024 && bit_in bytes i)
    one i = elim (cases_lt i 1024) [
      | inl lt ↦
          let at : i / 64 * 64 + i % 64 ≡ i = omega arith in
          ap (λ (b : Bool). nat_lt i 1024 && b) (r.bits (i / 64) (i % 64) (omega arith) (omega arith) ∙ ap (bit_in bytes) at)
      | inr past ↦ let off : nat_lt i 1024 ≡ false = grind (arith, nat_tests) in ap (λ (b : Bool). b && (bit_at (slice_index words (i / 64)) (i % 64) == 1)) off ∙ sym (ap (λ (b : Bool). b && bit_in bytes i) off)
    ]

-- ---- a byte of a bitmap, as it is written

pub worth_more : (t : ℕ → Bool) (n : ℕ) → number_of t (n + 1) ≡ number_of t n + cond (t n) (2 ^ n) 0
unfolding number_of
worth_more t n = ap (number_of t) (add-one n) ∙ step (t n)
  where
    step : (b : Bool) → cond b (number_of t n + 2 ^ n) (number_of t n) ≡ number_of t n + cond b (2 ^ n) 0
    step true = refl
    step false = omega arith

pub worth_none : (t : ℕ → Bool) → number_of t 0 ≡ 0
unfolding number_of
worth_none t = refl

pub small_power : (n : ℕ) → n ≤ 8 → 2 ^ n ≤ 256
small_power n le = let grows : 2 ^ n ≤ 2 ^ 8 = pow-le-pow_right (omega arith) le in grows

pub one_byte_more : (bits : Bits) (old : List ℕ) (place : ℕ) → (old ++ map (bitmap_byte bits) (range_with_len 0 place)) ++ bitmap_byte bits place ∷ [] ≡ old ++ map (bitmap_byte bits) (range_with_len 0 (place + 1))
one_byte_more bits old place = append_assoc old (map (bitmap_byte bits) (range_with_len 0 place)) (bitmap_byte bits place ∷ []) ∙ ap (λ (l : List ℕ). old ++ l) (sym (map-range_with_len_more (bitmap_byte bits) 0 place place (omega arith)))

pub worth_small : (b : Bool) (n : ℕ) → n ≤ 8 → cond b (2 ^ n) 0 ≤ 256
worth_small true n le = small_power n le
worth_small false n le = omega arith

pub number_small : (t : ℕ → Bool) (n : ℕ) → n ≤ 8 → number_of t n < 256
number_small t n le = let below = number_below t n in let small = small_power n le in omega arith

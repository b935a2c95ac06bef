-- The reader of bitmaps reads them exactly: a byte is bad where one of its numbers lacks what it requires.
use Rattle.std.proofs.Common.{◌≡◌, ◌∙◌, sym, ap, subst, refl, ℕ, zero, suc, ◌+◌, ◌-◌, ◌*◌, ◌/◌, ◌%◌, ◌^◌, ◌<◌, ◌≤◌, ◌==◌, ◌&&◌, ◌||◌, not, nat_le, nat_lt, Bool, true, false, cond, List, [], ◌∷◌, ◌++◌, append_assoc, length, get_or, map, lit<, arith, Ok, inl, inr}
use Rattle.std.specs.Int.{bit_at}
use Rattle.std.specs.List.{range_with_len}
use Rattle.std.proofs.Math.Nat.{pow-suc, pow-le-pow_right}
use Rattle.std.proofs.Math.Path.{fun_ext}
use Rattle.std.proofs.Math.Seq.{get_or-append_seam}
use Rattle.std.proofs.lemmas.Bool.{cases_Bool, cases_lt, and_parts, and_from}
use Rattle.std.proofs.lemmas.Bool.Decides.{nat_tests}
use Rattle.std.proofs.lemmas.List.{append-nil, length-append, get_or_append_left, ext_get_or}
use Rattle.std.proofs.lemmas.List.FromFn.{get_or-map-range_with_len, length-map-range_with_len}
use Rattle.std.proofs.lemmas.Nat.Bits.{bit_at-zero, bit_at-lt, bit_at_lowest, same_from_bits_below}
use Rattle.chains.specs.WellFormed.{IsWellFormed}
use Rattle.bitmap.specs.Bits.{Bits, has}
use Rattle.bitmap.specs.BitSetLaws.{same_bits}
use Rattle.bitmap.specs.WordLaws.{has_passing, number_below, bit_at_number}
use Rattle.bitmap.specs.Words.{passing, number_of}
use Rattle.records.specs.Reading.{byte_where, list_after}
use Rattle.records.specs.Installs.{bitmap_spelling}
use Rattle.records.specs.ReadingInstalls.{bit_in, has_required, is_grown, may_grow, bitmap_at}
use Rattle.records.proofs.Decoding.{IsBytes, Ends, follows_here}
use Rattle.records.proofs.ToCome.{Then, Goes, goes_plainly, go_in_turn, same_goes, Listed, list_goes}
use Rattle.records.proofs.Fields.{OneByte, byte_reads}

-- ---- the tests

le_on : (a b : ℕ) → a ≤ b → nat_le a b ≡ true
le_on a b le = grind (arith, nat_tests)

lt_on : (a b : ℕ) → a < b → nat_lt a b ≡ true
lt_on a b lt = grind (arith, nat_tests)

le_of : (a b : ℕ) → nat_le a b ≡ true → a ≤ b
le_of a b on = grind (arith, nat_tests)

lt_of : (a b : ℕ) → nat_lt a b ≡ true → a < b
lt_of a b on = grind (arith, nat_tests)

given : (a b c : Bool) → (not (a && b) || c) ≡ true → a ≡ true → b ≡ true → c ≡ true
given true true c e p q = e
given true false c e p q = absurd cc
given false b c e p q = absurd cc

giving : (a b c : Bool) → (a ≡ true → b ≡ true → c ≡ true) → (not (a && b) || c) ≡ true
giving true true c f = f refl refl
giving true false c f = refl
giving false b c f = refl

or_given : (a b : Bool) → (not a || b) ≡ true → a ≡ true → b ≡ true
or_given true b e p = e
or_given false b e p = absurd cc

or_giving : (a b : Bool) → (a ≡ true → b ≡ true) → (not a || b) ≡ true
or_giving true b f = f refl
or_giving false b f = refl

-- a number requires the one that is 2 ^ j below it
abbrev Requires : ℕ → ℕ → Type 0
Requires n j = (2 ^ j ≤ n) × (n < 2 ^ j + 2 ^ suc j)

required_is : (set : ℕ → Bool) (n d j : ℕ) → has_required set n d ≡ true → j < d → Requires n j → set (n - 2 ^ j) ≡ true
unfolding has_required
required_is set n zero j on lt r = absurd (omega arith)
required_is set n (suc d) j on lt r =
    let both = and_parts (has_required set n d) (not (nat_le (2 ^ d) n && nat_lt n (2 ^ d + 2 ^ suc d)) || set (n - 2 ^ d)) on in
    elim (cases_lt j d) [
      | inl less ↦ required_is set n d j both.0 less r
      | inr ge ↦
          let same : d ≡ j = omega arith in
          let last : (not (nat_le (2 ^ j) n && nat_lt n (2 ^ j + 2 ^ suc j)) || set (n - 2 ^ j)) ≡ true = subst (λ (k : ℕ). (not (nat_le (2 ^ k) n && nat_lt n (2 ^ k + 2 ^ suc k)) || set (n - 2 ^ k)) ≡ true) same both.1 in
          given (nat_le (2 ^ j) n) (nat_lt n (2 ^ j + 2 ^ suc j)) (set (n - 2 ^ j)) last (le_on (2 ^ j) n r.0) (lt_on n (2 ^ j + 2 ^ suc j) r.1)
    ]

required_of : (set : ℕ → Bool) (n d : ℕ) → ((j : ℕ) → j < d → Requires n j → set (n - 2 ^ j) ≡ true) → has_required set n d ≡ true
unfolding has_required
required_of set n zero all = refl
required_of set n (suc d) all = and_from (has_required set n d) (not (nat_le (2 ^ d) n && nat_lt n (2 ^ d + 2 ^ suc d)) || set (n - 2 ^ d)) (required_of set n d (λ j lt r. all j (omega arith) r))
    (giving (nat_le (2 ^ d) n) (nat_lt n (2 ^ d + 2 ^ suc d)) (set (n - 2 ^ d)) (λ low high. all d (omega arith) (le_of (2 ^ d) n low, lt_of n (2 ^ d + 2 ^ suc d) high)))

grown_is : (set : ℕ → Bool) (first count i : ℕ) → is_grown set first count ≡ true → i < count → set (first + i) ≡ true → has_required set (first + i) 10 ≡ true
unfolding is_grown
grown_is set first zero i on lt yet = absurd (omega arith)
grown_is set first (suc count) i on lt yet =
    let both = and_parts (is_grown set first count) (not (set (first + count)) || has_required set (first + count) 10) on in
    elim (cases_lt i count) [
      | inl less ↦ grown_is set first count i both.0 less yet
      | inr ge ↦
          let same : count ≡ i = omega arith in
          let last : (not (set (first + i)) || has_required set (first + i) 10) ≡ true = subst (λ (k : ℕ). (not (set (first + k)) || has_required set (first + k) 10) ≡ true) same both.1 in
          or_given (set (first + i)) (has_required set (first + i) 10) last yet
    ]

grown_of : (set : ℕ → Bool) (first count : ℕ) → ((i : ℕ) → i < count → set (first + i) ≡ true → has_required set (first + i) 10 ≡ true) → is_grown set first count ≡ true
unfolding is_grown
grown_of set first zero all = refl
grown_of set first (suc count) all = and_from (is_grown set first count) (not (set (first + count)) || has_required set (first + count) 10) (grown_of set first count (λ i lt. all i (omega arith)))
    (or_giving (set (first + count)) (has_required set (first + count) 10) (all count (omega arith)))

-- ---- the bits of some bytes

bit_left : (xs ys : List ℕ) (i : ℕ) → i < length xs * 8 → bit_in (xs ++ ys) i ≡ bit_in xs i
bit_left xs ys i lt = ap (λ (b : ℕ). bit_at b (i % 8) == 1) (get_or_append_left xs ys 0 (i / 8) (omega arith))

past_end : (xs : List ℕ) (i : ℕ) → length xs ≤ i → get_or xs i 0 ≡ 0
past_end [] i le = refl
past_end (x ∷ xs) zero le = absurd (omega arith)
past_end (x ∷ xs) (suc i) le = past_end xs i (omega arith)

pub bit_past : (xs : List ℕ) (i : ℕ) → length xs * 8 ≤ i → bit_in xs i ≡ false
bit_past xs i le = ap (λ (b : ℕ). bit_at b (i % 8) == 1) (past_end xs (i / 8) (omega arith)) ∙ ap (λ (b : ℕ). b == 1) (bit_at-zero (i % 8))

bit_within : (xs : List ℕ) (i : ℕ) → bit_in xs i ≡ true → i < length xs * 8
bit_within xs i on = elim (cases_lt i (length xs * 8)) [
  | inl lt ↦ lt
  | inr le ↦ absurd (let both : true ≡ false = sym on ∙ bit_past xs i le in cc)
]

-- what each number of a set requires is in it
pub record Closed (xs : List ℕ) : Type 0 where
  pub holds : (n j : ℕ) → bit_in xs n ≡ true → Requires n j → bit_in xs (n - 2 ^ j) ≡ true

pow_pos : (j : ℕ) → 0 < 2 ^ j
pow_pos zero = omega arith
pow_pos (suc j) = let rest = pow_pos j in omega (arith, pow-suc 2 j)

-- of a number below 1024 the powers that are no greater
few_digits : (n j : ℕ) → n < 1024 → 2 ^ j ≤ n → j < 10
few_digits n j lt le = elim (cases_lt j 10) [
  | inl less ↦ less
  | inr ge ↦ let grows : 2 ^ 10 ≤ 2 ^ j = pow-le-pow_right (omega arith) ge in absurd (omega arith)
]

closed_more : (xs : List ℕ) (b : ℕ) → length xs < 128 → Closed xs → is_grown (bit_in (xs ++ b ∷ [])) (length xs * 8) 8 ≡ true → Closed (xs ++ b ∷ [])
closed_more xs b few closed grown = record {
  holds = λ n j on r. elim (cases_lt n (length xs * 8)) [
    | inl old ↦
        let pos = pow_pos j in
        let low = r.0 in
        bit_left xs (b ∷ []) (n - 2 ^ j) (omega arith) ∙ closed.holds n j (sym (bit_left xs (b ∷ []) n old) ∙ on) r
    | inr new ↦
        let within = bit_within (xs ++ b ∷ []) n on in
        let long = length-append xs (b ∷ []) in
        let at : length xs * 8 + (n - length xs * 8) ≡ n = omega arith in
        let yet : bit_in (xs ++ b ∷ []) (length xs * 8 + (n - length xs * 8)) ≡ true = ap (bit_in (xs ++ b ∷ [])) at ∙ on in
        let has_all = grown_is (bit_in (xs ++ b ∷ [])) (length xs * 8) 8 (n - length xs * 8) grown (omega (arith, long)) yet in
        let here : has_required (bit_in (xs ++ b ∷ [])) n 10 ≡ true = subst (λ (k : ℕ). has_required (bit_in (xs ++ b ∷ [])) k 10 ≡ true) at has_all in
        required_is (bit_in (xs ++ b ∷ [])) n 10 j here (few_digits n j (omega (arith, long)) r.0) r
  ];
}

-- ---- bytes that fit one after another

abbrev Fit : List ℕ → List ℕ → Type 0
Fit so_far [] = Unit {0}
Fit so_far (b ∷ bs) = ((b < 256) × (may_grow so_far b ≡ true)) × Fit (so_far ++ b ∷ []) bs

closed_all : (so_far bs : List ℕ) → length so_far + length bs ≤ 128 → Closed so_far → Fit so_far bs → Closed (so_far ++ bs)
closed_all so_far [] few closed fit = subst Closed (sym (append-nil so_far)) closed
closed_all so_far (b ∷ bs) few closed fit =
    let grown = (and_parts (not (length so_far == 0) || (b % 2 == 1)) (is_grown (bit_in (so_far ++ b ∷ [])) (length so_far * 8) 8) fit.0.1).1 in
    let long = length-append so_far (b ∷ []) in
    subst Closed (append_assoc so_far (b ∷ []) bs) (closed_all (so_far ++ b ∷ []) bs (omega (arith, long)) (closed_more so_far b (omega arith) closed grown) fit.1)

none_closed : Closed []
none_closed = record { holds = λ n j on r. absurd (let both : true ≡ false = sym on ∙ bit_past [] n (omega arith) in cc) }

-- a byte of a whole that is closed fits behind those before it
fits_next : (xs : List ℕ) (b : ℕ) (rest : List ℕ) → Closed (xs ++ b ∷ rest) → bit_in (xs ++ b ∷ rest) 0 ≡ true → may_grow xs b ≡ true
fits_next xs b rest closed root =
    let parts : (xs ++ b ∷ []) ++ rest ≡ xs ++ b ∷ rest = append_assoc xs (b ∷ []) rest in
    let long = length-append xs (b ∷ []) in
    let same : (i : ℕ) → i < length xs * 8 + 8 → bit_in (xs ++ b ∷ rest) i ≡ bit_in (xs ++ b ∷ []) i = λ i lt. sym (ap (λ (l : List ℕ). bit_in l i) parts) ∙ bit_left (xs ++ b ∷ []) rest i (omega (arith, long)) in
    and_from (not (length xs == 0) || (b % 2 == 1)) (is_grown (bit_in (xs ++ b ∷ [])) (length xs * 8) 8) (first xs root)
    (grown_of (bit_in (xs ++ b ∷ [])) (length xs * 8) 8 (λ i lt on. required_of (bit_in (xs ++ b ∷ [])) (length xs * 8 + i) 10 (λ j few r.
    let n : ℕ = length xs * 8 + i in
    let pos = pow_pos j in
    let low = r.0 in
    sym (same (n - 2 ^ j) (omega arith)) ∙ closed.holds n j (same n (omega arith) ∙ on) r)))
  where
    first : (xs : List ℕ) → bit_in (xs ++ b ∷ rest) 0 ≡ true → (not (length xs == 0) || (b % 2 == 1)) ≡ true
    first [] root = ap (λ (n : ℕ). n == 1) (sym (bit_at_lowest b)) ∙ root
    first (x ∷ xs) root = let some : (suc (length xs) == 0) ≡ false = grind (arith, nat_tests) in ap (λ (t : Bool). not t || (b % 2 == 1)) some

abbrev pub AreBytes : List ℕ → Type 0
AreBytes [] = Unit {0}
AreBytes (b ∷ bs) = (b < 256) × AreBytes bs

fit_all : (so_far bs : List ℕ) → Closed (so_far ++ bs) → bit_in (so_far ++ bs) 0 ≡ true → AreBytes bs → Fit so_far bs
fit_all so_far [] closed root bytes = tt
fit_all so_far (b ∷ bs) closed root bytes =
    let parts : so_far ++ b ∷ bs ≡ (so_far ++ b ∷ []) ++ bs = sym (append_assoc so_far (b ∷ []) bs) in
    ((bytes.0, fits_next so_far b bs closed root), fit_all (so_far ++ b ∷ []) bs (subst Closed parts closed) (subst (λ (l : List ℕ). bit_in l 0 ≡ true) parts root) bytes.1)

-- ---- the bytes are read exactly

abbrev Bytes : List ℕ → ℕ → ℕ → List ℕ → List ℕ → Type 0
Bytes = Listed (λ so_far left missing. OneByte (may_grow so_far))

-- some byte fits behind those that were read
abbrev Good : List ℕ → ℕ → Type 0
Good so_far left = (b : ℕ) × (b < 256) × (may_grow so_far b ≡ true)

zero_fits : (xs : List ℕ) → 0 < length xs → may_grow xs 0 ≡ true
zero_fits xs some =
    let not_first : (length xs == 0) ≡ false = grind (arith, nat_tests) in
    and_from (not (length xs == 0) || (0 % 2 == 1)) (is_grown (bit_in (xs ++ 0 ∷ [])) (length xs * 8) 8) (ap (λ (t : Bool). not t || (0 % 2 == 1)) not_first)
    (grown_of (bit_in (xs ++ 0 ∷ [])) (length xs * 8) 8 (λ i lt on.
    let byte : (length xs * 8 + i) / 8 ≡ length xs = omega arith in
    let none : get_or (xs ++ 0 ∷ []) ((length xs * 8 + i) / 8) 0 ≡ 0 = ap (λ (k : ℕ). get_or (xs ++ 0 ∷ []) k 0) byte ∙ get_or-append_seam xs 0 [] 0 in
    let off : bit_in (xs ++ 0 ∷ []) (length xs * 8 + i) ≡ false = ap (λ (b : ℕ). bit_at b ((length xs * 8 + i) % 8) == 1) none ∙ ap (λ (b : ℕ). b == 1) (bit_at-zero ((length xs * 8 + i) % 8)) in
    absurd (let both : true ≡ false = sym on ∙ off in cc)))

one_fits : may_grow [] 1 ≡ true
unfolding is_grown has_required
one_fits = refl

good : (so_far : List ℕ) (left : ℕ) → Good so_far left
good [] left = (1, lit< tt, one_fits)
good (x ∷ so_far) left = (0, lit< tt, zero_fits (x ∷ so_far) (omega arith))

pub bytes_go : (so_far : List ℕ) (left : ℕ) → Goes (Bytes so_far left) (list_after (λ so_far left. byte_where (may_grow so_far)) so_far left)
bytes_go so_far left = list_goes (λ _ _. Unit {0}) (λ so_far left _. let g = good so_far left in goes_plainly (byte_reads (may_grow so_far) g.0 g.1 g.2)) (λ so_far left n text x _ _. tt) so_far left tt

pub record Front (so_far : List ℕ) (left : ℕ) (text whole : List ℕ) : Type 0 where
  pub whole_is : whole ≡ so_far ++ text
  pub count : length text ≡ left
  pub fit : Fit so_far text

pub bytes_there : (so_far : List ℕ) (left n : ℕ) (text whole : List ℕ) → Bytes so_far left n text whole → Front so_far left text whole
bytes_there so_far zero n text whole e = subst (λ (t : List ℕ). Front so_far zero t whole) (sym e.none) (record { whole_is = e.is ∙ sym (append-nil so_far); count = refl; fit = tt })
bytes_there so_far (suc left) n text whole s =
    let r = bytes_there (so_far ++ s.value ∷ []) left n s.back whole s.second in
    let parts : text ≡ s.value ∷ s.back = s.parts ∙ ap (λ (t : List ℕ). t ++ s.back) s.first.text_is in
    subst (λ (t : List ℕ). Front so_far (suc left) t whole) (sym parts) (record { whole_is = r.whole_is ∙ append_assoc so_far (s.value ∷ []) s.back; count = ap suc r.count; fit = ((s.first.byte, s.first.passes), r.fit) })

bytes_back : (so_far : List ℕ) (left n : ℕ) (text whole : List ℕ) → whole ≡ so_far ++ text → length text ≡ left → Fit so_far text → Bytes so_far left n text whole
bytes_back so_far zero n [] whole is count fit = record { none = refl; is = is ∙ append-nil so_far }
bytes_back so_far zero n (b ∷ text) whole is count fit = absurd (omega arith)
bytes_back so_far (suc left) n [] whole is count fit = absurd (omega arith)
bytes_back so_far (suc left) n (b ∷ text) whole is count fit = record {
  front = b ∷ [];
  back = text;
  value = b;
  parts = refl;
  first = record { text_is = refl; byte = fit.0.0; passes = fit.0.1 };
  second = bytes_back (so_far ++ b ∷ []) left n text whole (is ∙ sym (append_assoc so_far (b ∷ []) text)) (omega arith) fit.1;
}

-- ---- bytes and the sets that they spell

abbrev pub set_in : List ℕ → Bits
set_in bytes = passing (bit_in bytes) 1024

byte_at_place : (bits : Bits) (k : ℕ) → k < 128 → get_or (bitmap_spelling bits) k 0 ≡ number_of (λ i. has bits (k * 8 + i)) 8
byte_at_place bits k lt = get_or-map-range_with_len (λ k. number_of (λ i. has bits (k * 8 + i)) 8) 0 128 k k 0 lt (omega arith)

digit_is : (b : Bool) → (cond b 1 0 == 1) ≡ b
digit_is true = refl
digit_is false = refl

bit_spelled : (bits : Bits) (i : ℕ) → i < 1024 → bit_in (bitmap_spelling bits) i ≡ has bits i
bit_spelled bits i lt =
    let at : i / 8 * 8 + i % 8 ≡ i = omega arith in
    ap (λ (b : ℕ). bit_at b (i % 8) == 1) (byte_at_place bits (i / 8) (omega arith))
    ∙ ap (λ (d : ℕ). d == 1) (bit_at_number (λ k. has bits (i / 8 * 8 + k)) 8 (i % 8) (omega arith))
    ∙ digit_is (has bits (i / 8 * 8 + i % 8)) ∙ ap (has bits) at

pub bitmap_long : (bits : Bits) → length (bitmap_spelling bits) ≡ 128
bitmap_long bits = length-map-range_with_len (λ k. number_of (λ i. has bits (k * 8 + i)) 8) 0 128

is_below : (bits : Bits) (i : ℕ) → IsWellFormed 10 (has bits) → has bits i ≡ true → i < 1024
is_below bits i formed on = formed.below i on

-- a set comes back from its spelling
set_back : (bits : Bits) → IsWellFormed 10 (has bits) → set_in (bitmap_spelling bits) ≡ bits
set_back bits formed = same_bits (set_in (bitmap_spelling bits)) bits (fun_ext (λ i. has_passing (bit_in (bitmap_spelling bits)) 1024 i ∙ go i))
  where
    go : (i : ℕ) → (nat_lt i 1024 && bit_in (bitmap_spelling bits) i) ≡ has bits i
    go i = elim (cases_lt i 1024) [
      | inl lt ↦ ap (λ (b : Bool). b && bit_in (bitmap_spelling bits) i) (lt_on i 1024 lt) ∙ bit_spelled bits i lt
      | inr le ↦ elim (cases_Bool (has bits i)) [
        | inl on ↦ absurd (let lt = is_below bits i formed on in omega arith)
        | inr off ↦ let past : nat_lt i 1024 ≡ false = grind (arith, nat_tests) in ap (λ (b : Bool). b && bit_in (bitmap_spelling bits) i) past ∙ sym off
      ]
    ]

required_there : (set : ℕ → Bool) (n j : ℕ) → IsWellFormed 10 set → set n ≡ true → Requires n j → set (n - 2 ^ j) ≡ true
required_there set n j formed on r =
    let double = pow-suc 2 j in
    let low = r.0 in
    let high = r.1 in
    elim (cases_lt (n - 2 ^ j) (2 ^ j)) [
      | inl parent ↦ formed.parent (n - 2 ^ j) j parent (let at : n - 2 ^ j + 2 ^ j ≡ n = omega arith in ap set at ∙ on)
      | inr child ↦
          let p : ℕ = n - 2 ^ j - 2 ^ j in
          let before : p + 2 ^ j ≡ n - 2 ^ j = omega arith in
          let at : p + 2 ^ suc j ≡ n = omega (arith, double) in
          ap set (sym before) ∙ formed.before p j (omega (arith, double)) (ap set at ∙ on)
    ]

closed_spelling : (bits : Bits) → IsWellFormed 10 (has bits) → Closed (bitmap_spelling bits)
closed_spelling bits formed = record {
  holds = λ n j on r.
      let within = bit_within (bitmap_spelling bits) n on in
      let count = bitmap_long bits in
      let lt : n < 1024 = omega (arith, count) in
      bit_spelled bits (n - 2 ^ j) (omega arith) ∙ required_there (has bits) n j formed (sym (bit_spelled bits n lt) ∙ on) r;
}

bytes_of_map : (f : ℕ → ℕ) (first count : ℕ) → ((k : ℕ) → f k < 256) → AreBytes (map f (range_with_len first count))
bytes_of_map f first zero all = tt
bytes_of_map f first (suc count) all = (all first, bytes_of_map f (first + 1) count all)

formed_of : (xs : List ℕ) → length xs ≡ 128 → Closed xs → bit_in xs 0 ≡ true → IsWellFormed 10 (has (set_in xs))
formed_of xs count closed root =
    let on : (i : ℕ) → i < 1024 → bit_in xs i ≡ true → has (set_in xs) i ≡ true = λ i lt yet. has_passing (bit_in xs) 1024 i ∙ ap (λ (b : Bool). b && bit_in xs i) (lt_on i 1024 lt) ∙ yet in
    let of : (i : ℕ) → has (set_in xs) i ≡ true → (nat_lt i 1024 ≡ true) × (bit_in xs i ≡ true) = λ i yet. and_parts (nat_lt i 1024) (bit_in xs i) (sym (has_passing (bit_in xs) 1024 i) ∙ yet) in
    record {
      below = λ i yet. lt_of i 1024 (of i yet).0;
      root = on 0 (lit< tt) root;
      parent = λ p j low yet.
          let o = of (p + 2 ^ j) yet in
          let lt = lt_of (p + 2 ^ j) 1024 o.0 in
          let double = pow-suc 2 j in
          let at : p + 2 ^ j - 2 ^ j ≡ p = omega arith in
          on p (omega arith) (sym (ap (bit_in xs) at) ∙ closed.holds (p + 2 ^ j) j o.1 (omega arith, omega (arith, double)));
      before = λ p j low yet.
          let o = of (p + 2 ^ suc j) yet in
          let lt = lt_of (p + 2 ^ suc j) 1024 o.0 in
          let double = pow-suc 2 j in
          let at : p + 2 ^ suc j - 2 ^ j ≡ p + 2 ^ j = omega (arith, double) in
          on (p + 2 ^ j) (omega (arith, double)) (sym (ap (bit_in xs) at) ∙ closed.holds (p + 2 ^ suc j) j o.1 (omega (arith, double), omega arith));
    }

fit_bytes : (so_far xs : List ℕ) → Fit so_far xs → AreBytes xs
fit_bytes so_far [] fit = tt
fit_bytes so_far (b ∷ xs) fit = (fit.0.0, fit_bytes (so_far ++ b ∷ []) xs fit.1)

byte_small : (xs : List ℕ) (k : ℕ) → AreBytes xs → get_or xs k 0 < 256
byte_small [] k bytes = lit< tt
byte_small (b ∷ xs) zero bytes = bytes.0
byte_small (b ∷ xs) (suc k) bytes = byte_small xs k bytes.1

root_of : (xs : List ℕ) → length xs ≡ 128 → Fit [] xs → bit_in xs 0 ≡ true
root_of [] count fit = absurd (omega arith)
root_of (b ∷ xs) count fit =
    let odd : (b % 2 == 1) ≡ true = (and_parts (b % 2 == 1) (is_grown (bit_in (b ∷ [])) 0 8) fit.0.1).0 in
    ap (λ (n : ℕ). n == 1) (bit_at_lowest b) ∙ odd

digit_of : (d : ℕ) → d < 2 → d ≡ cond (d == 1) 1 0
digit_of zero lt = refl
digit_of (suc zero) lt = refl
digit_of (suc (suc d)) lt = absurd (omega arith)

spelled_back : (xs : List ℕ) → length xs ≡ 128 → AreBytes xs → xs ≡ bitmap_spelling (set_in xs)
spelled_back xs count bytes = ext_get_or 0 xs (bitmap_spelling (set_in xs)) (count ∙ sym (bitmap_long (set_in xs))) (λ k lt.
    let row : k < 128 = omega (arith, count) in
    let f : ℕ = number_of (λ i. has (set_in xs) (k * 8 + i)) 8 in
    let small : get_or xs k 0 < 2 ^ 8 = byte_small xs k bytes in
    same_from_bits_below 8 (get_or xs k 0) f small (number_below (λ i. has (set_in xs) (k * 8 + i)) 8) (λ i low.
    let byte : (k * 8 + i) / 8 ≡ k = omega arith in
    let bit : (k * 8 + i) % 8 ≡ i = omega arith in
    let here : bit_in xs (k * 8 + i) ≡ (bit_at (get_or xs k 0) i == 1) = ap (λ (n : ℕ). bit_at (get_or xs n 0) ((k * 8 + i) % 8) == 1) byte ∙ ap (λ (n : ℕ). bit_at (get_or xs k 0) n == 1) bit in
    let set : has (set_in xs) (k * 8 + i) ≡ (bit_at (get_or xs k 0) i == 1) = has_passing (bit_in xs) 1024 (k * 8 + i) ∙ ap (λ (b : Bool). b && bit_in xs (k * 8 + i)) (lt_on (k * 8 + i) 1024 (omega arith)) ∙ here in
    digit_of (bit_at (get_or xs k 0) i) (bit_at-lt (get_or xs k 0) i) ∙ ap (λ (b : Bool). cond b 1 0) (sym set) ∙ sym (bit_at_number (λ i. has (set_in xs) (k * 8 + i)) 8 i low))
    ∙ sym (byte_at_place (set_in xs) k row))

-- what was read as the bytes of a bitmap spells one
pub front_formed : (bytes front rest : List ℕ) → IsBytes bytes → list_after (λ so_far left. byte_where (may_grow so_far)) [] 128 bytes ≡ Ok (front, rest) → (length front ≡ 128) × IsWellFormed 10 (has (set_in front))
front_formed bytes front rest fits e =
    let t = (bytes_go [] 128).reads.found bytes front rest fits e in
    let f = bytes_there [] 128 0 t.text front t.spelled in
    let closed = closed_all [] t.text (omega (arith, f.count)) none_closed f.fit in
    (ap length f.whole_is ∙ f.count, subst (λ (l : List ℕ). IsWellFormed 10 (has (set_in l))) (sym f.whole_is) (formed_of t.text f.count closed (root_of t.text f.count f.fit)))

-- ---- bitmaps

pub record BitmapText (text : List ℕ) (bits : Bits) : Type 0 where
  pub formed : IsWellFormed 10 (has bits)
  pub text_is : text ≡ bitmap_spelling bits

abbrev BitmapParts : ℕ → List ℕ → Bits → Type 0
BitmapParts = Then (Bytes [] 128) (λ front _. Ends (set_in front))

bitmap_parts : Goes BitmapParts bitmap_at
unfolding bitmap_at
bitmap_parts = go_in_turn (bytes_go [] 128) (λ text front s. (goes_plainly (follows_here (set_in front))).reads) (λ n text front s. (goes_plainly (follows_here (set_in front))).opens)

bitmap_there : (n : ℕ) (text : List ℕ) (bits : Bits) → BitmapParts n text bits → BitmapText text bits
bitmap_there n text bits s =
    let f = bytes_there [] 128 (n - length s.back) s.front s.value s.first in
    let whole : text ≡ s.front = s.parts ∙ ap (λ (u : List ℕ). s.front ++ u) s.second.none ∙ append-nil s.front in
    let bits_is : bits ≡ set_in s.front = s.second.is ∙ ap set_in f.whole_is in
    let closed = closed_all [] s.front (omega (arith, f.count)) none_closed f.fit in
    subst (BitmapText text) (sym bits_is) (record { formed = formed_of s.front f.count closed (root_of s.front f.count f.fit); text_is = whole ∙ spelled_back s.front f.count (fit_bytes [] s.front f.fit) })

bitmap_back : (n : ℕ) (text : List ℕ) (bits : Bits) → BitmapText text bits → BitmapParts n text bits
bitmap_back n text bits s =
    let xs : List ℕ = bitmap_spelling bits in
    let root : bit_in xs 0 ≡ true = bit_spelled bits 0 (lit< tt) ∙ s.formed.root in
    let bytes : AreBytes xs = bytes_of_map (λ k. number_of (λ i. has bits (k * 8 + i)) 8) 0 128 (λ k. number_below (λ i. has bits (k * 8 + i)) 8) in
    record {
      front = xs;
      back = [];
      value = xs;
      parts = s.text_is ∙ sym (append-nil xs);
      first = bytes_back [] 128 (n - 0) xs xs refl (bitmap_long bits) (fit_all [] xs (closed_spelling bits s.formed) root bytes);
      second = record { none = refl; is = sym (set_back bits s.formed) };
    }

pub bitmap_goes : Goes (λ _. BitmapText) bitmap_at
bitmap_goes = same_goes bitmap_there bitmap_back bitmap_parts

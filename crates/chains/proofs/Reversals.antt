-- Hashes with their bits in the opposite order.
use Rattle.std.proofs.Common.{◌≡◌, ℕ, zero, suc, ◌+◌, ◌-◌, ◌*◌, ◌/◌, ◌%◌, ◌^◌, ◌<◌, ◌≤◌, ◌↔◌, inl, inr, Bool, IsTrue, sym, refl, ap, ◌∙◌, subst, arith, pow-suc, pow_pos, mod-eq_of_lt, div-one}
use Rattle.std.proofs.Math.Nat.{mod-one, div-eq_of_lt}
use Rattle.std.proofs.Math.Pow.{pow-add}
use Rattle.std.proofs.lemmas.Bool.{cases_lt, cases_eq}
use Rattle.std.proofs.lemmas.Nat.{shr-shr, mod-mul-add, div-mul-add, same_from_place}
use Rattle.std.proofs.lemmas.Nat.Bits.{bit_at-lt, bit_at-suc, bit_at_lowest, bit_at_cat_low, bit_at_cat_high}
use Rattle.std.specs.Int.{bit_at}
use Rattle.chains.specs.WellFormed.{IsWellFormed}
use Rattle.chains.specs.Located.{located}
use Rattle.chains.specs.Depth.{depth_of, HasNoChildrenFrom}
use Rattle.chains.specs.Reversed.{reversed, first_of, last_of, IsInSpan}
use Rattle.chains.proofs.Remainders.{mod_below, one_more}
use Rattle.chains.proofs.Prefixes.{located_has}
use Rattle.chains.proofs.Depths.{depth_least, located_to_range, range_to_located, located_active}

pub reversed_none : (n : ℕ) → reversed 0 n ≡ 0
unfolding reversed
reversed_none n = refl

pub reversed_step : (w n : ℕ) → reversed (suc w) n ≡ (n % 2) * 2 ^ w + reversed w (n / 2)
unfolding reversed
reversed_step w n = refl

bit_times : (n k : ℕ) → n < 2 → n * k ≤ k
bit_times zero k lt = omega arith
bit_times (suc zero) k lt = omega arith
bit_times (suc (suc n)) k lt = absurd (omega arith)

pub reversed_below : (w n : ℕ) → reversed w n < 2 ^ w
reversed_below zero n = omega (arith, reversed_none n)
reversed_below (suc w) n =
    omega (arith, reversed_step w n, reversed_below w (n / 2), bit_times (n % 2) (2 ^ w) (omega arith), pow-suc 2 w)

reversed_zero : (w : ℕ) → reversed w 0 ≡ 0
reversed_zero zero = reversed_none 0
reversed_zero (suc w) = omega (arith, reversed_step w 0, reversed_zero w)

-- the low d bits come first, and then the others
pub reversed_add : (d e n : ℕ) → reversed (d + e) n ≡ reversed d n * 2 ^ e + reversed e (n / 2 ^ d)
reversed_add zero e n =
    let w : 0 + e ≡ e = omega arith in
    ap (λ k. reversed k n) w ∙ omega (arith, ap (λ k. k * 2 ^ e) (reversed_none n), ap (reversed e) (div-one n))
reversed_add (suc d) e n =
    let w : suc d + e ≡ suc (d + e) = omega arith in
    let one : suc zero + d ≡ suc d = omega arith in
    let deeper : reversed e (n / 2 / 2 ^ d) ≡ reversed e (n / 2 ^ suc d) = ap (reversed e) (shr-shr n 1 d ∙ ap (λ k. n / 2 ^ k) one) in
    ap (λ k. reversed k n) w
    ∙ (reversed_step (d + e) n
    ∙ omega (arith, ap (λ k. (n % 2) * k) (pow-add 2 d e), ap (λ k. k * 2 ^ e) (reversed_step d n), reversed_add d e (n / 2), deeper))

-- the highest bit comes last
pub reversed_last : (w n : ℕ) → reversed (suc w) n ≡ reversed w n * 2 + bit_at n w
reversed_last w n =
    let e : w + 1 ≡ suc w = omega arith in
    ap (λ k. reversed k n) (sym e)
    ∙ (reversed_add w 1 n ∙ omega (arith, reversed_step 0 (n / 2 ^ w), reversed_none (n / 2 ^ w / 2)))

pub reversed_reversed : (w n : ℕ) → reversed w (reversed w n) ≡ n % 2 ^ w
reversed_reversed zero n = reversed_none (reversed 0 n) ∙ sym (mod-one n)
reversed_reversed (suc w) n =
    let x = reversed w n in
    let c = bit_at n w in
    let low : c < 2 = bit_at-lt n w in
    ap (reversed (suc w)) (reversed_last w n)
    ∙ (reversed_step w (x * 2 + c)
    ∙ (omega (arith, ap (λ k. k * 2 ^ w) (mod-mul-add x 2 c low), ap (reversed w) (div-mul-add x 2 c low), reversed_reversed w n, one_more n w)))

pub reversed_back : (w n : ℕ) → n < 2 ^ w → reversed w (reversed w n) ≡ n
reversed_back w n lt = reversed_reversed w n ∙ mod-eq_of_lt lt

-- only the low bits count
reversed_mod : (d n : ℕ) → reversed d (n % 2 ^ d) ≡ reversed d n
reversed_mod d n =
    ap (reversed d) (sym (reversed_reversed d n)) ∙ reversed_back d (reversed d n) (reversed_below d n)

pub reversed_bit : (w n i : ℕ) → i < w → bit_at (reversed w n) i ≡ bit_at n (w - suc i)
reversed_bit zero n i lt = absurd (omega arith)
reversed_bit (suc w) n i lt =
    let top = n % 2 in
    let rest = reversed w (n / 2) in
    ap (λ x. bit_at x i) (reversed_step w n)
    ∙ elim (cases_lt i w) [
      | inl low ↦
          let e : suc (w - suc i) ≡ suc w - suc i = omega arith in
          bit_at_cat_low top w rest i low ∙ (reversed_bit w (n / 2) i low ∙ (sym (bit_at-suc n (w - suc i)) ∙ ap (bit_at n) e))
      | inr high ↦
          let e : i - w ≡ 0 = omega arith in
          let z : suc w - suc i ≡ 0 = omega arith in
          bit_at_cat_high top w rest i (reversed_below w (n / 2)) high
          ∙ (ap (bit_at top) e ∙ (bit_at_lowest top ∙ (mod-eq_of_lt (omega arith) ∙ (sym (bit_at_lowest n) ∙ ap (bit_at n) (sym z)))))
    ]

-- ---- spans

-- a partition's first place, and the place of a hash
place_of_part : (w d p : ℕ) → d ≤ w → p < 2 ^ d → reversed w p ≡ reversed d p * 2 ^ (w - d)
place_of_part w d p le lt =
    let e : d + (w - d) ≡ w = omega arith in
    ap (λ k. reversed k p) (sym e)
    ∙ (reversed_add d (w - d) p ∙ omega (arith, ap (reversed (w - d)) (div-eq_of_lt lt) ∙ reversed_zero (w - d)))

place_of_hash : (w d h : ℕ) → d ≤ w → reversed w h ≡ reversed d h * 2 ^ (w - d) + reversed (w - d) (h / 2 ^ d)
place_of_hash w d h le =
    let e : d + (w - d) ≡ w = omega arith in
    ap (λ k. reversed k h) (sym e) ∙ reversed_add d (w - d) h

pub range_interval : (w d p h : ℕ) → d ≤ w → p < 2 ^ d → (h % 2 ^ d ≡ p) ↔ IsInSpan w p d (reversed w h)
range_interval w d p h le lt =
    let part = place_of_part w d p le lt in
    let hash = place_of_hash w d h le in
    let rest = reversed_below (w - d) (h / 2 ^ d) in (
      λ is.
          let same : reversed d h ≡ reversed d p = sym (reversed_mod d h) ∙ ap (reversed d) is in
          let high : reversed d h * 2 ^ (w - d) ≡ reversed d p * 2 ^ (w - d) = ap (λ k. k * 2 ^ (w - d)) same in
          record { from = omega arith; to = omega arith },
      λ inside.
          let x = reversed w h - reversed w p in
          let low : x < 2 ^ (w - d) = omega (arith, inside.from, inside.to, pow_pos (w - d)) in
          let place : reversed d p * 2 ^ (w - d) + x ≡ reversed d h * 2 ^ (w - d) + reversed (w - d) (h / 2 ^ d) = omega (arith, inside.from, inside.to) in
          let same = (same_from_place (reversed d p) x (reversed d h) (reversed (w - d) (h / 2 ^ d)) (2 ^ (w - d)) low rest place).0 in
          sym (reversed_reversed d h) ∙ (ap (reversed d) (sym same) ∙ reversed_back d p lt),
    )

pub half : (w d : ℕ) → d < w → 2 ^ (w - d) ≡ 2 ^ (w - suc d) * 2
half w d lt =
    let e : suc (w - suc d) ≡ w - d = omega arith in
    ap (λ k. 2 ^ k) (sym e) ∙ pow-suc 2 (w - suc d)

-- the child's range begins in the middle of its parent's
pub reversed_child : (w d p : ℕ) → d < w → p < 2 ^ d → reversed w (p + 2 ^ d) ≡ reversed w p + 2 ^ (w - suc d)
reversed_child w d p lt low =
    let q = p + 2 ^ d in
    let fits : q < 2 ^ suc d = omega (arith, pow-suc 2 d) in
    let turned : q ≡ 1 * 2 ^ d + p = omega arith in
    let rest : q % 2 ^ d ≡ p = ap (λ x. x % 2 ^ d) turned ∙ mod-mul-add 1 (2 ^ d) p low in
    let over : q / 2 ^ d ≡ 1 = ap (λ x. x / 2 ^ d) turned ∙ div-mul-add 1 (2 ^ d) p low in
    let top : bit_at q d ≡ 1 = ap (λ x. x % 2) over in
    let same : reversed d q ≡ reversed d p = sym (reversed_mod d q) ∙ ap (reversed d) rest in
    let last : reversed (suc d) q ≡ reversed d p * 2 + 1 = omega (arith, reversed_last d q) in
    let child : reversed w q ≡ (reversed d p * 2 + 1) * 2 ^ (w - suc d) = place_of_part w (suc d) q lt fits ∙ ap (λ k. k * 2 ^ (w - suc d)) last in
    omega (arith, child, place_of_part w d p (omega arith) low, ap (λ k. reversed d p * k) (half w d lt))

-- a split cuts the span into two, and the upper one is the child's
pub span_halves : (w d p : ℕ) → d < w → p < 2 ^ d → (last_of w p (suc d) + 1 ≡ first_of w (p + 2 ^ d)) × (last_of w (p + 2 ^ d) (suc d) ≡ last_of w p d)
span_halves w d p lt low = (
  omega (arith, reversed_child w d p lt low, pow_pos (w - suc d)),
  omega (arith, reversed_child w d p lt low, half w d lt, pow_pos (w - suc d)),
)

-- within the range of p the hashes with bit d set are those from the middle on
pub moving_half_upper : (w d p h : ℕ) → d < w → p < 2 ^ d → h % 2 ^ d ≡ p → (bit_at h d ≡ 1) ↔ (reversed w p + 2 ^ (w - suc d) ≤ reversed w h)
moving_half_upper w d p h lt low is =
    let place = place_of_hash w (suc d) h lt in
    let part = place_of_part w d p (omega arith) low in
    let rest = reversed_below (w - suc d) (h / 2 ^ suc d) in
    let same : reversed d h ≡ reversed d p = sym (reversed_mod d h) ∙ ap (reversed d) is in
    let first : reversed d p * 2 ^ (w - d) ≡ reversed d p * 2 * 2 ^ (w - suc d) = omega (arith, ap (λ k. reversed d p * k) (half w d lt)) in
    let high : (c : ℕ) → bit_at h d ≡ c → reversed (suc d) h * 2 ^ (w - suc d) ≡ (reversed d p * 2 + c) * 2 ^ (w - suc d) = λ c e. ap (λ k. k * 2 ^ (w - suc d)) (reversed_last d h ∙ omega arith) in (
      λ one. omega (arith, high 1 one),
      λ le. elim (cases_eq (bit_at h d) 0) [
        | inl none ↦ absurd (omega (arith, high 0 none))
        | inr some ↦ omega (arith, bit_at-lt h d)
      ],
    )

pub span_fits : (w d p : ℕ) → d ≤ w → p < 2 ^ d → last_of w p d < 2 ^ w
span_fits w d p le lt =
    let e : d + (w - d) ≡ w = omega arith in
    let power : 2 ^ w ≡ 2 ^ d * 2 ^ (w - d) = ap (λ k. 2 ^ k) (sym e) ∙ pow-add 2 d (w - d) in
    let high = reversed_below d p in
    let row : (reversed d p + 1) * 2 ^ (w - d) ≤ 2 ^ d * 2 ^ (w - d) = grows (reversed d p + 1) (2 ^ d) (2 ^ (w - d)) (omega arith) in
    omega (arith, place_of_part w d p le lt, pow_pos (w - d))
  where
    grows : (a b c : ℕ) → a ≤ b → a * c ≤ b * c
    grows a b c le = grind arith

-- ---- places along a span

-- a place in the span of p at depth a is located at p, if the set has no child of p at a or above
pub stays_in_range : {r : ℕ} {b : ℕ → Bool} → IsWellFormed r b → (w p a y : ℕ) → r ≤ w → a ≤ r → p < 2 ^ a → IsTrue (b p) → HasNoChildrenFrom p a b → y < 2 ^ w → IsInSpan w p a y → located r (reversed w y) b ≡ p
stays_in_range {r} {b} f w p a y wide deep low has none fits inside =
    let back = reversed_back w y fits in
    let there = subst (λ (x : ℕ). IsInSpan w p a x) (sym back) inside in
    located_active f (reversed w y) p a has deep none ((range_interval w a p (reversed w y) (omega arith) low).1 there)

pub active_to_end : {r : ℕ} {b : ℕ → Bool} → IsWellFormed r b → (w p a x y : ℕ) → r ≤ w → a ≤ r → IsTrue (b p) → HasNoChildrenFrom p a b → x < 2 ^ w → y < 2 ^ w → reversed w x % 2 ^ a ≡ p → x ≤ y → y ≤ last_of w p a → located r (reversed w y) b ≡ p
active_to_end {r} {b} f w p a x y wide deep has none fitx fity is le end =
    let low : p < 2 ^ a = omega (arith, mod_below (reversed w x) a) in
    let begin = (range_interval w a p (reversed w x) (omega arith) low).0 is in
    let back = reversed_back w x fitx in
    stays_in_range f w p a y wide deep low has none fity
    (record { from = omega (arith, begin.from); to = end })

pub located_to_end : {r : ℕ} {b : ℕ → Bool} → IsWellFormed r b → (w p x y : ℕ) → r ≤ w → x < 2 ^ w → y < 2 ^ w → located r (reversed w x) b ≡ p → x ≤ y → y ≤ last_of w p (depth_of r p b) → located r (reversed w y) b ≡ p
located_to_end {r} {b} f w p x y wide fitx fity is le end =
    let has : IsTrue (b p) = ap b (sym is) ∙ located_has f (reversed w x) in
    let d = depth_of r p b in
    let deep = depth_least f p has in
    let at = located_to_range f (reversed w x) p d deep is in
    let begin = (range_interval w d p (reversed w x) (omega (arith, deep.within)) deep.digits).0 at in
    let back = reversed_back w x fitx in
    let inside : IsInSpan w p d y = record { from = omega (arith, begin.from); to = end } in
    range_to_located f (reversed w y) p d has deep
    ((range_interval w d p (reversed w y) (omega (arith, deep.within)) deep.digits).1
    (subst (λ (v : ℕ). IsInSpan w p d v) (sym (reversed_back w y fity)) inside))

-- Which sets are well formed.
use Rattle.std.proofs.Common.{◌≡◌, ℕ, suc, ◌+◌, ◌-◌, ◌*◌, ◌^◌, ◌<◌, ◌⊎◌, ◌↔◌, ◌==◌, inl, inr, Bool, false, IsTrue, sym, refl, ap, ◌∙◌, arith, pow-suc, pow_pos, pow_mono}
use Rattle.std.proofs.lemmas.Bool.{true≢false, cases_lt, or_left, or_right, or_cases, or_from, or_parts, eq-eqb, eqb-true, ne_eqb, true_from_ne_false}
use Rattle.chains.specs.WellFormed.{IsWellFormed, IsWithin, with_number, union_of, IsMissing, IsRequiredBy}
use Rattle.chains.proofs.Remainders.{exponent_below, same_top}

pub root_formed : (r : ℕ) → IsWellFormed r (λ i. i == 0)
root_formed r = record {
  below = λ i has. omega (arith, eqb-true i 0 has, pow_pos r);
  root = refl;
  parent = λ p j lt has. absurd (omega (arith, eqb-true (p + 2 ^ j) 0 has, pow_pos j));
  before = λ p j lt has. absurd (omega (arith, eqb-true (p + 2 ^ suc j) 0 has, pow_pos (suc j)));
}

pub union_formed : {r : ℕ} {b k : ℕ → Bool} → IsWellFormed r b → IsWellFormed r k → IsWellFormed r (union_of b k)
union_formed {r} {b} {k} f g = record {
  below = λ i has. elim (or_cases (b i) (k i) has) [ inl e ↦ f.below i e | inr e ↦ g.below i e ];
  root = or_left (b 0) (k 0) f.root;
  parent = λ p j lt has.
      elim (or_cases (b (p + 2 ^ j)) (k (p + 2 ^ j)) has) [
        | inl e ↦ or_left (b p) (k p) (f.parent p j lt e)
        | inr e ↦ or_right (b p) (k p) (g.parent p j lt e)
      ];
  before = λ p j lt has.
      elim (or_cases (b (p + 2 ^ suc j)) (k (p + 2 ^ suc j)) has) [
        | inl e ↦ or_left (b (p + 2 ^ j)) (k (p + 2 ^ j)) (f.before p j lt e)
        | inr e ↦ or_right (b (p + 2 ^ j)) (k (p + 2 ^ j)) (g.before p j lt e)
      ];
}

pub union_has_first : (b k : ℕ → Bool) → IsWithin b (union_of b k)
union_has_first b k i e = or_left (b i) (k i) e

pub union_has_second : (b k : ℕ → Bool) → IsWithin k (union_of b k)
union_has_second b k i e = or_right (b i) (k i) e

pub with_has : (b : ℕ → Bool) (q : ℕ) → IsTrue (with_number b q q)
with_has b q = or_left (q == q) (b q) (eq-eqb q q refl)

pub with_keeps : (b : ℕ → Bool) (q i : ℕ) → IsTrue (b i) → IsTrue (with_number b q i)
with_keeps b q i e = or_right (i == q) (b i) e

pub with_lacks : (b : ℕ → Bool) (q i : ℕ) → (i ≡ q → ⊥) → b i ≡ false → with_number b q i ≡ false
with_lacks b q i ne e = or_from (i == q) (b i) (ne_eqb i q ne) e

pub with_cases : (b : ℕ → Bool) (q i : ℕ) → IsTrue (with_number b q i) → (i ≡ q) ⊎ IsTrue (b i)
with_cases b q i has = elim (or_cases (i == q) (b i) has) [ inl e ↦ inl (eqb-true i q e) | inr e ↦ inr e ]

pub with_other : (b : ℕ → Bool) (q i : ℕ) → (i ≡ q → ⊥) → IsTrue (with_number b q i) → IsTrue (b i)
with_other b q i ne has = elim (with_cases b q i has) [ inl e ↦ absurd (ne e) | inr e ↦ e ]

-- a child whose parent is there, and the child before it, may be added
pub put_formed : {r : ℕ} {b : ℕ → Bool} → IsWellFormed r b → (p d : ℕ) → p < 2 ^ d → d < r → IsTrue (b p) → ((j : ℕ) → suc j ≡ d → p < 2 ^ j → IsTrue (b (p + 2 ^ j))) → IsWellFormed r (with_number b (p + 2 ^ d))
put_formed {r} {b} f p d fits deep has sibling =
    let q = p + 2 ^ d in
    record {
      below = λ i e.
          elim (with_cases b q i e) [
            | inl is ↦ omega (arith, pow-suc 2 d, pow_mono {i = suc d} {j = r} deep)
            | inr was ↦ f.below i was
          ];
      root = with_keeps b q 0 f.root;
      parent = λ x j lt e.
          elim (with_cases b q (x + 2 ^ j) e) [
            | inl is ↦ with_keeps b q x (ap b ((same_top x p j d lt fits is).1) ∙ has)
            | inr was ↦ with_keeps b q x (f.parent x j lt was)
          ];
      before = λ x j lt e.
          elim (with_cases b q (x + 2 ^ suc j) e) [
            | inl is ↦
                let top = same_top x p (suc j) d (omega (arith, pow-suc 2 j)) fits is in
                with_keeps b q (x + 2 ^ j) (ap (λ v. b (v + 2 ^ j)) top.1 ∙ sibling j top.0 (omega (arith, top.1)))
            | inr was ↦ with_keeps b q (x + 2 ^ j) (f.before x j lt was)
          ];
    }

-- ---- a set is well formed where nothing is missing

pub formed_misses : {r : ℕ} {b : ℕ → Bool} → IsWellFormed r b → (m : ℕ) → IsMissing r b m → ⊥
formed_misses {r} {b} f m (lacks, inl zero_is) = true≢false (sym f.root ∙ ap b (sym zero_is) ∙ lacks)
formed_misses {r} {b} f m (lacks, inr (j, deep, fits, has)) =
    elim (cases_lt m (2 ^ j)) [
      | inl lt ↦ true≢false (sym (f.parent m j lt has) ∙ lacks)
      | inr le ↦
          let p = m - 2 ^ j in
          let lt : p < 2 ^ j = omega (arith, pow-suc 2 j) in
          let child : m + 2 ^ j ≡ p + 2 ^ suc j = omega (arith, pow-suc 2 j) in
          let back : p + 2 ^ j ≡ m = omega arith in
          true≢false (sym (f.before p j lt (ap b (sym child) ∙ has)) ∙ (ap b back ∙ lacks))
    ]

exponent_in : {r : ℕ} (p j : ℕ) → p + 2 ^ j < 2 ^ r → j < r
exponent_in {r} p j lt = exponent_below j r (omega arith)

pub formed_from : {r : ℕ} {b : ℕ → Bool} → ((i : ℕ) → IsTrue (b i) → i < 2 ^ r) → ((m : ℕ) → IsMissing r b m → ⊥) → IsWellFormed r b
formed_from {r} {b} below none = record {
  below = below;
  root = true_from_ne_false (b 0) (λ e. none 0 (e, inl refl));
  parent = λ p j lt has.
      true_from_ne_false (b p) (λ e. none p (e, inr (j, exponent_in p j (below (p + 2 ^ j) has), omega (arith, pow-suc 2 j), has)));
  before = λ p j lt has.
      let m = p + 2 ^ j in
      let child : p + 2 ^ suc j ≡ m + 2 ^ j = omega (arith, pow-suc 2 j) in
      true_from_ne_false (b m) (λ e. none m (e, inr (j, omega (arith, exponent_in p (suc j) (below (p + 2 ^ suc j) has)), omega (arith, pow-suc 2 j), ap b (sym child) ∙ has)));
}

-- ---- a child more

-- what is missing once a child was added is what the child requires and the set lacks
pub missing_with : {r : ℕ} {b : ℕ → Bool} → IsWellFormed r b → (p d : ℕ) → p < 2 ^ d → (m : ℕ) → IsMissing r (with_number b (p + 2 ^ d)) m → (b m ≡ false) × IsRequiredBy p d m
missing_with {r} {b} f p d fits m (lacks, inl is) =
    absurd (true≢false (sym (with_keeps b (p + 2 ^ d) 0 f.root) ∙ (ap (with_number b (p + 2 ^ d)) (sym is) ∙ lacks)))
missing_with {r} {b} f p d fits m (lacks, inr (j, deep, below, has)) =
    let q = p + 2 ^ d in
    let own = (or_parts (m == q) (b m) lacks).1 in (
      own,
      elim (with_cases b q (m + 2 ^ j) has) [
        | inr was ↦ absurd (formed_misses f m (own, inr (j, deep, below, was)))
        | inl is ↦ elim (cases_lt m (2 ^ j)) [
          | inl lt ↦ inl ((same_top m p j d lt fits is).1)
          | inr le ↦
              let x = m - 2 ^ j in
              let fit : x < 2 ^ suc j = omega (arith, pow-suc 2 j) in
              let child : x + 2 ^ suc j ≡ p + 2 ^ d = omega (arith, pow-suc 2 j) in
              let top = same_top x p (suc j) d fit fits child in
              inr (j, top.0, omega (arith, top.1, pow-suc 2 j), omega (arith, top.1))
        ]
      ],
    )

pub required_missing : {r : ℕ} (b : ℕ → Bool) (p d : ℕ) → p < 2 ^ d → d < r → (m : ℕ) → b m ≡ false → IsRequiredBy p d m → IsMissing r (with_number b (p + 2 ^ d)) m
required_missing {r} b p d fits deep m lacks (inl is) =
    let q = p + 2 ^ d in (
      with_lacks b q m (λ e. absurd (omega (arith, e, pow_pos d))) lacks,
      inr (d, deep, omega (arith, pow-suc 2 d), ap (λ x. with_number b q (x + 2 ^ d)) is ∙ with_has b q),
    )
required_missing {r} b p d fits deep m lacks (inr (j, next, low, is)) =
    let q = p + 2 ^ d in
    let power : 2 ^ d ≡ 2 ^ j * 2 = ap (λ k. 2 ^ k) (sym next) ∙ pow-suc 2 j in
    let child : m + 2 ^ j ≡ q = omega arith in (
      with_lacks b q m (λ e. absurd (omega (arith, e, pow_pos j))) lacks,
      inr (j, omega arith, omega (arith, pow-suc 2 j), ap (with_number b q) child ∙ with_has b q),
    )

-- with the child the set stays well formed exactly where what the child requires is there
pub with_formed : {r : ℕ} {b : ℕ → Bool} → IsWellFormed r b → (p d : ℕ) → p < 2 ^ d → d < r → IsWellFormed r (with_number b (p + 2 ^ d)) ↔ ((m : ℕ) → IsRequiredBy p d m → IsTrue (b m))
with_formed {r} {b} f p d fits deep = (
  λ g m need. true_from_ne_false (b m) (λ e. formed_misses g m (required_missing b p d fits deep m e need)),
  λ all. put_formed f p d fits deep (all p (inl refl)) (λ j next low. all (p + 2 ^ j) (inr (j, next, low, refl))),
)

-- The depth of a partition, the hashes of its range, and what a child more changes.
use Rattle.std.proofs.Common.{◌≡◌, ℕ, zero, suc, ◌+◌, ◌-◌, ◌%◌, ◌^◌, ◌<◌, ◌≤◌, ◌↔◌, ◌||◌, nat_le, inl, inr, Bool, false, IsTrue, sym, refl, ap, ◌∙◌, subst, arith, pow-suc, pow_pos, pow_mono, mod-eq_of_lt}
use Rattle.std.proofs.lemmas.Bool.{true≢false, cases_lt, cases_eq, or_left, or_right, or_cases, or_from, or_parts, le-leb, lt-leb, leb-true, leb-false, false_from_ne_true}
use Rattle.chains.specs.Chain.{OnChain}
use Rattle.chains.specs.WellFormed.{IsWellFormed, IsWithin, with_number}
use Rattle.chains.specs.Located.{run, located}
use Rattle.chains.specs.Depth.{depth_of, IsDepth, HasChildren, HasNoChildrenFrom}
use Rattle.chains.proofs.RunLengths.{run_le, run_before, run_end, run_is}
use Rattle.chains.proofs.Remainders.{mod_below, mod_under, mod_step, exponent_below, same_top}
use Rattle.chains.proofs.Prefixes.{front_at, located_ends, located_is, chain_to_range, range_parent}
use Rattle.chains.proofs.Sets.{put_formed, with_has, with_keeps, with_lacks, with_other}

abbrev taken : ℕ → (ℕ → Bool) → ℕ → Bool
taken p b i = nat_le (2 ^ i) p || b (p + 2 ^ i)

depth_at_run : (r p : ℕ) (b : ℕ → Bool) → depth_of r p b ≡ run r (taken p b)
unfolding depth_of
depth_at_run r p b = refl

depth_by_run : {r : ℕ} {b : ℕ → Bool} → IsWellFormed r b → (p : ℕ) → IsTrue (b p) → IsDepth r p b (run r (taken p b))
depth_by_run {r} {b} f p has =
    let d = run r (taken p b) in
    let ends = λ (lt : d < r). or_parts (nat_le (2 ^ d) p) (b (p + 2 ^ d)) (run_end r (taken p b) lt) in
    record {
      within = run_le r (taken p b);
      digits = elim (cases_lt d r) [
        | inl lt ↦ leb-false (2 ^ d) p ((ends lt).0)
        | inr le ↦ omega (arith, f.below p has, pow_mono {i = r} {j = d} le)
      ];
      free = λ lt. (ends lt).1;
      least = λ i lt low.
          elim (or_cases (nat_le (2 ^ i) p) (b (p + 2 ^ i)) (run_before r (taken p b) i lt)) [
            | inl e ↦ absurd (omega (arith, leb-true (2 ^ i) p e))
            | inr e ↦ e
          ];
    }

pub depth_least : {r : ℕ} {b : ℕ → Bool} → IsWellFormed r b → (p : ℕ) → IsTrue (b p) → IsDepth r p b (depth_of r p b)
depth_least {r} {b} f p has =
    subst (λ (d : ℕ). IsDepth r p b d) (sym (depth_at_run r p b)) (depth_by_run f p has)

pub depth_is : {r p : ℕ} {b : ℕ → Bool} (d : ℕ) → IsDepth r p b d → depth_of r p b ≡ d
depth_is {r} {p} {b} d w =
    depth_at_run r p b
    ∙ run_is r (taken p b) d w.within
    (λ i lt. elim (cases_lt p (2 ^ i)) [
      | inl low ↦ or_right (nat_le (2 ^ i) p) (b (p + 2 ^ i)) (w.least i lt low)
      | inr le ↦ or_left (nat_le (2 ^ i) p) (b (p + 2 ^ i)) (le-leb (2 ^ i) p le)
    ])
    (λ lt. or_from (nat_le (2 ^ d) p) (b (p + 2 ^ d)) (lt-leb (2 ^ d) p w.digits) (w.free lt))

-- a set that has a child has those before it
first_child : {r : ℕ} {b : ℕ → Bool} → IsWellFormed r b → (p d k : ℕ) → p < 2 ^ d → IsTrue (b (p + 2 ^ (k + d))) → IsTrue (b (p + 2 ^ d))
first_child {r} {b} f p d zero low has = ap (λ i. b (p + 2 ^ i)) (omega arith) ∙ has
first_child {r} {b} f p d (suc k) low has =
    let e : suc (k + d) ≡ suc k + d = omega arith in
    first_child f p d k low
    (f.before p (k + d) (omega (arith, pow_mono {i = d} {j = k + d} (omega arith))) (ap (λ i. b (p + 2 ^ i)) e ∙ has))

-- a partition has no child at its depth or above
pub no_child : {r : ℕ} {b : ℕ → Bool} → IsWellFormed r b → (p d : ℕ) → IsDepth r p b d → HasNoChildrenFrom p d b
no_child {r} {b} f p d w i le low =
    false_from_ne_true (b (p + 2 ^ i))
    (λ has.
    let deep : i < r = exponent_below i r (omega (arith, f.below (p + 2 ^ i) has)) in
    let e : i ≡ i - d + d = omega arith in
    true≢false (sym (first_child f p d (i - d) w.digits (ap (λ x. b (p + 2 ^ x)) (sym e) ∙ has)) ∙ w.free (omega arith)))

-- along the chain the remainder stays p while the set has no child of p
stay : {r : ℕ} {b : ℕ → Bool} → IsWellFormed r b → (h p i k : ℕ) → h % 2 ^ i ≡ p → HasNoChildrenFrom p i b → IsTrue (b (h % 2 ^ (k + i))) → h % 2 ^ (k + i) ≡ p
stay {r} {b} f h p i zero is none has = ap (λ d. h % 2 ^ d) (omega arith) ∙ is
stay {r} {b} f h p i (suc k) is none has =
    let e : suc k + i ≡ suc (k + i) = omega arith in
    let here = ap (λ d. b (h % 2 ^ d)) (sym e) ∙ has in
    let same = stay f h p i k is none (front_at f h (k + i) (suc (k + i)) (omega arith) here) in
    ap (λ d. h % 2 ^ d) e
    ∙ elim (mod_step h (k + i)) [
      | inl w ↦ w.1 ∙ same
      | inr w ↦
          let child : h % 2 ^ suc (k + i) ≡ p + 2 ^ (k + i) = omega (arith, w.1) in
          absurd (true≢false (sym here ∙ (ap b child ∙ none (k + i) (omega arith) (omega (arith, mod_below h (k + i))))))
    ]

-- a hash of p's range at depth a is located at p, if the set has no child of p at a or above
pub located_active : {r : ℕ} {b : ℕ → Bool} → IsWellFormed r b → (h p a : ℕ) → IsTrue (b p) → a ≤ r → HasNoChildrenFrom p a b → h % 2 ^ a ≡ p → located r h b ≡ p
located_active {r} {b} f h p a has deep none is =
    let w = located_ends f h in
    elim (cases_lt w.0 a) [
      | inl lt ↦ absurd (true≢false (sym (front_at f h (suc w.0) a lt (ap b is ∙ has)) ∙ w.1.stops (omega arith)))
      | inr le ↦
          let e : w.0 - a + a ≡ w.0 = omega arith in
          w.2 ∙ (ap (λ d. h % 2 ^ d) (sym e) ∙ stay f h p a (w.0 - a) is none (ap (λ d. b (h % 2 ^ d)) e ∙ w.1.here))
    ]

pub range_to_located : {r : ℕ} {b : ℕ → Bool} → IsWellFormed r b → (h p d : ℕ) → IsTrue (b p) → IsDepth r p b d → h % 2 ^ d ≡ p → located r h b ≡ p
range_to_located f h p d has w is = located_active f h p d has w.within (no_child f p d w) is

pub located_to_range : {r : ℕ} {b : ℕ → Bool} → IsWellFormed r b → (h p d : ℕ) → IsDepth r p b d → located r h b ≡ p → h % 2 ^ d ≡ p
located_to_range {r} {b} f h p d w is =
    let n = located_ends f h in
    let at : h % 2 ^ n.0 ≡ p = sym n.2 ∙ is in
    elim (cases_lt n.0 d) [
      | inr le ↦ sym (mod_under h d n.0 le) ∙ (ap (λ x. x % 2 ^ d) at ∙ mod-eq_of_lt w.digits)
      | inl lt ↦
          let stops = n.1.stops (omega (arith, w.within)) in
          elim (mod_step h n.0) [
            | inl s ↦ absurd (true≢false (sym n.1.here ∙ (ap b (sym s.1) ∙ stops)))
            | inr s ↦
                let child : h % 2 ^ suc n.0 ≡ p + 2 ^ n.0 = omega (arith, s.1) in
                absurd (true≢false (sym (w.least n.0 lt (omega (arith, mod_below h n.0))) ∙ (ap b (sym child) ∙ stops)))
          ]
    ]

pub range_is_located : {r : ℕ} {b : ℕ → Bool} → IsWellFormed r b → (h p : ℕ) → IsTrue (b p) → (h % 2 ^ depth_of r p b ≡ p) ↔ (located r h b ≡ p)
range_is_located {r} {b} f h p has =
    let w = depth_least f p has in
    (range_to_located f h p (depth_of r p b) has w, located_to_range f h p (depth_of r p b) w)

-- ---- a child more

pub add_formed : {r : ℕ} {b : ℕ → Bool} → IsWellFormed r b → (p d : ℕ) → IsTrue (b p) → IsDepth r p b d → d < r → IsWellFormed r (with_number b (p + 2 ^ d))
add_formed f p d has w deep =
    put_formed f p d w.digits deep has (λ j next low. w.least j (omega arith) low)

-- where the child was not in the set, and with it the set is well formed, its depth was the parent's
pub depth_before : {r : ℕ} {b : ℕ → Bool} → IsWellFormed r b → (p d : ℕ) → p < 2 ^ d → d < r → IsWellFormed r (with_number b (p + 2 ^ d)) → b (p + 2 ^ d) ≡ false → IsDepth r p b d
depth_before {r} {b} f p d fits deep g lacks = record {
  within = omega arith;
  digits = fits;
  free = λ _. lacks;
  least = λ i lt low.
      let q = p + 2 ^ d in
      let e : d - i + i ≡ d = omega arith in
      let has = first_child g p i (d - i) low (ap (λ x. with_number b q (p + 2 ^ x)) e ∙ with_has b q) in
      with_other b q (p + 2 ^ i) (λ same. absurd (omega (arith, (same_top p p i d low fits same).0))) has;
}

pub depth_add_parent : {r : ℕ} {b : ℕ → Bool} → IsWellFormed r b → (p d : ℕ) → IsDepth r p b d → d < r → IsDepth r p (with_number b (p + 2 ^ d)) (suc d)
depth_add_parent {r} {b} f p d w deep =
    let q = p + 2 ^ d in
    let fits : p < 2 ^ suc d = omega (arith, w.digits, pow-suc 2 d) in
    record {
      within = deep;
      digits = fits;
      free = λ lt.
          with_lacks b q (p + 2 ^ suc d) (λ e. absurd (omega (arith, e, pow-suc 2 d, pow_pos d)))
          (no_child f p d w (suc d) (omega arith) fits);
      least = λ i lt low.
          elim (cases_eq i d) [
            | inl e ↦ ap (λ x. with_number b q (p + 2 ^ x)) e ∙ with_has b q
            | inr ne ↦ with_keeps b q (p + 2 ^ i) (w.least i (omega arith) low)
          ];
    }

pub depth_add_child : {r : ℕ} {b : ℕ → Bool} → IsWellFormed r b → (p d : ℕ) → p < 2 ^ d → d < r → b (p + 2 ^ d) ≡ false → IsDepth r (p + 2 ^ d) (with_number b (p + 2 ^ d)) (suc d)
depth_add_child {r} {b} f p d low deep lacks =
    let q = p + 2 ^ d in
    let fits : q < 2 ^ suc d = omega (arith, pow-suc 2 d) in
    record {
      within = deep;
      digits = fits;
      free = λ lt.
          with_lacks b q (q + 2 ^ suc d) (λ e. absurd (omega (arith, e, pow_pos (suc d))))
          (false_from_ne_true (b (q + 2 ^ suc d)) (λ has. true≢false (sym (f.parent q (suc d) fits has) ∙ lacks)));
      least = λ i lt high. absurd (omega (arith, pow_mono {i = i} {j = d} (omega arith)));
    }

-- a child more leaves the depth of each other partition
pub depth_add_other : {r : ℕ} {b : ℕ → Bool} (p d : ℕ) → p < 2 ^ d → (x e : ℕ) → (x ≡ p → ⊥) → IsDepth r x b e → IsDepth r x (with_number b (p + 2 ^ d)) e
depth_add_other {r} {b} p d low x e other w =
    let q = p + 2 ^ d in
    record {
      within = w.within;
      digits = w.digits;
      free = λ lt. with_lacks b q (x + 2 ^ e) (λ same. other ((same_top x p e d w.digits low same).1)) (w.free lt);
      least = λ i lt high. with_keeps b q (x + 2 ^ i) (w.least i lt high);
    }

-- the hashes with the child on their chain move to it, and no other
pub locate_add_in : {r : ℕ} {b : ℕ → Bool} → IsWellFormed r b → (h p d : ℕ) → IsTrue (b p) → IsDepth r p b d → d < r → OnChain r h (p + 2 ^ d) → located r h (with_number b (p + 2 ^ d)) ≡ p + 2 ^ d
locate_add_in {r} {b} f h p d has w deep on =
    range_to_located (add_formed f p d has w deep) h (p + 2 ^ d) (suc d) (with_has b (p + 2 ^ d))
    (depth_add_child f p d w.digits deep (w.free deep)) (chain_to_range p d w.digits on)

pub locate_add_out : {r : ℕ} {b : ℕ → Bool} → IsWellFormed r b → (h p d : ℕ) → IsTrue (b p) → IsDepth r p b d → d < r → (OnChain r h (p + 2 ^ d) → ⊥) → located r h (with_number b (p + 2 ^ d)) ≡ located r h b
locate_add_out {r} {b} f h p d has w deep off =
    let n = located_ends f h in
    let q = p + 2 ^ d in
    located_is (add_formed f p d has w deep) h n.0
    (record {
      within = n.1.within;
      here = with_keeps b q (h % 2 ^ n.0) n.1.here;
      stops = λ lt.
          with_lacks b q (h % 2 ^ suc n.0)
          (λ e. off (record { depth = suc n.0; within = lt; remainder = sym e })) (n.1.stops lt);
    })
    ∙ sym n.2

-- before that they were at the parent
pub locate_before_add : {r : ℕ} {b : ℕ → Bool} → IsWellFormed r b → (h p d : ℕ) → IsTrue (b p) → IsDepth r p b d → OnChain r h (p + 2 ^ d) → located r h b ≡ p
locate_before_add f h p d has w on =
    range_to_located f h p d has w (range_parent h p d w.digits (chain_to_range p d w.digits on))

-- ---- two sets, one within the other

pub depth_same : {r x : ℕ} {b c k : ℕ → Bool} (d : ℕ) → IsWithin b c → IsWithin c k → HasChildren x b k → IsDepth r x b d → IsDepth r x c d
depth_same {r} {x} {b} {c} {k} d low high children w = record {
  within = w.within;
  digits = w.digits;
  free = λ lt.
      false_from_ne_true (c (x + 2 ^ d))
      (λ has. true≢false (sym (children d w.digits (high (x + 2 ^ d) has)) ∙ w.free lt));
  least = λ i lt fits. low (x + 2 ^ i) (w.least i lt fits);
}

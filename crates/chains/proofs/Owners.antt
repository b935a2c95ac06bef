-- Two sets of partitions, one within the other: where the smaller locates a hash, and where the greater does.
use Rattle.std.proofs.Common.{◌≡◌, ℕ, zero, suc, ◌+◌, ◌-◌, ◌%◌, ◌^◌, ◌<◌, ◌≤◌, inl, inr, Bool, false, IsTrue, sym, ap, ◌∙◌, arith, pow-suc, pow_pos, pow_mono, mod-eq_of_lt}
use Rattle.std.proofs.lemmas.Bool.{true≢false, cases_lt, cases_eq, false_from_ne_true}
use Rattle.std.proofs.lemmas.Nat.{leading_top}
use Rattle.std.specs.Int.{bit_at}
use Rattle.chains.specs.Chain.{OnChain}
use Rattle.chains.specs.WellFormed.{IsWellFormed, IsWithin}
use Rattle.chains.specs.Located.{located}
use Rattle.chains.specs.Depth.{depth_of, HasChildren, HasOtherChildren, HasChildrenBelow}
use Rattle.chains.proofs.Remainders.{mod_below, mod_under, mod_step}
use Rattle.chains.proofs.Prefixes.{located_ends, located_is, located_at, located_on, located_has, locate_above}
use Rattle.chains.proofs.Depths.{depth_is, depth_least}

-- the greater set locates the hash where the smaller one does, if it has no further child there on the hash's chain
own_by : {r : ℕ} {b k : ℕ → Bool} → IsWellFormed r b → IsWellFormed r k → IsWithin b k → (h p : ℕ) → located r h b ≡ p → ((n : ℕ) → bit_at h n ≡ 1 → p < 2 ^ n → IsTrue (k (p + 2 ^ n)) → IsTrue (b (p + 2 ^ n))) → located r h k ≡ p
own_by {r} {b} {k} f g sub h p is has =
    let w = located_ends f h in
    let n = w.0 in
    let at : h % 2 ^ n ≡ p = sym w.2 ∙ is in
    located_is g h n
    (record {
      within = w.1.within;
      here = sub (h % 2 ^ n) w.1.here;
      stops = λ lt.
          false_from_ne_true (k (h % 2 ^ suc n))
          (λ t. elim (mod_step h n) [
            | inl s ↦ true≢false (sym w.1.here ∙ (ap b (sym s.1) ∙ w.1.stops lt))
            | inr s ↦
                let child : h % 2 ^ suc n ≡ p + 2 ^ n = omega (arith, s.1) in
                let low : p < 2 ^ n = omega (arith, mod_below h n) in
                true≢false (sym (has n s.0 low (ap k (sym child) ∙ t)) ∙ (ap b (sym child) ∙ w.1.stops lt))
          ]);
    })
    ∙ at

pub own_located : {r : ℕ} {b k : ℕ → Bool} → IsWellFormed r b → IsWellFormed r k → IsWithin b k → (h p : ℕ) → located r h b ≡ p → HasChildren p b k → located r h k ≡ p
own_located f g sub h p is has = own_by f g sub h p is (λ n one low t. has n low t)

pub own_located_moving : {r : ℕ} {b k : ℕ → Bool} → IsWellFormed r b → IsWellFormed r k → IsWithin b k → (h p e : ℕ) → located r h b ≡ p → HasOtherChildren p e b k → bit_at h e ≡ 0 → located r h k ≡ p
own_located_moving f g sub h p e is has unset =
    own_by f g sub h p is (λ n one low t. has n (λ same. absurd (omega (arith, one, ap (bit_at h) same))) low t)

pub own_located_frozen : {r : ℕ} {b k : ℕ → Bool} → IsWellFormed r b → IsWellFormed r k → IsWithin b k → (h p e : ℕ) → located r h b ≡ p → HasOtherChildren p e b k → k (p + 2 ^ e) ≡ false → located r h k ≡ p
own_located_frozen {r} {b} {k} f g sub h p e is has lacks =
    own_by f g sub h p is
    (λ n one low t. has n (λ same. true≢false (sym t ∙ (ap (λ i. k (p + 2 ^ i)) same ∙ lacks))) low t)

-- a hash that is located at p and has bit e set has the child p + 2 ^ e on its chain, if the set has the children below
pub child_on_chain : {r : ℕ} {b : ℕ → Bool} → IsWellFormed r b → (h p e : ℕ) → located r h b ≡ p → e < r → p < 2 ^ e → HasChildrenBelow p e b → bit_at h e ≡ 1 → OnChain r h (p + 2 ^ e)
child_on_chain {r} {b} f h p e is deep low children one =
    let w = located_ends f h in
    let n = w.0 in
    let at : h % 2 ^ n ≡ p = sym w.2 ∙ is in
    elim (cases_lt n e) [
      | inl lt ↦ elim (mod_step h n) [
        | inl s ↦ absurd (true≢false (sym w.1.here ∙ (ap b (sym s.1) ∙ w.1.stops (omega arith))))
        | inr s ↦
            let child : h % 2 ^ suc n ≡ p + 2 ^ n = omega (arith, s.1) in
            let fits : p < 2 ^ n = omega (arith, mod_below h n) in
            absurd (true≢false (sym (children n lt fits) ∙ (ap b (sym child) ∙ w.1.stops (omega arith))))
      ]
      | inr le ↦
          let here : h % 2 ^ e ≡ p = sym (mod_under h e n le) ∙ (ap (λ x. x % 2 ^ e) at ∙ mod-eq_of_lt low) in
          elim (mod_step h e) [
            | inl s ↦ absurd (omega (arith, s.0))
            | inr s ↦ record { depth = suc e; within = deep; remainder = omega (arith, s.1) }
          ]
    ]

pub frozen_child : {r : ℕ} {b : ℕ → Bool} (k : ℕ → Bool) → IsWellFormed r b → (h p e : ℕ) → located r h b ≡ p → HasOtherChildren p e b k → e < r → p < 2 ^ e → HasChildrenBelow p e k → bit_at h e ≡ 1 → OnChain r h (p + 2 ^ e)
frozen_child k f h p e is has deep low children one =
    child_on_chain f h p e is deep low
    (λ i lt fits. has i (λ same. absurd (omega arith)) fits (children i lt fits)) one

-- ---- a set with all children of its elements

reach : {r : ℕ} {s k : ℕ → Bool} → IsWellFormed r k → IsTrue (s 0) → ((p : ℕ) → IsTrue (s p) → HasChildren p s k) → (n i : ℕ) → i < n → IsTrue (k i) → IsTrue (s i)
reach f root children zero i lt has = absurd (omega arith)
reach {r} {s} {k} f root children (suc n) i lt has =
    elim (cases_eq i 0) [
      | inl e ↦ ap s e ∙ root
      | inr ne ↦
          let top = leading_top r i (omega arith) (f.below i has) in
          let j = top.0 in
          let p = i - 2 ^ j in
          let low : p < 2 ^ j = omega (arith, top.3, top.2, pow-suc 2 j) in
          let e : p + 2 ^ j ≡ i = omega (arith, top.2) in
          let child = ap k e ∙ has in
          let below : p < n = omega (arith, pow_pos j) in
          ap s (sym e) ∙ children p (reach f root children n p below (f.parent p j low child)) j low child
    ]

pub children_reach_all : {r : ℕ} {s k : ℕ → Bool} → IsWellFormed r k → IsTrue (s 0) → ((p : ℕ) → IsTrue (s p) → HasChildren p s k) → IsWithin k s
children_reach_all f root children i has = reach f root children (suc i) i (omega arith) has

-- ---- a set of small numbers under a greater radix

pub formed_wide : {r R : ℕ} {b : ℕ → Bool} → r ≤ R → IsWellFormed r b → IsWellFormed R b
formed_wide {r} {R} le f = record {
  below = λ i has. omega (arith, f.below i has, pow_mono {i = r} {j = R} le);
  root = f.root;
  parent = f.parent;
  before = f.before;
}

pub formed_narrow : {r R : ℕ} {b : ℕ → Bool} → ((i : ℕ) → IsTrue (b i) → i < 2 ^ r) → IsWellFormed R b → IsWellFormed r b
formed_narrow below f = record { below = below; root = f.root; parent = f.parent; before = f.before }

pub located_wide : {r R : ℕ} {b : ℕ → Bool} → r ≤ R → IsWellFormed r b → (h : ℕ) → located R h b ≡ located r h b
located_wide {r} {R} {b} le f h =
    let on = located_on r h b in
    located_at (formed_wide le f) h (located r h b) (record { depth = on.depth; within = omega (arith, on.within); remainder = on.remainder }) (located_has f h)
    (λ y ony lt.
    false_from_ne_true (b y)
    (λ has. elim (cases_lt r ony.depth) [
      | inr low ↦ absurd (omega (arith, locate_above f h y (record { depth = ony.depth; within = low; remainder = ony.remainder }) has))
      | inl deep ↦
          let same : y ≡ h % 2 ^ r = sym (mod-eq_of_lt (f.below y has)) ∙ (ap (λ x. x % 2 ^ r) ony.remainder ∙ mod_under h r ony.depth (omega arith)) in
          absurd (omega (arith, locate_above f h y (record { depth = r; within = omega arith; remainder = same }) has))
    ]))

pub depth_wide : {r R : ℕ} {b : ℕ → Bool} → r ≤ R → IsWellFormed r b → (p : ℕ) → IsTrue (b p) → depth_of R p b ≡ depth_of r p b
depth_wide {r} {R} {b} le f p has =
    let w = depth_least f p has in
    let d = depth_of r p b in
    depth_is d (record {
      within = omega (arith, w.within);
      digits = w.digits;
      free = λ lt. elim (cases_lt d r) [
        | inl low ↦ w.free low
        | inr high ↦ false_from_ne_true (b (p + 2 ^ d)) (λ t. absurd (omega (arith, f.below (p + 2 ^ d) t, pow_mono {i = r} {j = d} high)))
      ];
      least = w.least;
    })

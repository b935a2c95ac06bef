-- The chain in a well-formed set, and where a hash is located.
use Rattle.std.proofs.Common.{◌≡◌, ℕ, zero, suc, ◌+◌, ◌-◌, ◌%◌, ◌^◌, ◌<◌, ◌≤◌, inl, inr, Bool, false, IsTrue, sym, refl, ap, ◌∙◌, subst, arith, pow-suc, pow_mono, mod-eq_of_lt}
use Rattle.std.proofs.Math.Nat.{mod-one}
use Rattle.std.proofs.lemmas.Bool.{true≢false, cases_lt}
use Rattle.chains.specs.Chain.{OnChain}
use Rattle.chains.specs.WellFormed.{IsWellFormed, IsWithin}
use Rattle.chains.specs.Located.{run, located, IsLocated}
use Rattle.chains.proofs.RunLengths.{run_le, run_before, run_end, run_is}
use Rattle.chains.proofs.Remainders.{mod_below, mod_under, mod_rises, mod_step}

-- the chain element at each depth
pub on_chain : (r h d : ℕ) → d ≤ r → OnChain r h (h % 2 ^ d)
on_chain r h d le = record { depth = d; within = le; remainder = refl }

pub chain_below : {r h x : ℕ} → OnChain r h x → x < 2 ^ r
chain_below {r} {h} on = omega (arith, on.remainder, mod_rises h on.depth r on.within, mod_below h r)

-- a set that has an element of the chain has those at lower depths
front : {r : ℕ} {b : ℕ → Bool} → IsWellFormed r b → (h i k : ℕ) → IsTrue (b (h % 2 ^ (k + i))) → IsTrue (b (h % 2 ^ i))
front {r} {b} f h i zero has = subst (λ (d : ℕ). IsTrue (b (h % 2 ^ d))) (omega arith) has
front {r} {b} f h i (suc k) has =
    let e : suc k + i ≡ suc (k + i) = omega arith in
    let here = subst (λ (d : ℕ). IsTrue (b (h % 2 ^ d))) e has in
    front f h i k (elim (mod_step h (k + i)) [
      | inl w ↦ ap b (sym w.1) ∙ here
      | inr w ↦ f.parent (h % 2 ^ (k + i)) (k + i) (mod_below h (k + i)) (ap b (sym w.1) ∙ here)
    ])

pub front_at : {r : ℕ} {b : ℕ → Bool} → IsWellFormed r b → (h i j : ℕ) → i ≤ j → IsTrue (b (h % 2 ^ j)) → IsTrue (b (h % 2 ^ i))
front_at {r} {b} f h i j le has =
    let e : j - i + i ≡ j = omega arith in
    front f h i (j - i) (ap (λ d. b (h % 2 ^ d)) e ∙ has)

-- an element of the chain that is not above another has a depth that is not above the other's
pub shallower : {r h : ℕ} (x y : ℕ) (ox : OnChain r h x) → OnChain r h y → y ≤ x → (j : ℕ) × (j ≤ ox.depth) × (y ≡ h % 2 ^ j)
shallower {r} {h} x y ox oy le =
    elim (cases_lt ox.depth oy.depth) [
      | inl lt ↦ (ox.depth, omega arith, omega (arith, ox.remainder, oy.remainder, mod_rises h ox.depth oy.depth (omega arith)))
      | inr down ↦ (oy.depth, down, oy.remainder)
    ]

pub chain_prefix : {r : ℕ} {b : ℕ → Bool} → IsWellFormed r b → (h x y : ℕ) → OnChain r h x → OnChain r h y → y ≤ x → IsTrue (b x) → IsTrue (b y)
chain_prefix {r} {b} f h x y ox oy le has =
    let w = shallower x y ox oy le in
    ap b w.2 ∙ front_at f h w.0 ox.depth w.1 (ap b (sym ox.remainder) ∙ has)

-- where the longest front of the chain in the set ends
pub record Ends (r h : ℕ) (b : ℕ → Bool) (n : ℕ) : Type 0 where
  pub within : n ≤ r
  pub here : IsTrue (b (h % 2 ^ n))
  pub stops : n < r → b (h % 2 ^ suc n) ≡ false

abbrev tests : ℕ → (ℕ → Bool) → ℕ → Bool
tests h b i = b (h % 2 ^ suc i)

here_at : (r h : ℕ) (b : ℕ → Bool) → IsTrue (b 0) → (n : ℕ) → n ≤ run r (tests h b) → IsTrue (b (h % 2 ^ n))
here_at r h b root zero le = ap b (mod-one h) ∙ root
here_at r h b root (suc n) le = run_before r (tests h b) n le

ends_at_run : (r h : ℕ) (b : ℕ → Bool) → IsTrue (b 0) → Ends r h b (run r (tests h b))
ends_at_run r h b root = record {
  within = run_le r (tests h b);
  here = here_at r h b root (run r (tests h b)) (omega arith);
  stops = run_end r (tests h b);
}

located_at_run : (r h : ℕ) (b : ℕ → Bool) → located r h b ≡ h % 2 ^ run r (tests h b)
unfolding located
located_at_run r h b = refl

pub located_ends : {r : ℕ} {b : ℕ → Bool} → IsWellFormed r b → (h : ℕ) → (n : ℕ) × Ends r h b n × (located r h b ≡ h % 2 ^ n)
located_ends {r} {b} f h = (run r (tests h b), ends_at_run r h b f.root, located_at_run r h b)

pub located_is : {r : ℕ} {b : ℕ → Bool} → IsWellFormed r b → (h n : ℕ) → Ends r h b n → located r h b ≡ h % 2 ^ n
located_is {r} {b} f h n e =
    located_at_run r h b
    ∙ ap (λ d. h % 2 ^ d) (run_is r (tests h b) n e.within (λ i lt. front_at f h (suc i) n lt e.here) e.stops)

pub located_on : (r h : ℕ) (b : ℕ → Bool) → OnChain r h (located r h b)
located_on r h b = record { depth = run r (tests h b); within = run_le r (tests h b); remainder = located_at_run r h b }

pub located_has : {r : ℕ} {b : ℕ → Bool} → IsWellFormed r b → (h : ℕ) → IsTrue (b (located r h b))
located_has {r} {b} f h = let w = located_ends f h in ap b w.2 ∙ w.1.here

pub locate_above : {r : ℕ} {b : ℕ → Bool} → IsWellFormed r b → (h x : ℕ) → OnChain r h x → IsTrue (b x) → x ≤ located r h b
locate_above {r} {b} f h x on has =
    let w = located_ends f h in
    elim (cases_lt w.0 on.depth) [
      | inl lt ↦ absurd (true≢false (sym (front_at f h (suc w.0) on.depth lt (ap b (sym on.remainder) ∙ has)) ∙ w.1.stops (omega (arith, on.within))))
      | inr le ↦ omega (arith, on.remainder, w.2, mod_rises h on.depth w.0 le)
    ]

pub locate_grows : {r : ℕ} {b k : ℕ → Bool} → IsWellFormed r b → IsWellFormed r k → IsWithin b k → (h : ℕ) → located r h b ≤ located r h k
locate_grows {r} {b} {k} f g sub h = locate_above g h (located r h b) (located_on r h b) (sub (located r h b) (located_has f h))

-- the definition's own words
pub located_greatest : (r h : ℕ) (b : ℕ → Bool) → IsTrue (b 0) → IsLocated r h b (located r h b)
located_greatest r h b root =
    let n = run r (tests h b) in
    let is = located_at_run r h b in
    let e = ends_at_run r h b root in
    record {
      on = located_on r h b;
      held = λ x on le.
          let low = shallower (located r h b) x (record { depth = n; within = run_le r (tests h b); remainder = is }) on le in
          ap b low.2 ∙ here_at r h b root low.0 low.1;
      greatest = λ x on held.
          elim (cases_lt n on.depth) [
            | inl lt ↦
                let next = h % 2 ^ suc n in
                let le : next ≤ x = omega (arith, on.remainder, mod_rises h (suc n) on.depth lt) in
                absurd (true≢false (sym (held next (on_chain r h (suc n) (omega (arith, on.within))) le) ∙ e.stops (omega (arith, on.within))))
            | inr le ↦ omega (arith, on.remainder, is, mod_rises h on.depth n le)
          ];
    }

-- and it names one number
pub located_unique : {r h : ℕ} {b : ℕ → Bool} (x y : ℕ) → IsLocated r h b x → IsLocated r h b y → x ≡ y
located_unique x y one two = omega (arith, one.greatest y two.on two.held, two.greatest x one.on one.held)

-- an element in the set is where the hash is located, if no chain element above it is in the set
pub located_at : {r : ℕ} {b : ℕ → Bool} → IsWellFormed r b → (h x : ℕ) → OnChain r h x → IsTrue (b x) → ((y : ℕ) → OnChain r h y → x < y → b y ≡ false) → located r h b ≡ x
located_at {r} {b} f h x on has none =
    elim (cases_lt x (located r h b)) [
      | inl lt ↦ absurd (true≢false (sym (located_has f h) ∙ none (located r h b) (located_on r h b) lt))
      | inr le ↦ omega (arith, locate_above f h x on has)
    ]

-- a number below 2 ^ (d + 1) with the power 2 ^ d is on the chain exactly where it is the remainder there
pub chain_to_range : {r h : ℕ} (p d : ℕ) → p < 2 ^ d → OnChain r h (p + 2 ^ d) → h % 2 ^ suc d ≡ p + 2 ^ d
chain_to_range {r} {h} p d lt on =
    elim (cases_lt d on.depth) [
      | inl le ↦
          let fits : p + 2 ^ d < 2 ^ suc d = omega (arith, pow-suc 2 d) in
          sym (mod_under h (suc d) on.depth le) ∙ ap (λ x. x % 2 ^ suc d) (sym on.remainder) ∙ mod-eq_of_lt fits
      | inr le ↦ absurd (omega (arith, on.remainder, mod_below h on.depth, pow_mono {i = on.depth} {j = d} le))
    ]

pub range_to_chain : {r : ℕ} (h p d : ℕ) → d < r → h % 2 ^ suc d ≡ p + 2 ^ d → OnChain r h (p + 2 ^ d)
range_to_chain h p d lt e = record { depth = suc d; within = lt; remainder = sym e }

-- the remainder one digit shorter
pub range_parent : (h p d : ℕ) → p < 2 ^ d → h % 2 ^ suc d ≡ p + 2 ^ d → h % 2 ^ d ≡ p
range_parent h p d lt e =
    elim (mod_step h d) [
      | inl w ↦ absurd (omega (arith, w.1, mod_below h d))
      | inr w ↦ omega (arith, w.1)
    ]

-- What holds of each number of a bitmap, by its items and by its numbers; and whether a bitmap is well formed.
use Rattle.std.proofs.Common.{◌≡◌, ◌∙◌, sym, ap, refl, ℕ, zero, suc, ◌+◌, ◌^◌, ◌<◌, not, Bool, true, false, inl, inr, nat_lt, arith}
use Rattle.std.specs.Prelude.{◌||◌}
use Rattle.std.specs.List.{list_all}
use Rattle.std.specs.FinSet as set
use Rattle.std.specs.Ordering.{nat_cmp, eq_by_cmp}
use Rattle.std.specs.Cmp.{nat_cmp_total, unsigned_tied}
use Rattle.std.proofs.lemmas.Cmp.{eq_by_cmp_equiv}
use Rattle.std.proofs.lemmas.Bool.{and_parts, and_from, eqb-true, false_from_ne_true, true_from_ne_false, lt-ltb, ltb-true}
use Rattle.std.proofs.lemmas.Map.Keys.{any_passes_from_place}
use Rattle.bitmap.specs.Bits.{Bits, has}
use Rattle.chains.specs.WellFormed.{IsWellFormed, IsMissing}
use Rattle.chains.proofs.Sets.{formed_misses, formed_from}
use Rattle.mds_base.proofs.Filters.{any_true, all_true, all_from}
use Rattle.world.specs.Events.{all_below, is_well_formed}
use Rattle.world.proofs.Choices.{nat_or_apart}

pub same_key : (a b : ℕ) → eq_by_cmp nat_cmp a b ≡ true → a ≡ b
same_key a b e = eqb-true a b (sym (unsigned_tied a b) ∙ e)

pub all_items : (p : ℕ → Bool) (bits : Bits) → ((q : ℕ) → has bits q ≡ true → p q ≡ true) → list_all p (set.items bits) ≡ true
all_items p bits each =
    all_from p (set.items bits) (λ k x at. each x (set.contains-items bits x ∙ any_passes_from_place (eq_by_cmp nat_cmp x) (set.items bits) k x at ((eq_by_cmp_equiv nat_cmp_total).refl x)))

pub each_item : (p : ℕ → Bool) (bits : Bits) → list_all p (set.items bits) ≡ true → (q : ℕ) → has bits q ≡ true → p q ≡ true
each_item p bits all q there =
    let i = any_true (eq_by_cmp nat_cmp q) (set.items bits) (sym (set.contains-items bits q) ∙ there) in
    ap p (same_key q i.item i.good) ∙ all_true p (set.items bits) all i.place i.item i.is

pub not_all_items : (p : ℕ → Bool) (bits : Bits) (q : ℕ) → has bits q ≡ true → p q ≡ false → list_all p (set.items bits) ≡ false
not_all_items p bits q there fails =
    false_from_ne_true (list_all p (set.items bits)) (λ all. let t : p q ≡ true = each_item p bits all q there in cc)

-- Well-formed bitmaps

below_at : (test : ℕ → Bool) (n : ℕ) → all_below test n ≡ true → (k : ℕ) → k < n → test k ≡ true
unfolding all_below
below_at test zero all k lt = absurd (omega arith)
below_at test (suc n) all k lt =
    let c = and_parts (test n) (all_below test n) all in
    elim (nat_or_apart k n) [
      | inl e ↦ ap test e ∙ c.0
      | inr e ↦ below_at test n c.1 k (omega (arith, e))
    ]

below_from : (test : ℕ → Bool) (n : ℕ) → ((k : ℕ) → k < n → test k ≡ true) → all_below test n ≡ true
unfolding all_below
below_from test zero each = refl
below_from test (suc n) each = and_from (test n) (all_below test n) (each n (omega arith)) (below_from test n (λ k lt. each k (omega (arith, lt))))

implied : (a b : Bool) → (not a || b) ≡ true → a ≡ true → b ≡ true
implied true b e t = e
implied false b e t = cc

implies : (a b : Bool) → (a ≡ true → b ≡ true) → (not a || b) ≡ true
implies true b f = f refl
implies false b f = refl

module _ (radix : ℕ) (bits : Bits) where
  -- what a number of a well-formed bitmap requires
  abbrev requires : ℕ → ℕ → Bool
  requires j m = not (has bits (m + 2 ^ j)) || has bits m

  none_missing : has bits 0 ≡ true → all_below (λ j. all_below (requires j) (2 ^ suc j)) radix ≡ true → (m : ℕ) → IsMissing radix (has bits) m → ⊥
  none_missing root all m (lacks, inl e) = let t : has bits m ≡ true = ap (has bits) e ∙ root in cc
  none_missing root all m (lacks, inr (j, deep, low, there)) =
      let row = below_at (λ i. all_below (requires i) (2 ^ suc i)) radix all j deep in
      let t : has bits m ≡ true = implied (has bits (m + 2 ^ j)) (has bits m) (below_at (requires j) (2 ^ suc j) row m low) there in
      cc

  pub formed_by : is_well_formed radix bits ≡ true → IsWellFormed radix (has bits)
  unfolding is_well_formed
  formed_by e =
      let c = and_parts (list_all (λ i. nat_lt i (2 ^ radix)) (set.items bits)) _ e in
      let d = and_parts (has bits 0) _ c.1 in
      formed_from (λ i there. ltb-true i (2 ^ radix) (each_item (λ x. nat_lt x (2 ^ radix)) bits c.0 i there)) (none_missing d.0 d.1)

  pub formed_test : IsWellFormed radix (has bits) → is_well_formed radix bits ≡ true
  unfolding is_well_formed
  formed_test f =
      and_from (list_all (λ i. nat_lt i (2 ^ radix)) (set.items bits)) _
      (all_items (λ i. nat_lt i (2 ^ radix)) bits (λ i there. lt-ltb i (2 ^ radix) (f.below i there)))
      (and_from (has bits 0) _ f.root
      (below_from (λ j. all_below (requires j) (2 ^ suc j)) radix (λ j deep. below_from (requires j) (2 ^ suc j) (λ m low.
      implies (has bits (m + 2 ^ j)) (has bits m) (λ there. true_from_ne_false (has bits m) (λ lacks. formed_misses f m (lacks, inr (j, deep, low, there))))))))

-- Sets that are kept as lists of keys, for an order of keys that is total and tells keys apart.
use Rattle.std.proofs.Common.{◌≡◌, ◌∙◌, sym, ap, refl, ℕ, List, Bool, true, false, cond}
use Rattle.std.specs.Prelude.{◌||◌, ◌&&◌, not, ◌⊎◌}
use Rattle.std.specs.declared.cmp.Ordering.{Ordering}
use Rattle.std.specs.Ordering.{nat_cmp, eq_by_cmp}
use Rattle.std.specs.Cmp.{IsTotalOrder, eq_by_cmp_equiv, nat_cmp_total}
use Rattle.std.specs.FinSet as set
use Rattle.std.specs.FinSet.{FinSet, IsAntisymmetric}
use Rattle.std.specs.List.{list_any}
use Rattle.std.specs.BTreeMap.{is_at}
use Rattle.std.proofs.lemmas.Cmp.{then_total, on_total}
use Rattle.std.proofs.lemmas.Map.Lookups.{exact_pairs, exact_unsigned}
use Rattle.mds_base.proofs.Maps.{apart}
use Rattle.node_core.proofs.Keys.{same_or_apart}
use Rattle.simulation.specs.Shows.{waiting_cmp}

pub waiting_total : IsTotalOrder waiting_cmp
waiting_total = then_total (on_total (λ (p : ℕ × ℕ). p.0) nat_cmp_total) (on_total (λ (p : ℕ × ℕ). p.1) nat_cmp_total)

pub exact_waiting : IsAntisymmetric waiting_cmp
exact_waiting = exact_pairs nat_cmp nat_cmp exact_unsigned exact_unsigned

some_or : (b x : Bool) → cond b true x ≡ (b || x)
some_or true x = refl
some_or false x = refl

none_and : (b x : Bool) → cond b false x ≡ (not b && x)
none_and true x = refl
none_and false x = refl

module _ {K : Type 0} {R : K → K → Ordering} (total : IsTotalOrder R) (exact : IsAntisymmetric R) where
  -- keys of which one is new make the set with it
  pub one_in : (ks ms : List K) (k : K) → ((q : K) → list_any (is_at (R q)) ms ≡ cond (is_at (R k) q) true (list_any (is_at (R q)) ks)) → set.from_list {R = R} ms ≡ set.insert (set.from_list ks) k
  one_in ks ms k h = set.same_set total exact _ _ (λ q.
      set.contains-from_list total ms q ∙ h q ∙ some_or (eq_by_cmp R k q) (list_any (is_at (R q)) ks) ∙ ap (λ b. b || list_any (is_at (R q)) ks) ((eq_by_cmp_equiv total).symm k q)
      ∙ sym (set.contains-insert total (set.from_list ks) k q ∙ ap (λ b. eq_by_cmp R q k || b) (set.contains-from_list total ks q)))

  -- keys of which one is gone make the set without it
  pub one_out : (ks ms : List K) (k : K) → ((q : K) → list_any (is_at (R q)) ms ≡ cond (is_at (R k) q) false (list_any (is_at (R q)) ks)) → set.from_list {R = R} ms ≡ set.remove (set.from_list ks) k
  one_out ks ms k h = set.same_set total exact _ _ (λ q.
      set.contains-from_list total ms q ∙ h q ∙ none_and (eq_by_cmp R k q) (list_any (is_at (R q)) ks) ∙ ap (λ b. not b && list_any (is_at (R q)) ks) ((eq_by_cmp_equiv total).symm k q)
      ∙ sym (set.contains-remove total (set.from_list ks) k q ∙ ap (λ b. not (eq_by_cmp R q k) && b) (set.contains-from_list total ks q)))

  pub insert_here : (s : FinSet R) (k : K) → set.contains (set.insert s k) k ≡ true
  insert_here s k = set.contains-insert total s k k ∙ ap (λ b. b || set.contains s k) ((eq_by_cmp_equiv total).refl k)

  pub insert_apart : (s : FinSet R) (k q : K) → (q ≡ k → ⊥) → set.contains (set.insert s k) q ≡ set.contains s q
  insert_apart s k q differ = set.contains-insert total s k q ∙ ap (λ b. b || set.contains s q) (apart exact q k differ)

  pub remove_here : (s : FinSet R) (k : K) → set.contains (set.remove s k) k ≡ false
  remove_here s k = set.contains-remove total s k k ∙ ap (λ b. not b && set.contains s k) ((eq_by_cmp_equiv total).refl k)

  pub remove_apart : (s : FinSet R) (k q : K) → (q ≡ k → ⊥) → set.contains (set.remove s k) q ≡ set.contains s q
  remove_apart s k q differ = set.contains-remove total s k q ∙ ap (λ b. not b && set.contains s q) (apart exact q k differ)

pub number_or_apart : (q k : ℕ) → (q ≡ k) ⊎ (q ≡ k → ⊥)
number_or_apart = same_or_apart nat_cmp_total exact_unsigned

-- Maps that are kept as lists of entries, for any order of keys that is total and tells keys apart.
use Rattle.std.proofs.Common.{◌≡◌, ◌∙◌, sym, ap, refl, List, [], ◌∷◌, Bool, false, cond, Some, None}
use Rattle.std.specs.declared.cmp.Ordering.{Ordering}
use Rattle.std.specs.declared.cmp.Ordering.TheVariants.{Less, Equal, Greater}
use Rattle.std.specs.Ordering.{eq_by_cmp, is_eq}
use Rattle.std.specs.Cmp.{IsTotalOrder, eq_by_cmp_equiv}
use Rattle.std.specs.FinMap.{FinMap, IsAntisymmetric, get, insert, remove, empty, entries, retain_keys, from_entries, from_sorted, find, put, get-from_entries, get-insert, get-remove, get-entries, get-retain_keys, get-from_sorted, entries-insert, entries-from_sorted, entries_sorted, len-entries, len-empty, same_map}
use Rattle.std.specs.FinMap.Entries.{by_order, is_sorted-where_key, find-where_key}
use Rattle.std.specs.List.{AllByRecursion, filter}
use Rattle.std.specs.List.Sorted.{IsStrictlySortedBy}
use Rattle.std.proofs.lemmas.List.{nil_from_length}
use Rattle.std.proofs.lemmas.Map.Keys.{sorted_head, sorted_tail}
use Rattle.std.specs.Map.{lookup, keys_of}
use Rattle.std.specs.BTreeMap.{is_at}

-- keys that differ are no ties
pub apart : {K : Type 0} {R : K → K → Ordering} → IsAntisymmetric R → (q k : K) → (q ≡ k → ⊥) → eq_by_cmp R q k ≡ false
apart {R = R} exact q k differ =
    elim (R q k) as (λ r. R q k ≡ r → is_eq r ≡ false) [
      | Less ↦ λ _. refl
      | Equal ↦ λ e. absurd (differ (exact q k e))
      | Greater ↦ λ _. refl
    ] refl

module _ {K X : Type 0} {R : K → K → Ordering} (total : IsTotalOrder R) (exact : IsAntisymmetric R) where
  pub insert_apart : (m : FinMap R X) (k : K) (v : X) (q : K) → (q ≡ k → ⊥) → get (insert m k v) q ≡ get m q
  insert_apart m k v q differ = get-insert total m k v q ∙ ap (λ b. cond b (Some v) (get m q)) (apart exact q k differ)

  pub remove_apart : (m : FinMap R X) (k q : K) → (q ≡ k → ⊥) → get (remove m k) q ≡ get m q
  remove_apart m k q differ = get-remove total m k q ∙ ap (λ b. cond b None (get m q)) (apart exact q k differ)

  find_key : (es : List (K × X)) (q : K) → find R q es ≡ lookup (is_at (R q)) es
  find_key [] q = refl
  find_key (e ∷ es) q = ap (cond (is_at (R q) e.0) (Some e.1)) (find_key es q)

  -- what the map that entries make has at a key is what a search of them finds
  pub get_entries : (es : List (K × X)) (q : K) → get (from_entries {R = R} es) q ≡ lookup (is_at (R q)) es
  get_entries es q = get-from_entries total es q ∙ find_key es q

  -- entries that differ at one key make maps that differ there
  pub one_put : (es fs : List (K × X)) (k : K) (v : X) → ((q : K) → lookup (is_at (R q)) fs ≡ cond (is_at (R k) q) (Some v) (lookup (is_at (R q)) es)) → from_entries {R = R} fs ≡ insert (from_entries es) k v
  one_put es fs k v h = same_map total exact _ _ (λ q.
      get_entries fs q ∙ h q ∙ ap (λ b. cond b (Some v) (lookup (is_at (R q)) es)) ((eq_by_cmp_equiv total).symm k q)
      ∙ sym (get-insert total (from_entries es) k v q ∙ ap (cond (is_at (R q) k) (Some v)) (get_entries es q)))

  pub one_taken : (es fs : List (K × X)) (k : K) → ((q : K) → lookup (is_at (R q)) fs ≡ cond (is_at (R k) q) None (lookup (is_at (R q)) es)) → from_entries {R = R} fs ≡ remove (from_entries es) k
  one_taken es fs k h = same_map total exact _ _ (λ q.
      get_entries fs q ∙ h q ∙ ap (λ b. cond b None (lookup (is_at (R q)) es)) ((eq_by_cmp_equiv total).symm k q)
      ∙ sym (get-remove total (from_entries es) k q ∙ ap (cond (is_at (R q) k) None) (get_entries es q)))

  put_below : (k : K) (v : X) (es : List (K × X)) → AllByRecursion (λ y. R k y ≡ Less) (keys_of es) → put R k v es ≡ (k, v) ∷ es
  put_below k v [] below = refl
  put_below k v (e ∷ es) below = ap (λ r. by_order r ((k, v) ∷ e ∷ es) ((e.0, v) ∷ es) (e ∷ put R k v es)) below.0

  -- entries whose keys rise are those of the map that they make
  pub entries_of_sorted : (es : List (K × X)) → IsStrictlySortedBy R (keys_of es) → entries (from_entries {R = R} es) ≡ es
  entries_of_sorted [] sorted = nil_from_length _ (sym (len-entries (empty {R = R})) ∙ len-empty R X)
  entries_of_sorted (e ∷ es) sorted =
      entries-insert total (from_entries es) e.0 e.1
      ∙ ap (put R e.0 e.1) (entries_of_sorted es (sorted_tail R e.0 (keys_of es) sorted))
      ∙ put_below e.0 e.1 es (sorted_head R e.0 (keys_of es) sorted)

  -- the entries whose keys pass a test, in their order
  pub entries-retain_keys : (m : FinMap R X) (p : K → Bool) → entries (retain_keys m p) ≡ filter (λ e. p e.0) (entries m)
  entries-retain_keys m p =
      let sorted = is_sorted-where_key R p (entries m) (entries_sorted m) in
      ap entries (same_map total exact (retain_keys m p) (from_sorted (filter (λ e. p e.0) (entries m))) (λ q.
      get-retain_keys m p q (λ x tied. ap p (sym (exact q x tied)))
      ∙ ap (λ found. cond (p q) found None) (get-entries m q)
      ∙ sym (get-from_sorted R (filter (λ e. p e.0) (entries m)) q sorted ∙ find-where_key R p q (λ x tied. ap p (sym (exact q x tied))) (entries m))))
      ∙ entries-from_sorted R (filter (λ e. p e.0) (entries m)) sorted

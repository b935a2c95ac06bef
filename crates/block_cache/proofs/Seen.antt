-- Entries by buffers, seen as entries by bytes: what the words on lists do to one they do to the other.
use Rattle.std.proofs.Common.{◌≡◌, ◌∙◌, sym, ap, refl, ℕ, zero, suc, ◌-◌, Bool, true, false, cond, List, [], ◌∷◌, take, map, filter, Option, None, Some}
use Rattle.std.specs.List.{AllByRecursion, slice_get}
use Rattle.std.specs.Map.{lookup, lookup_entry, remove_entry}
use Rattle.std.specs.Option.{option_map, option_map_or}
use Rattle.std.proofs.lemmas.List.{take-map}
use Rattle.lru.specs.LruCache.{LruCache, lru_cache, promoted, put_entries}

some_cond : {X Y : Type 0} (f : X → Y) (b : Bool) (x : X) (o : Option X) → option_map f (cond b (Some x) o) ≡ cond b (Some (f x)) (option_map f o)
some_cond f true x o = refl
some_cond f false x o = refl

module _ {K X Y : Type 0} (f : X → Y) where
  abbrev pub seen_entry : K × X → K × Y
  seen_entry e = (e.0, f e.1)

  abbrev pub seen : List (K × X) → List (K × Y)
  seen es = map seen_entry es

  entry_cond : (b : Bool) (e : K × X) (o : Option (K × X)) → option_map seen_entry (cond b (Some e) o) ≡ cond b (Some (seen_entry e)) (option_map seen_entry o)
  entry_cond true e o = refl
  entry_cond false e o = refl

  list_cond : (b : Bool) (es fs : List (K × X)) → seen (cond b es fs) ≡ cond b (seen es) (seen fs)
  list_cond true es fs = refl
  list_cond false es fs = refl

  pub seen_at : (es : List (K × X)) (i : ℕ) (e : K × X) → slice_get es i ≡ Some e → slice_get (seen es) i ≡ Some (seen_entry e)
  seen_at [] i e at = absurd cc
  seen_at (x ∷ es) zero e at = ap (option_map seen_entry) at
  seen_at (x ∷ es) (suc i) e at = seen_at es i e at

  pub all_seen : (P : K → Type 0) (es : List (K × X)) → AllByRecursion (λ e. P e.0) es → AllByRecursion (λ e. P e.0) (seen es)
  all_seen P [] all = tt
  all_seen P (e ∷ es) all = (all.0, all_seen P es all.1)

  module _ (test : K → Bool) where
    pub lookup_seen : (es : List (K × X)) → option_map f (lookup test es) ≡ lookup test (seen es)
    lookup_seen [] = refl
    lookup_seen (e ∷ es) = some_cond f (test e.0) e.1 (lookup test es) ∙ ap (cond (test e.0) (Some (f e.1))) (lookup_seen es)

    entry_seen : (es : List (K × X)) → option_map seen_entry (lookup_entry test es) ≡ lookup_entry test (seen es)
    entry_seen [] = refl
    entry_seen (e ∷ es) = entry_cond (test e.0) e (lookup_entry test es) ∙ ap (cond (test e.0) (Some (seen_entry e))) (entry_seen es)

    pub remove_seen : (es : List (K × X)) → seen (remove_entry test es) ≡ remove_entry test (seen es)
    remove_seen [] = refl
    remove_seen (e ∷ es) = list_cond (test e.0) es (e ∷ remove_entry test es) ∙ ap (λ fs. cond (test e.0) (seen es) (seen_entry e ∷ fs)) (remove_seen es)

    pub promoted_seen : (es : List (K × X)) → seen (promoted test es) ≡ promoted test (seen es)
    promoted_seen es =
        (elim (lookup_entry test es) as (λ o. seen (option_map_or (λ e. e ∷ remove_entry test es) o es) ≡ option_map_or (λ e. e ∷ remove_entry test (seen es)) (option_map seen_entry o) (seen es)) [
          | None ↦ refl
          | Some e ↦ ap (λ fs. seen_entry e ∷ fs) (remove_seen es)
        ])
        ∙ ap (λ o. option_map_or (λ e. e ∷ remove_entry test (seen es)) o (seen es)) (entry_seen es)

  pub put_seen : (eq : K → K → Bool) (c : LruCache K X) (k : K) (v : X) → seen (put_entries eq c k v) ≡ put_entries eq (lru_cache (seen c.entries) c.cap) k (f v)
  put_seen eq c k v =
      (elim (lookup_entry (eq k) c.entries) as (λ o. seen (option_map_or (λ e. (e.0, v) ∷ remove_entry (eq k) c.entries) o ((k, v) ∷ take (c.cap - 1) c.entries))
      ≡ option_map_or (λ e. (e.0, f v) ∷ remove_entry (eq k) (seen c.entries)) (option_map seen_entry o) ((k, f v) ∷ take (c.cap - 1) (seen c.entries))) [
        | None ↦ ap (λ fs. (k, f v) ∷ fs) (sym (take-map seen_entry (c.cap - 1) c.entries))
        | Some e ↦ ap (λ fs. (e.0, f v) ∷ fs) (remove_seen (eq k) c.entries)
      ])
      ∙ ap (λ o. option_map_or (λ e. (e.0, f v) ∷ remove_entry (eq k) (seen c.entries)) o ((k, f v) ∷ take (c.cap - 1) (seen c.entries))) (entry_seen (eq k) c.entries)

  pub filter_seen : (p : K → Bool) (es : List (K × X)) → seen (filter (λ e. p e.0) es) ≡ filter (λ e. p e.0) (seen es)
  filter_seen p [] = refl
  filter_seen p (e ∷ es) = list_cond (p e.0) (e ∷ filter (λ e. p e.0) es) (filter (λ e. p e.0) es) ∙ ap (λ fs. cond (p e.0) (seen_entry e ∷ fs) fs) (filter_seen p es)

-- A list of entries by keys, seen as one of entries by places: what the words on lists do to one they do to the other.
use Rattle.std.proofs.Common.{◌≡◌, ◌∙◌, sym, ap, refl, ℕ, zero, suc, ◌+◌, ◌-◌, ◌^◌, ◌<◌, Bool, true, false, cond, List, [], ◌∷◌, ◌++◌, take, drop, map, Option, Some, None, IfSome, subst, nat_eq}
use Rattle.std.specs.Prelude.{◌==◌}
use Rattle.std.specs.Bool.{Decides, one_answer}
use Rattle.std.specs.Cmp.Lexicographic.{pointwise}
use Rattle.std.specs.Int.{w64, to_be_bytes, from_be_bytes}
use Rattle.std.specs.Map.{lookup, lookup_entry, remove_entry}
use Rattle.std.specs.Option.{option_map, option_map_or}
use Rattle.std.proofs.lemmas.Bool.{and_parts, and_from, eqb-true, eq-eqb}
use Rattle.std.proofs.lemmas.Bool.Decides.{Decides-eqb}
use Rattle.std.proofs.lemmas.List.{take-map}
use Rattle.std.proofs.lemmas.Nat.{from_be_bytes-to_be_bytes_8}
use Rattle.std.proofs.lemmas.Slice.Eq.{slice_eq-Decides}
use Rattle.lru.specs.LruCache.{LruCache, lru_cache, promoted, put_entries}
use Rattle.mds_base.specs.Entries.{Place}
use Rattle.lease_cache.specs.Cache.{is_place}
use Rattle.lease_cache.specs.Keys.{key_of, place_of, IsKey, by_places, AreKeyed}

same_bytes : (a b : List ℕ) → Decides (pointwise nat_eq a b) (a ≡ b)
same_bytes a b = slice_eq-Decides Decides-eqb a b (pointwise nat_eq a b) refl

pub one_place : (a b : Place) → is_place a b ≡ true → a ≡ b
one_place a b same =
    let parts = and_parts (a.0 == b.0) (pointwise nat_eq a.1 b.1) same in
    let dirs = eqb-true a.0 b.0 parts.0 in
    let names = (same_bytes a.1 b.1).0 parts.1 in
    λ i. (dirs i, names i)

pub place_itself : (a : Place) → is_place a a ≡ true
place_itself a = and_from (a.0 == a.0) (pointwise nat_eq a.1 a.1) (eq-eqb a.0 a.0 refl) ((same_bytes a.1 a.1).1 refl)

-- the place that its key says
pub place_back : (place : Place) → place.0 < 2 ^ 64 → place_of (key_of place) ≡ place
place_back place fits = let dir : from_be_bytes w64 (take 8 (key_of place)) ≡ place.0 = from_be_bytes-to_be_bytes_8 place.0 fits in λ i. (dir i, place.1)

-- two keys are one where their places are
keys_agree : (a b : List ℕ) → IsKey a → IsKey b → pointwise nat_eq a b ≡ is_place (place_of a) (place_of b)
keys_agree a b ka kb = one_answer (pointwise nat_eq a b) (is_place (place_of a) (place_of b)) (same_bytes a b)
    (λ same. sym ka ∙ ap key_of (one_place (place_of a) (place_of b) same) ∙ kb, λ e. subst (λ k. is_place (place_of a) (place_of k) ≡ true) e (place_itself (place_of a)))

module _ {K : Type 0} (bytes : K → List ℕ) where
  abbrev pub is_key : List ℕ → K → Bool
  is_key key k = pointwise nat_eq key (bytes k)

  abbrev pub same_key : K → K → Bool
  same_key a b = pointwise nat_eq (bytes a) (bytes b)

module _ {K X : Type 0} (bytes : K → List ℕ) where
  abbrev pub by_place : K × X → Place × X
  by_place e = (place_of (bytes e.0), e.1)

  module _ (key : List ℕ) (keyed : IsKey key) where
    pub lookup_by : (es : List (K × X)) → AreKeyed bytes es → lookup (is_key bytes key) es ≡ lookup (is_place (place_of key)) (by_places bytes es)
    lookup_by [] are = refl
    lookup_by (e ∷ es) are =
        ap (λ b. cond b (Some e.1) (lookup (is_key bytes key) es)) (keys_agree key (bytes e.0) keyed are.0)
        ∙ ap (cond (is_place (place_of key) (place_of (bytes e.0))) (Some e.1)) (lookup_by es are.1)

    mapped_cond : (b : Bool) (e : K × X) (o : Option (K × X)) → option_map by_place (cond b (Some e) o) ≡ cond b (Some (by_place e)) (option_map by_place o)
    mapped_cond true e o = refl
    mapped_cond false e o = refl

    entry_by : (es : List (K × X)) → AreKeyed bytes es → option_map by_place (lookup_entry (is_key bytes key) es) ≡ lookup_entry (is_place (place_of key)) (by_places bytes es)
    entry_by [] are = refl
    entry_by (e ∷ es) are =
        mapped_cond (is_key bytes key e.0) e (lookup_entry (is_key bytes key) es)
        ∙ ap (λ b. cond b (Some (by_place e)) (option_map by_place (lookup_entry (is_key bytes key) es))) (keys_agree key (bytes e.0) keyed are.0)
        ∙ ap (cond (is_place (place_of key) (place_of (bytes e.0))) (Some (by_place e))) (entry_by es are.1)

    places_cond : (b : Bool) (es fs : List (K × X)) → by_places bytes (cond b es fs) ≡ cond b (by_places bytes es) (by_places bytes fs)
    places_cond true es fs = refl
    places_cond false es fs = refl

    pub remove_by : (es : List (K × X)) → AreKeyed bytes es → by_places bytes (remove_entry (is_key bytes key) es) ≡ remove_entry (is_place (place_of key)) (by_places bytes es)
    remove_by [] are = refl
    remove_by (e ∷ es) are =
        places_cond (is_key bytes key e.0) es (e ∷ remove_entry (is_key bytes key) es)
        ∙ ap (λ b. cond b (by_places bytes es) (by_place e ∷ by_places bytes (remove_entry (is_key bytes key) es))) (keys_agree key (bytes e.0) keyed are.0)
        ∙ ap (λ fs. cond (is_place (place_of key) (place_of (bytes e.0))) (by_places bytes es) (by_place e ∷ fs)) (remove_by es are.1)

    pub promoted_by : (es : List (K × X)) → AreKeyed bytes es → by_places bytes (promoted (is_key bytes key) es) ≡ promoted (is_place (place_of key)) (by_places bytes es)
    promoted_by es are =
        let rest = remove_by es are in
        (elim (lookup_entry (is_key bytes key) es) as (λ o. by_places bytes (option_map_or (λ e. e ∷ remove_entry (is_key bytes key) es) o es) ≡ option_map_or (λ e. e ∷ remove_entry (is_place (place_of key)) (by_places bytes es)) (option_map by_place o) (by_places bytes es)) [
          | None ↦ refl
          | Some e ↦ ap (λ fs. by_place e ∷ fs) rest
        ])
        ∙ ap (λ o. option_map_or (λ e. e ∷ remove_entry (is_place (place_of key)) (by_places bytes es)) o (by_places bytes es)) (entry_by es are)

    -- ---- keys of places stay such

    keyed_found : (es : List (K × X)) → AreKeyed bytes es → IfSome (lookup_entry (is_key bytes key) es) (λ e. IsKey (bytes e.0))
    keyed_found [] are = tt
    keyed_found (e ∷ es) are = elim (is_key bytes key e.0) as (λ b. IfSome (cond b (Some e) (lookup_entry (is_key bytes key) es)) (λ e. IsKey (bytes e.0))) [ true ↦ are.0 | false ↦ keyed_found es are.1 ]

    pub keyed_removed : (es : List (K × X)) → AreKeyed bytes es → AreKeyed bytes (remove_entry (is_key bytes key) es)
    keyed_removed [] are = tt
    keyed_removed (e ∷ es) are = elim (is_key bytes key e.0) as (λ b. AreKeyed bytes (cond b es (e ∷ remove_entry (is_key bytes key) es))) [ true ↦ are.1 | false ↦ (are.0, keyed_removed es are.1) ]

    pub keyed_promoted : (es : List (K × X)) → AreKeyed bytes es → AreKeyed bytes (promoted (is_key bytes key) es)
    keyed_promoted es are =
        let rest = keyed_removed es are in
        (elim (lookup_entry (is_key bytes key) es) as (λ o. IfSome o (λ e. IsKey (bytes e.0)) → AreKeyed bytes (option_map_or (λ e. e ∷ remove_entry (is_key bytes key) es) o es)) [
          | None ↦ λ _. are
          | Some e ↦ λ found. (found, rest)
        ]) (keyed_found es are)

    keyed_taken : (n : ℕ) (es : List (K × X)) → AreKeyed bytes es → AreKeyed bytes (take n es)
    keyed_taken zero es are = tt
    keyed_taken (suc n) [] are = tt
    keyed_taken (suc n) (e ∷ es) are = (are.0, keyed_taken n es are.1)

  pub put_by : (c : LruCache K X) (k : K) (v : X) → IsKey (bytes k) → AreKeyed bytes c.entries → by_places bytes (put_entries (same_key bytes) c k v) ≡ put_entries is_place (lru_cache (by_places bytes c.entries) c.cap) (place_of (bytes k)) v
  put_by c k v keyed are =
      let test = is_place (place_of (bytes k)) in
      let rest = remove_by (bytes k) keyed c.entries are in
      (elim (lookup_entry (same_key bytes k) c.entries) as (λ o. by_places bytes (option_map_or (λ e. (e.0, v) ∷ remove_entry (same_key bytes k) c.entries) o ((k, v) ∷ take (c.cap - 1) c.entries))
      ≡ option_map_or (λ e. (e.0, v) ∷ remove_entry test (by_places bytes c.entries)) (option_map by_place o) ((place_of (bytes k), v) ∷ take (c.cap - 1) (by_places bytes c.entries))) [
        | None ↦ ap (λ fs. (place_of (bytes k), v) ∷ fs) (sym (take-map by_place (c.cap - 1) c.entries))
        | Some e ↦ ap (λ fs. (place_of (bytes e.0), v) ∷ fs) rest
      ])
      ∙ ap (λ o. option_map_or (λ e. (e.0, v) ∷ remove_entry test (by_places bytes c.entries)) o ((place_of (bytes k), v) ∷ take (c.cap - 1) (by_places bytes c.entries))) (entry_by (bytes k) keyed c.entries are)

  pub keyed_put : (c : LruCache K X) (k : K) (v : X) → IsKey (bytes k) → AreKeyed bytes c.entries → AreKeyed bytes (put_entries (same_key bytes) c k v)
  keyed_put c k v keyed are =
      let rest = keyed_removed (bytes k) keyed c.entries are in
      (elim (lookup_entry (same_key bytes k) c.entries) as (λ o. IfSome o (λ e. IsKey (bytes e.0)) → AreKeyed bytes (option_map_or (λ e. (e.0, v) ∷ remove_entry (same_key bytes k) c.entries) o ((k, v) ∷ take (c.cap - 1) c.entries))) [
        | None ↦ λ _. (keyed, keyed_taken (bytes k) keyed (c.cap - 1) c.entries are)
        | Some e ↦ λ found. (found, rest)
      ]) (keyed_found (bytes k) keyed c.entries are)

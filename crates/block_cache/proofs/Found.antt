-- What is found in a cache, after each of its calls.
use Rattle.std.proofs.Common.{◌≡◌, ◌≢◌, ◌∙◌, sym, ap, refl, ℕ, ◌-◌, suc, zero, Bool, true, false, cond, List, [], ◌∷◌, take, Option, None, Some, subst}
use Rattle.std.specs.Cmp.{IsEquivalence}
use Rattle.std.specs.Map.{lookup, lookup_entry, remove_entry}
use Rattle.std.specs.Option.{option_map_or}
use Rattle.std.proofs.lemmas.Bool.{false≢true}
use Rattle.std.proofs.lemmas.Map.Entries.{lookup-filter-keys}
use Rattle.lru.specs.LruCache.{lru_cache, promoted, put_entries}
use Rattle.lru.proofs.CallerLemmas.{lookup-put_entries}
use Rattle.block_cache.specs.declared.place.Place.{Place}
use Rattle.block_cache.specs.Blocks.{Blocks, is_place, is_elsewhere, held, used, kept, without}
use Rattle.block_cache.proofs.Leaving.{one_place, place_itself, not_elsewhere, elsewhere}

one_bool : (a b : Bool) → (a ≡ true → b ≡ true) → (b ≡ true → a ≡ true) → a ≡ b
one_bool true b f g = sym (f refl)
one_bool false true f g = g refl
one_bool false false f g = refl

places_equal : IsEquivalence is_place
places_equal = record {
  refl = place_itself;
  symm = λ a b. one_bool (is_place a b) (is_place b a) (λ same. subst (λ p. is_place p a ≡ true) (one_place a b same) (place_itself a)) (λ same. subst (λ p. is_place p b ≡ true) (one_place b a same) (place_itself b));
  congr = λ a b c same. ap (λ p. is_place p c) (one_place a b same);
}

-- two places are apart
places_apart : (a b : Place) → a ≢ b → is_place a b ≡ false
places_apart a b other =
    (elim (is_place a b) as (λ c. is_place a b ≡ c → c ≡ false) [
      | true ↦ λ same. absurd (other (one_place a b same))
      | false ↦ λ _. refl
    ]) refl

pub kept_found : (blocks : Blocks) (place : Place) (bytes : List ℕ) → held (kept blocks place bytes) place ≡ Some bytes
kept_found blocks place bytes = lookup-put_entries is_place blocks place bytes places_equal

module _ (place other : Place) (apart : other ≢ place) where
  -- a place that is apart is not found at one that passes for this
  not_there : (at : Place) → is_place place at ≡ true → is_place other at ≡ false
  not_there at same = places_apart other at (λ is. apart (is ∙ sym (one_place place at same)))

  removed_found : (es : List (Place × List ℕ)) → lookup (is_place other) (remove_entry (is_place place) es) ≡ lookup (is_place other) es
  removed_found [] = refl
  removed_found (e ∷ es) =
      (elim (is_place place e.0) as (λ b. is_place place e.0 ≡ b → lookup (is_place other) (cond b es (e ∷ remove_entry (is_place place) es)) ≡ lookup (is_place other) (e ∷ es)) [
        | true ↦ λ same. sym (ap (λ b. cond b (Some e.1) (lookup (is_place other) es)) (not_there e.0 same))
        | false ↦ λ _. ap (cond (is_place other e.0) (Some e.1)) (removed_found es)
      ]) refl

  taken_found : (n : ℕ) (es : List (Place × List ℕ)) (found : List ℕ) → lookup (is_place other) (take n es) ≡ Some found → lookup (is_place other) es ≡ Some found
  taken_found zero es found is = absurd cc
  taken_found (suc n) [] found is = is
  taken_found (suc n) (e ∷ es) found is =
      (elim (is_place other e.0) as (λ b. cond b (Some e.1) (lookup (is_place other) (take n es)) ≡ Some found → cond b (Some e.1) (lookup (is_place other) es) ≡ Some found) [
        | true ↦ λ is. is
        | false ↦ λ is. taken_found n es found is
      ]) is

  entry_place : (es : List (Place × List ℕ)) (e : Place × List ℕ) → lookup_entry (is_place place) es ≡ Some e → is_place place e.0 ≡ true
  entry_place [] e is = absurd cc
  entry_place (x ∷ es) e is =
      (elim (is_place place x.0) as (λ b. is_place place x.0 ≡ b → cond b (Some x) (lookup_entry (is_place place) es) ≡ Some e → is_place place e.0 ≡ true) [
        | true ↦ λ same is. let one : x ≡ e = cc in subst (λ (y : Place × List ℕ). is_place place y.0 ≡ true) one same
        | false ↦ λ _ is. entry_place es e is
      ]) refl is

  -- in front stands a pair of the place
  behind : (e : Place × List ℕ) (es : List (Place × List ℕ)) → is_place place e.0 ≡ true → lookup (is_place other) (e ∷ es) ≡ lookup (is_place other) es
  behind e es same = ap (λ b. cond b (Some e.1) (lookup (is_place other) es)) (not_there e.0 same)

  pub others_kept : (blocks : Blocks) (bytes found : List ℕ) → held (kept blocks place bytes) other ≡ Some found → held blocks other ≡ Some found
  others_kept blocks bytes found is =
      (elim (lookup_entry (is_place place) blocks.entries) as (λ o. lookup_entry (is_place place) blocks.entries ≡ o
      → lookup (is_place other) (option_map_or (λ e. (e.0, bytes) ∷ remove_entry (is_place place) blocks.entries) o ((place, bytes) ∷ take (blocks.cap - 1) blocks.entries)) ≡ Some found → held blocks other ≡ Some found) [
        | None ↦ λ _ is. taken_found (blocks.cap - 1) blocks.entries found (sym (behind (place, bytes) (take (blocks.cap - 1) blocks.entries) (place_itself place)) ∙ is)
        | Some e ↦ λ at is. sym (behind (e.0, bytes) (remove_entry (is_place place) blocks.entries) (entry_place blocks.entries e at) ∙ removed_found blocks.entries) ∙ is
      ]) refl is

  used_apart : (blocks : Blocks) → held (used blocks place) other ≡ held blocks other
  used_apart blocks =
      (elim (lookup_entry (is_place place) blocks.entries) as (λ o. lookup_entry (is_place place) blocks.entries ≡ o
      → lookup (is_place other) (option_map_or (λ e. e ∷ remove_entry (is_place place) blocks.entries) o blocks.entries) ≡ held blocks other) [
        | None ↦ λ _. refl
        | Some e ↦ λ at. behind e (remove_entry (is_place place) blocks.entries) (entry_place blocks.entries e at) ∙ removed_found blocks.entries
      ]) refl

-- the first pair of a place is found
entry_found : (place : Place) (es : List (Place × List ℕ)) (e : Place × List ℕ) → lookup_entry (is_place place) es ≡ Some e → (is_place place e.0 ≡ true) × (lookup (is_place place) es ≡ Some e.1)
entry_found place [] e is = absurd cc
entry_found place (x ∷ es) e is =
    (elim (is_place place x.0) as (λ b. is_place place x.0 ≡ b → cond b (Some x) (lookup_entry (is_place place) es) ≡ Some e → (is_place place e.0 ≡ true) × (cond b (Some x.1) (lookup (is_place place) es) ≡ Some e.1)) [
      | true ↦ λ same is. let one : x ≡ e = cc in (subst (λ (y : Place × List ℕ). is_place place y.0 ≡ true) one same, ap (λ (y : Place × List ℕ). Some y.1) one)
      | false ↦ λ _ is. entry_found place es e is
    ]) refl is

used_same : (blocks : Blocks) (place : Place) → held (used blocks place) place ≡ held blocks place
used_same blocks place =
    (elim (lookup_entry (is_place place) blocks.entries) as (λ o. lookup_entry (is_place place) blocks.entries ≡ o
    → lookup (is_place place) (option_map_or (λ e. e ∷ remove_entry (is_place place) blocks.entries) o blocks.entries) ≡ held blocks place) [
      | None ↦ λ _. refl
      | Some e ↦ λ at.
          let found = entry_found place blocks.entries e at in
          ap (λ b. cond b (Some e.1) (lookup (is_place place) (remove_entry (is_place place) blocks.entries))) found.0 ∙ sym found.1
    ]) refl

pub used_found : (blocks : Blocks) (place other : Place) → held (used blocks place) other ≡ held blocks other
used_found blocks place other =
    (elim (is_place other place) as (λ b. is_place other place ≡ b → held (used blocks place) other ≡ held blocks other) [
      | true ↦ λ same. subst (λ (p : Place). held (used blocks p) other ≡ held blocks other) (one_place other place same) (used_same blocks other)
      | false ↦ λ apart. used_apart place other (λ is. false≢true (sym apart ∙ ap (λ (p : Place). is_place other p) (sym is) ∙ place_itself other)) blocks
    ]) refl

-- ---- a file that left

passing : (place at : Place) (file : ℕ) → is_place place at ≡ true → is_elsewhere file at ≡ is_elsewhere file place
passing place at file same = ap (is_elsewhere file) (sym (one_place place at same))

pub none_left : (blocks : Blocks) (file : ℕ) (place : Place) → place.file ≡ file → held (without blocks file) place ≡ None
none_left blocks file place is = lookup-filter-keys (is_place place) (is_elsewhere file) false (λ at same. passing place at file same ∙ not_elsewhere file place is) blocks.entries

pub others_stay : (blocks : Blocks) (file : ℕ) (place : Place) → place.file ≢ file → held (without blocks file) place ≡ held blocks place
others_stay blocks file place other = lookup-filter-keys (is_place place) (is_elsewhere file) true (λ at same. passing place at file same ∙ elsewhere file place other) blocks.entries

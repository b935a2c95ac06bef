-- A file leaves, one block after another.
use Rattle.std.proofs.Common.{◌≡◌, ◌≢◌, ◌∙◌, sym, ap, refl, ℕ, zero, suc, ◌+◌, ◌<◌, ◌≤◌, Bool, true, false, cond, List, [], ◌∷◌, length, map, filter, Option, None, Some, IsSome, arith, subst}
use Rattle.std.specs.Prelude.{not, ◌==◌, is_some}
use Rattle.std.specs.Map.{lookup, remove_entry}
use Rattle.std.specs.List.{AllByRecursion, slice_get}
use Rattle.std.proofs.lemmas.Bool.{and_parts, and_from, eqb-true, eq-eqb, false≢true}
use Rattle.lru.specs.LruCache.{lru_cache}
use Rattle.block_cache.specs.declared.place.Place.{Place}
use Rattle.block_cache.specs.Blocks.{Blocks, is_place, is_elsewhere, held, without, IsNoneOf}

pub one_place : (a b : Place) → is_place a b ≡ true → a ≡ b
one_place a b same =
    let parts = and_parts (a.file == b.file) (a.block == b.block) same in
    let files = eqb-true a.file b.file parts.0 in
    let blocks = eqb-true a.block b.block parts.1 in
    λ i. record { file = files i; block = blocks i }

pub place_itself : (a : Place) → is_place a a ≡ true
place_itself a = and_from (a.file == a.file) (a.block == a.block) (eq-eqb a.file a.file refl) (eq-eqb a.block a.block refl)

pub not_elsewhere : (file : ℕ) (place : Place) → place.file ≡ file → is_elsewhere file place ≡ false
not_elsewhere file place is = ap not (eq-eqb place.file file is)

pub elsewhere : (file : ℕ) (place : Place) → place.file ≢ file → is_elsewhere file place ≡ true
elsewhere file place other =
    (elim (place.file == file) as (λ b. (place.file == file) ≡ b → not b ≡ true) [
      | true ↦ λ same. absurd (other (eqb-true place.file file same))
      | false ↦ λ _. refl
    ]) refl

module _ {X : Type 0} (file : ℕ) where
  abbrev pub rest : List (Place × X) → List (Place × X)
  rest es = filter (λ e. is_elsewhere file e.0) es

  -- a block of the file goes: the others are as they were
  pub rest_removed : (place : Place) → place.file ≡ file → (es : List (Place × X)) → rest (remove_entry (is_place place) es) ≡ rest es
  rest_removed place is [] = refl
  rest_removed place is (e ∷ es) =
      (elim (is_place place e.0) as (λ b. is_place place e.0 ≡ b → rest (cond b es (e ∷ remove_entry (is_place place) es)) ≡ rest (e ∷ es)) [
        | true ↦ λ same. sym (ap (λ b. cond b (e ∷ rest es) (rest es)) (not_elsewhere file e.0 (sym (ap (λ (p : Place). p.file) (one_place place e.0 same)) ∙ is)))
        | false ↦ λ _. ap (λ fs. cond (is_elsewhere file e.0) (e ∷ fs) fs) (rest_removed place is es)
      ]) refl

  -- where none is left, these are all
  pub rest_all : (es : List (Place × X)) → AllByRecursion (λ e. e.0.file ≢ file) es → rest es ≡ es
  rest_all [] none = refl
  rest_all (e ∷ es) none = ap (λ b. cond b (e ∷ rest es) (rest es)) (elsewhere file e.0 none.0) ∙ ap (λ fs. e ∷ fs) (rest_all es none.1)

-- a pair of the list is found by its place
module _ {X : Type 0} (place : Place) where
  pub is_some_at : (es : List (Place × X)) (i : ℕ) (e : Place × X) → slice_get es i ≡ Some e → e.0 ≡ place → IsSome (lookup (is_place place) es)
  is_some_at [] i e at is = absurd cc
  is_some_at (x ∷ es) zero e at is =
      let one : x ≡ e = cc in
      ap (λ b. is_some (cond b (Some x.1) (lookup (is_place place) es))) (ap (is_place place) (ap (λ (y : Place × X). y.0) one ∙ is) ∙ place_itself place)
  is_some_at (x ∷ es) (suc i) e at is =
      let rest = is_some_at es i e at is in
      elim (is_place place x.0) as (λ b. IsSome (cond b (Some x.1) (lookup (is_place place) es))) [ true ↦ refl | false ↦ rest ]

  -- without it there is one less
  pub fewer : (es : List (Place × X)) → IsSome (lookup (is_place place) es) → length (remove_entry (is_place place) es) < length es
  fewer [] there = absurd cc
  fewer (e ∷ es) there =
      (elim (is_place place e.0) as (λ b. IsSome (cond b (Some e.1) (lookup (is_place place) es)) → length (cond b es (e ∷ remove_entry (is_place place) es)) < suc (length es)) [
        | true ↦ λ _. omega arith
        | false ↦ λ there. let less = fewer es there in omega arith
      ]) there

-- Facts about the elements of a list, when the list grows at its end or one element is set.
use Rattle.std.proofs.Common.{◌≡◌, ◌∙◌, sym, ap, subst, refl, ℕ, zero, suc, ◌<◌, List, [], ◌∷◌, ◌++◌, length, Some, arith, inl, inr}
use Rattle.std.specs.Prelude.{◌⊎◌, slice_set}
use Rattle.std.specs.List.{slice_get}
use Rattle.std.proofs.lemmas.Option.{same_Some, slice_get_within}
use Rattle.mds_base.specs.Lists.{Each, Among, OnceBy}

pub get_front : {X : Type 0} (xs ys : List X) (k : ℕ) (x : X) → slice_get xs k ≡ Some x → slice_get (xs ++ ys) k ≡ Some x
get_front [] ys k x e = cc
get_front (z ∷ xs) ys zero x e = e
get_front (z ∷ xs) ys (suc k) x e = get_front xs ys k x e

pub get_last : {X : Type 0} (xs : List X) (y : X) → slice_get (xs ++ y ∷ []) (length xs) ≡ Some y
get_last [] y = refl
get_last (x ∷ xs) y = get_last xs y

-- an element of a list with one more is an old one, or the new one at the end
pub get_pushed : {X : Type 0} (xs : List X) (y : X) (k : ℕ) (x : X) → slice_get (xs ++ y ∷ []) k ≡ Some x → (slice_get xs k ≡ Some x) ⊎ ((k ≡ length xs) × (y ≡ x))
get_pushed [] y zero x e = inr (refl, cc)
get_pushed [] y (suc k) x e = cc
get_pushed (z ∷ xs) y zero x e = inl e
get_pushed (z ∷ xs) y (suc k) x e = elim (get_pushed xs y k x e) [ inl h ↦ inl h | inr h ↦ inr (ap suc h.0, h.1) ]

pub within : {X : Type 0} (xs : List X) (k : ℕ) (x : X) → slice_get xs k ≡ Some x → k < length xs
within = slice_get_within

pub each_push : {X : Type 0} {xs : List X} {P : ℕ → X → Type 0} (y : X) → Each xs P → P (length xs) y → Each (xs ++ y ∷ []) P
each_push {xs = xs} {P = P} y all new = record {
  at = λ k x e. elim (get_pushed xs y k x e) [
    | inl h ↦ all.at k x h
    | inr h ↦ subst (λ j. P j x) (sym h.0) (subst (P (length xs)) h.1 new)
  ];
}

pub each_map : {X : Type 0} {xs : List X} {P Q : ℕ → X → Type 0} → Each xs P → ((k : ℕ) (x : X) → P k x → Q k x) → Each xs Q
each_map all f = record { at = λ k x e. f k x (all.at k x e) }

pub among_more : {X : Type 0} {xs : List X} {P : ℕ → X → Type 0} (ys : List X) → Among xs P → Among (xs ++ ys) P
among_more {xs = xs} ys a = record { place = a.place; item = a.item; is = get_front xs ys a.place a.item a.is; good = a.good }

pub among_last : {X : Type 0} {P : ℕ → X → Type 0} (xs : List X) (y : X) → P (length xs) y → Among (xs ++ y ∷ []) P
among_last xs y good = record { place = length xs; item = y; is = get_last xs y; good = good }

pub among_map : {X : Type 0} {xs : List X} {P Q : ℕ → X → Type 0} → Among xs P → ((k : ℕ) (x : X) → P k x → Q k x) → Among xs Q
among_map a f = record { place = a.place; item = a.item; is = a.is; good = f a.place a.item a.good }

pub once_push : {X : Type 0} {xs : List X} {Alike : X → X → Type 0} (y : X) → OnceBy xs Alike → ((k : ℕ) (x : X) → slice_get xs k ≡ Some x → Alike x y → ⊥) → ((k : ℕ) (x : X) → slice_get xs k ≡ Some x → Alike y x → ⊥) → OnceBy (xs ++ y ∷ []) Alike
once_push {xs = xs} {Alike = Alike} y once left right = record {
  same = λ i j x z ei ej alike. elim (get_pushed xs y i x ei) [
    | inl hi ↦ elim (get_pushed xs y j z ej) [
      | inl hj ↦ once.same i j x z hi hj alike
      | inr hj ↦ absurd (left i x hi (subst (Alike x) (sym hj.1) alike))
    ]
    | inr hi ↦ elim (get_pushed xs y j z ej) [
      | inl hj ↦ absurd (right j z hj (subst (λ u. Alike u z) (sym hi.1) alike))
      | inr hj ↦ hi.0 ∙ sym hj.0
    ]
  ];
}

-- two alike elements are one
pub once_same : {X : Type 0} {xs : List X} {Alike : X → X → Type 0} → OnceBy xs Alike → (i j : ℕ) (x y : X) → slice_get xs i ≡ Some x → slice_get xs j ≡ Some y → Alike x y → x ≡ y
once_same {xs = xs} once i j x y ei ej alike =
    same_Some x y (sym ei ∙ ap (slice_get xs) (once.same i j x y ei ej alike) ∙ ej)

-- one element is set
pub set_here : {X : Type 0} (xs : List X) (k : ℕ) (x y : X) → slice_get xs k ≡ Some x → slice_get (slice_set xs k y) k ≡ Some y
set_here [] k x y e = cc
set_here (z ∷ xs) zero x y e = refl
set_here (z ∷ xs) (suc k) x y e = set_here xs k x y e

pub set_apart : {X : Type 0} (xs : List X) (k j : ℕ) (y : X) → (j ≡ k → ⊥) → slice_get (slice_set xs k y) j ≡ slice_get xs j
set_apart [] k j y apart = refl
set_apart (z ∷ xs) zero zero y apart = absurd (apart refl)
set_apart (z ∷ xs) zero (suc j) y apart = refl
set_apart (z ∷ xs) (suc k) zero y apart = refl
set_apart (z ∷ xs) (suc k) (suc j) y apart = set_apart xs k j y (λ e. apart (ap suc e))

pub pred_same : {j k : ℕ} → suc j ≡ suc k → j ≡ k
pred_same e = omega arith

pub not_zero : (k : ℕ) → suc k ≡ 0 → ⊥
not_zero k e = omega arith

pub not_suc : (k : ℕ) → 0 ≡ suc k → ⊥
not_suc k e = omega arith

pub length_set : {X : Type 0} (xs : List X) (k : ℕ) (y : X) → length (slice_set xs k y) ≡ length xs
length_set [] k y = refl
length_set (z ∷ xs) zero y = refl
length_set (z ∷ xs) (suc k) y = ap suc (length_set xs k y)

-- an element of a list in which one was set is that one, or another one as before
pub get_set : {X : Type 0} (xs : List X) (k : ℕ) (y : X) (j : ℕ) (x : X) → slice_get (slice_set xs k y) j ≡ Some x → ((j ≡ k) × (y ≡ x)) ⊎ ((j ≡ k → ⊥) × (slice_get xs j ≡ Some x))
get_set [] k y j x e = cc
get_set (z ∷ xs) zero y zero x e = inl (refl, cc)
get_set (z ∷ xs) zero y (suc j) x e = inr (not_zero j, e)
get_set (z ∷ xs) (suc k) y zero x e = inr (not_suc k, e)
get_set (z ∷ xs) (suc k) y (suc j) x e = elim (get_set xs k y j x e) [
  | inl h ↦ inl (ap suc h.0, h.1)
  | inr h ↦ inr (λ s. h.0 (pred_same s), h.1)
]

pub each_set : {X : Type 0} {xs : List X} {P : ℕ → X → Type 0} (k : ℕ) (y : X) → Each xs P → P k y → Each (slice_set xs k y) P
each_set {xs = xs} {P = P} k y all new = record {
  at = λ j x e. elim (get_set xs k y j x e) [
    | inl h ↦ subst (λ i. P i x) (sym h.0) (subst (P k) h.1 new)
    | inr h ↦ all.at j x h.1
  ];
}

-- setting an element to what it is changes nothing, and a second setting counts alone
pub set_same : {X : Type 0} (xs : List X) (k : ℕ) (x : X) → slice_get xs k ≡ Some x → slice_set xs k x ≡ xs
set_same [] k x e = refl
set_same (z ∷ xs) zero x e = let s : z ≡ x = cc in ap (λ y. y ∷ xs) (sym s)
set_same (z ∷ xs) (suc k) x e = ap (λ ys. z ∷ ys) (set_same xs k x e)

pub set_twice : {X : Type 0} (xs : List X) (k : ℕ) (x y : X) → slice_set (slice_set xs k x) k y ≡ slice_set xs k y
set_twice [] k x y = refl
set_twice (z ∷ xs) zero x y = refl
set_twice (z ∷ xs) (suc k) x y = ap (λ ys. z ∷ ys) (set_twice xs k x y)

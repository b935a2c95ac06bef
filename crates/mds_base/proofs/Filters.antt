-- What a filter keeps of a list, and what some or all elements of a list pass.
use Rattle.std.proofs.Common.{◌≡◌, sym, ap, subst, refl, ℕ, zero, suc, Bool, true, false, cond, List, [], ◌∷◌, Some, inl, inr, filter}
use Rattle.std.specs.List.{slice_get, list_any, list_all}
use Rattle.std.proofs.lemmas.Bool.{and_parts, and_from, or_cases, or_left, or_right}
use Rattle.mds_base.specs.Lists.{Among, OnceBy}
use Rattle.mds_base.proofs.Grow.{not_suc, not_zero, pred_same}

pub record IsFrom {X : Type 0} (p : X → Bool) (xs : List X) (x : X) : Type 0 where
  pub place : ℕ
  pub is : slice_get xs place ≡ Some x
  pub passes : p x ≡ true

from_of : {X : Type 0} (p : X → Bool) (z : X) (xs : List X) (k : ℕ) (x : X) (b : Bool) → p z ≡ b → ((j : ℕ) → slice_get (filter p xs) j ≡ Some x → IsFrom p xs x) → slice_get (cond b (z ∷ filter p xs) (filter p xs)) k ≡ Some x → IsFrom p (z ∷ xs) x
from_of p z xs zero x true pz rest e = record { place = 0; is = e; passes = (let s : z ≡ x = cc in subst (λ y. p y ≡ true) s pz) }
from_of p z xs (suc k) x true pz rest e = let r = rest k e in record { place = suc r.place; is = r.is; passes = r.passes }
from_of p z xs k x false pz rest e = let r = rest k e in record { place = suc r.place; is = r.is; passes = r.passes }

-- an element that a filter kept is an element of the list that passes
pub filter_from : {X : Type 0} (p : X → Bool) (xs : List X) (k : ℕ) (x : X) → slice_get (filter p xs) k ≡ Some x → IsFrom p xs x
filter_from p [] k x e = cc
filter_from p (z ∷ xs) k x e = from_of p z xs k x (p z) refl (λ j h. filter_from p xs j x h) e

pub record IsKept {X : Type 0} (p : X → Bool) (xs : List X) (x : X) : Type 0 where
  pub place : ℕ
  pub is : slice_get (filter p xs) place ≡ Some x

kept_here : {X : Type 0} (p : X → Bool) (x : X) (xs : List X) (b : Bool) → p x ≡ b → p x ≡ true → slice_get (cond b (x ∷ filter p xs) (filter p xs)) 0 ≡ Some x
kept_here p x xs true e t = refl
kept_here p x xs false e t = cc

kept_later : {X : Type 0} (p : X → Bool) (z : X) (xs : List X) (k : ℕ) (x : X) (b : Bool) → slice_get (filter p xs) k ≡ Some x → (j : ℕ) × (slice_get (cond b (z ∷ filter p xs) (filter p xs)) j ≡ Some x)
kept_later p z xs k x true e = (suc k, e)
kept_later p z xs k x false e = (k, e)

-- an element that passes is kept
pub filter_to : {X : Type 0} (p : X → Bool) (xs : List X) (j : ℕ) (x : X) → slice_get xs j ≡ Some x → p x ≡ true → IsKept p xs x
filter_to p [] j x e t = cc
filter_to p (z ∷ xs) zero x e t =
    let s : z ≡ x = cc in
    record { place = 0; is = subst (λ y. slice_get (cond (p z) (z ∷ filter p xs) (filter p xs)) 0 ≡ Some y) s (kept_here p z xs (p z) refl (subst (λ y. p y ≡ true) (sym s) t)) }
filter_to p (z ∷ xs) (suc j) x e t =
    let r = filter_to p xs j x e t in
    let l = kept_later p z xs r.place x (p z) r.is in
    record { place = l.0; is = l.1 }

abbrev pub OncePassing : {X : Type 0} → (X → Bool) → List X → (X → X → Type 0) → Type 0
OncePassing {X} p xs Alike = (i j : ℕ) (x y : X) → slice_get xs i ≡ Some x → slice_get xs j ≡ Some y → p x ≡ true → p y ≡ true → Alike x y → i ≡ j

once_of : {X : Type 0} (p : X → Bool) (Alike : X → X → Type 0) (z : X) (xs : List X) (b : Bool) → p z ≡ b → OncePassing p (z ∷ xs) Alike → OnceBy (filter p xs) Alike
    → (i j : ℕ) (x y : X) → slice_get (cond b (z ∷ filter p xs) (filter p xs)) i ≡ Some x → slice_get (cond b (z ∷ filter p xs) (filter p xs)) j ≡ Some y → Alike x y → i ≡ j
once_of p Alike z xs false pz all rest i j x y ei ej alike = rest.same i j x y ei ej alike
once_of p Alike z xs true pz all rest zero zero x y ei ej alike = refl
once_of p Alike z xs true pz all rest zero (suc j) x y ei ej alike =
    let r = filter_from p xs j y ej in
    let s : z ≡ x = cc in
    absurd (not_suc r.place (all 0 (suc r.place) x y ei r.is (subst (λ u. p u ≡ true) s pz) r.passes alike))
once_of p Alike z xs true pz all rest (suc i) zero x y ei ej alike =
    let r = filter_from p xs i x ei in
    let s : z ≡ y = cc in
    absurd (not_zero r.place (all (suc r.place) 0 x y r.is ej r.passes (subst (λ u. p u ≡ true) s pz) alike))
once_of p Alike z xs true pz all rest (suc i) (suc j) x y ei ej alike = ap suc (rest.same i j x y ei ej alike)

-- where no two elements that pass are alike, none are after the filter
pub filter_once : {X : Type 0} (p : X → Bool) (Alike : X → X → Type 0) (xs : List X) → OncePassing p xs Alike → OnceBy (filter p xs) Alike
filter_once p Alike [] all = record { same = λ i j x y ei ej alike. cc }
filter_once p Alike (z ∷ xs) all =
    let rest : OnceBy (filter p xs) Alike = filter_once p Alike xs (λ i j x y ei ej px py alike. pred_same (all (suc i) (suc j) x y ei ej px py alike)) in
    record { same = once_of p Alike z xs (p z) refl all rest }

pub any_true : {X : Type 0} (p : X → Bool) (xs : List X) → list_any p xs ≡ true → Among xs (λ k x. p x ≡ true)
any_true p [] e = cc
any_true p (x ∷ xs) e = elim (or_cases (p x) (list_any p xs) e) [
  | inl h ↦ record { place = 0; item = x; is = refl; good = h }
  | inr h ↦ let r = any_true p xs h in record { place = suc r.place; item = r.item; is = r.is; good = r.good }
]

pub any_from : {X : Type 0} (p : X → Bool) (xs : List X) (k : ℕ) (x : X) → slice_get xs k ≡ Some x → p x ≡ true → list_any p xs ≡ true
any_from p [] k x e t = cc
any_from p (z ∷ xs) zero x e t = let s : z ≡ x = cc in or_left (p z) (list_any p xs) (subst (λ y. p y ≡ true) (sym s) t)
any_from p (z ∷ xs) (suc k) x e t = or_right (p z) (list_any p xs) (any_from p xs k x e t)

pub all_true : {X : Type 0} (p : X → Bool) (xs : List X) → list_all p xs ≡ true → (k : ℕ) (x : X) → slice_get xs k ≡ Some x → p x ≡ true
all_true p [] e k x at = cc
all_true p (z ∷ xs) e zero x at = let s : z ≡ x = cc in subst (λ y. p y ≡ true) s (and_parts (p z) (list_all p xs) e).0
all_true p (z ∷ xs) e (suc k) x at = all_true p xs (and_parts (p z) (list_all p xs) e).1 k x at

pub all_from : {X : Type 0} (p : X → Bool) (xs : List X) → ((k : ℕ) (x : X) → slice_get xs k ≡ Some x → p x ≡ true) → list_all p xs ≡ true
all_from p [] each = refl
all_from p (x ∷ xs) each = and_from (p x) (list_all p xs) (each 0 x refl) (all_from p xs (λ k y at. each (suc k) y at))

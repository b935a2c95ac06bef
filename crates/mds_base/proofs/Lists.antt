-- More on the elements of lists: by places, and by recursion.
use Rattle.std.proofs.Common.{◌≡◌, ◌∙◌, sym, ap, subst, refl, ℕ, zero, suc, ◌+◌, ◌<◌, Bool, true, false, nat_eq, get_or, Option, List, [], ◌∷◌, ◌++◌, length, Some, None, arith}
use Rattle.std.specs.Prelude.{map as list_map}
use Rattle.std.specs.List.{slice_get, range_with_len, AllByRecursion, IsDistinct}
use Rattle.std.proofs.lemmas.Option.{same_Some, get_or_from_slice_get, slice_get_read}
use Rattle.mds_base.specs.Lists.{Each, OnceBy}

-- ---- places

pub get_other : {X : Type 0} (xs : List X) (y : X) (k : ℕ) → (k ≡ length xs → ⊥) → slice_get (xs ++ y ∷ []) k ≡ slice_get xs k
get_other [] y zero apart = absurd (apart refl)
get_other [] y (suc k) apart = refl
get_other (x ∷ xs) y zero apart = refl
get_other (x ∷ xs) y (suc k) apart = get_other xs y k (λ e. apart (ap suc e))

pub get_past : {X : Type 0} (xs : List X) → slice_get xs (length xs) ≡ None
get_past [] = refl
get_past (x ∷ xs) = get_past xs

pub get_next : {X : Type 0} (xs : List X) (x : X) (zs : List X) → slice_get (xs ++ x ∷ zs) (length xs) ≡ Some x
get_next [] x zs = refl
get_next (y ∷ xs) x zs = get_next xs x zs

pub get_beyond : {X : Type 0} (xs : List X) (x : X) (zs : List X) (k : ℕ) → slice_get (xs ++ x ∷ zs) (length xs + 1 + k) ≡ slice_get zs k
get_beyond [] x zs k = let z : 0 + 1 + k ≡ suc k = omega arith in ap (slice_get (x ∷ zs)) z
get_beyond (y ∷ xs) x zs k = let z : suc (length xs) + 1 + k ≡ suc (length xs + 1 + k) = omega arith in ap (slice_get (y ∷ xs ++ x ∷ zs)) z ∙ get_beyond xs x zs k

pub get_below : {X : Type 0} (xs : List X) (k : ℕ) → k < length xs → (x : X) × (slice_get xs k ≡ Some x)
get_below [] k lt = absurd (omega arith)
get_below (x ∷ xs) zero lt = (x, refl)
get_below (x ∷ xs) (suc k) lt = get_below xs k (omega arith)

pub get_mapped : {X Y : Type 0} (f : X → Y) (xs : List X) (k : ℕ) (y : Y) → slice_get (list_map f xs) k ≡ Some y → (x : X) × (slice_get xs k ≡ Some x) × (f x ≡ y)
get_mapped f [] k y e = cc
get_mapped f (x ∷ xs) zero y e = let s : f x ≡ y = cc in (x, refl, s)
get_mapped f (x ∷ xs) (suc k) y e = get_mapped f xs k y e

pub ranged : {X : Type 0} (f : ℕ → X) (a n k : ℕ) (x : X) → slice_get (list_map f (range_with_len a n)) k ≡ Some x → f (a + k) ≡ x
ranged f a zero k x e = cc
ranged f a (suc n) zero x e = let s : f a ≡ x = cc in let z : a + 0 ≡ a = omega arith in ap f z ∙ s
ranged f a (suc n) (suc k) x e = let z : a + suc k ≡ (a + 1) + k = omega arith in ap f z ∙ ranged f (a + 1) n k x e

pub ranged_length : {X : Type 0} (f : ℕ → X) (a n : ℕ) → length (list_map f (range_with_len a n)) ≡ n
ranged_length f a zero = refl
ranged_length f a (suc n) = ap suc (ranged_length f (a + 1) n)

pub mapped_length : {X Y : Type 0} (f : X → Y) (xs : List X) → length (list_map f xs) ≡ length xs
mapped_length f [] = refl
mapped_length f (x ∷ xs) = ap suc (mapped_length f xs)

-- what is read where something stands is that
pub read_at : {X : Type 0} (xs : List X) (k : ℕ) (x other : X) → slice_get xs k ≡ Some other → x ≡ get_or xs k x → slice_get xs k ≡ Some x
read_at xs k x other is read = is ∙ ap Some (sym (read ∙ get_or_from_slice_get xs k other x is))

-- a test that fails where nothing is looked up passes only within the list, and what is read there is what is looked up
pub within_of : {X : Type 0} (f : Option X → Bool) → f None ≡ false → (xs : List X) (k : ℕ) → f (slice_get xs k) ≡ true → k < length xs
within_of f none [] k can = cc
within_of f none (x ∷ xs) zero can = omega arith
within_of f none (x ∷ xs) (suc k) can = omega (arith, within_of f none xs k can)

pub item_is : {X : Type 0} (f : Option X → Bool) → f None ≡ false → (xs : List X) (k : ℕ) → f (slice_get xs k) ≡ true → (x : X) → x ≡ get_or xs k x → slice_get xs k ≡ Some x
item_is f none xs k can x read = slice_get_read xs (length xs) k x refl (within_of f none xs k can) read

-- ---- each element

pub each_none : {X : Type 0} {P : ℕ → X → Type 0} → Each [] P
each_none = record { at = λ k x e. cc }

pub once_none : {X : Type 0} {Alike : X → X → Type 0} → OnceBy [] Alike
once_none = record { same = λ i j x y ei ej alike. cc }

abbrev pub first_or : Bool → (ℕ → Bool) → ℕ → Bool
first_or first keep zero = first
first_or first keep (suc k) = keep k

chosen_at : {X : Type 0} (Q : ℕ → X → Bool → Type 0) (x : X) (xs : List X) (first : Bool) (keep : ℕ → Bool) → Q 0 x first → Each xs (λ k y. Q (suc k) y (keep k)) → (k : ℕ) (y : X) → slice_get (x ∷ xs) k ≡ Some y → Q k y (first_or first keep k)
chosen_at Q x xs first keep h all zero y e = subst (λ z. Q 0 z first) (same_Some x y e) h
chosen_at Q x xs first keep h all (suc k) y e = all.at k y e

-- where each element allows a choice, one function makes all of them
pub choose : {X : Type 0} (Q : ℕ → X → Bool → Type 0) (xs : List X) → Each xs (λ k x. (b : Bool) × Q k x b) → (keep : ℕ → Bool) × Each xs (λ k x. Q k x (keep k))
choose Q [] all = (λ k. false, record { at = λ k x e. cc })
choose Q (x ∷ xs) all =
    let first : (b : Bool) × Q 0 x b = all.at 0 x refl in
    let rest : (keep : ℕ → Bool) × Each xs (λ k y. Q (suc k) y (keep k)) = choose (λ k. Q (suc k)) xs (record { at = λ k y e. all.at (suc k) y e }) in
    (first_or first.0 rest.0, record { at = chosen_at Q x xs first.0 rest.0 first.1 rest.1 })

-- ---- by recursion

pub all_front : {X : Type 0} (P : X → Type 0) (front rest : List X) → AllByRecursion P (front ++ rest) → AllByRecursion P front
all_front P [] rest all = tt
all_front P (x ∷ front) rest all = (all.0, all_front P front rest all.1)

pub all_both : {X : Type 0} (P : X → Type 0) (front rest : List X) → AllByRecursion P front → AllByRecursion P rest → AllByRecursion P (front ++ rest)
all_both P [] rest all more = more
all_both P (x ∷ front) rest all more = (all.0, all_both P front rest all.1 more)

pub all_rest : {X : Type 0} (P : X → Type 0) (front rest : List X) → AllByRecursion P (front ++ rest) → AllByRecursion P rest
all_rest P [] rest all = all
all_rest P (x ∷ front) rest all = all_rest P front rest all.1

pub all_push : {X : Type 0} (P : X → Type 0) (xs : List X) (y : X) → AllByRecursion P xs → P y → AllByRecursion P (xs ++ y ∷ [])
all_push P xs y all new = all_both P xs (y ∷ []) all (new, tt)

pub all_map : {X : Type 0} (P Q : X → Type 0) (xs : List X) → ((x : X) → P x → Q x) → AllByRecursion P xs → AllByRecursion Q xs
all_map P Q [] f all = tt
all_map P Q (x ∷ xs) f all = (f x all.0, all_map P Q xs f all.1)

pub distinct_front : (front rest : List ℕ) → IsDistinct nat_eq (front ++ rest) → IsDistinct nat_eq front
unfolding IsDistinct
distinct_front [] rest all = tt
distinct_front (x ∷ front) rest all = (all_front _ front rest all.0, distinct_front front rest all.1)

pub distinct_rest : (front rest : List ℕ) → IsDistinct nat_eq (front ++ rest) → IsDistinct nat_eq rest
unfolding IsDistinct
distinct_rest [] rest all = all
distinct_rest (x ∷ front) rest all = distinct_rest front rest all.1

pub distinct_push : (xs : List ℕ) (n : ℕ) → IsDistinct nat_eq xs → AllByRecursion (λ x. nat_eq x n ≡ false) xs → IsDistinct nat_eq (xs ++ n ∷ [])
unfolding IsDistinct
distinct_push [] n distinct apart = (tt, tt)
distinct_push (x ∷ xs) n distinct apart = (all_push (λ y. nat_eq x y ≡ false) xs n distinct.0 apart.0, distinct_push xs n distinct.1 apart.1)

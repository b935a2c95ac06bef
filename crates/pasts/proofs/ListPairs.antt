-- Lists two by two.
use Rattle.std.proofs.Common.{◌≡◌, ap, subst, refl, ℕ, zero, suc, ◌+◌, Bool, false, List, [], ◌∷◌, ◌++◌, length, Some, arith}
use Rattle.std.specs.Prelude.{map as list_map}
use Rattle.std.specs.List.{slice_get}
use Rattle.std.proofs.lemmas.Option.{same_Some}
use Rattle.mds_base.specs.Lists.{Each}
use Rattle.pasts.specs.Openings.{Paired}

pub paired_join : {X Y : Type 0} (P : ℕ → X → Y → Type 0) (s : ℕ) (xs more : List X) (ys others : List Y) → Paired P s xs ys → Paired P (s + length xs) more others → Paired P s (xs ++ more) (ys ++ others)
paired_join P s [] more [] others p q = let z : s + 0 ≡ s = omega arith in subst (λ k. Paired P k more others) z q
paired_join P s [] more (y ∷ ys) others p q = absurd p
paired_join P s (x ∷ xs) more [] others p q = absurd p
paired_join P s (x ∷ xs) more (y ∷ ys) others p q =
    let z : s + suc (length xs) ≡ (s + 1) + length xs = omega arith in
    (p.0, paired_join P (s + 1) xs more ys others p.1 (subst (λ k. Paired P k more others) z q))

pub paired_push : {X Y : Type 0} (P : ℕ → X → Y → Type 0) (xs : List X) (ys : List Y) (x : X) (y : Y) → Paired P 0 xs ys → P (length xs) x y → Paired P 0 (xs ++ x ∷ []) (ys ++ y ∷ [])
paired_push P xs ys x y p q =
    let z : length xs ≡ 0 + length xs = omega arith in
    paired_join P 0 xs (x ∷ []) ys (y ∷ []) p (subst (λ k. P k x y) z q, tt)

pub paired_length : {X Y : Type 0} (P : ℕ → X → Y → Type 0) (s : ℕ) (xs : List X) (ys : List Y) → Paired P s xs ys → length ys ≡ length xs
paired_length P s [] [] p = refl
paired_length P s [] (y ∷ ys) p = absurd p
paired_length P s (x ∷ xs) [] p = absurd p
paired_length P s (x ∷ xs) (y ∷ ys) p = ap suc (paired_length P (s + 1) xs ys p.1)

pub paired_from : {X Y : Type 0} (P : ℕ → X → Y → Type 0) (s : ℕ) (xs : List X) (ys : List Y) → Paired P s xs ys → (k : ℕ) (x : X) (y : Y) → slice_get xs k ≡ Some x → slice_get ys k ≡ Some y → P (s + k) x y
paired_from P s [] ys p k x y ex ey = cc
paired_from P s (u ∷ xs) [] p k x y ex ey = absurd p
paired_from P s (u ∷ xs) (v ∷ ys) p zero x y ex ey =
    let z : s ≡ s + 0 = omega arith in
    subst (λ k. P k x y) z (subst (P s x) (same_Some v y ey) (subst (λ w. P s w v) (same_Some u x ex) p.0))
paired_from P s (u ∷ xs) (v ∷ ys) p (suc k) x y ex ey =
    let z : (s + 1) + k ≡ s + suc k = omega arith in
    subst (λ j. P j x y) z (paired_from P (s + 1) xs ys p.1 k x y ex ey)

pub paired_at : {X Y : Type 0} (P : ℕ → X → Y → Type 0) (xs : List X) (ys : List Y) → Paired P 0 xs ys → (k : ℕ) (x : X) (y : Y) → slice_get xs k ≡ Some x → slice_get ys k ≡ Some y → P k x y
paired_at P xs ys p k x y ex ey = let z : 0 + k ≡ k = omega arith in subst (λ j. P j x y) z (paired_from P 0 xs ys p k x y ex ey)

pub paired_map : {X Y Z : Type 0} (P : ℕ → X → Y → Type 0) (Q : ℕ → X → Z → Type 0) (f : Y → Z) → ((k : ℕ) (x : X) (y : Y) → P k x y → Q k x (f y)) → (s : ℕ) (xs : List X) (ys : List Y) → Paired P s xs ys → Paired Q s xs (list_map f ys)
paired_map P Q f g s [] [] p = tt
paired_map P Q f g s [] (y ∷ ys) p = absurd p
paired_map P Q f g s (x ∷ xs) [] p = absurd p
paired_map P Q f g s (x ∷ xs) (y ∷ ys) p = (g s x y p.0, paired_map P Q f g (s + 1) xs ys p.1)

pub paired_weaker : {X Y : Type 0} (P Q : ℕ → X → Y → Type 0) → ((k : ℕ) (x : X) (y : Y) → P k x y → Q k x y) → (s : ℕ) (xs : List X) (ys : List Y) → Paired P s xs ys → Paired Q s xs ys
paired_weaker P Q f s [] [] p = tt
paired_weaker P Q f s [] (y ∷ ys) p = absurd p
paired_weaker P Q f s (x ∷ xs) [] p = absurd p
paired_weaker P Q f s (x ∷ xs) (y ∷ ys) p = (f s x y p.0, paired_weaker P Q f (s + 1) xs ys p.1)

pub paired_self : {X : Type 0} (P : ℕ → X → X → Type 0) → ((k : ℕ) (x : X) → P k x x) → (s : ℕ) (xs : List X) → Paired P s xs xs
paired_self P same s [] = tt
paired_self P same s (x ∷ xs) = (same s x, paired_self P same (s + 1) xs)

-- A list and its first element, as a slice pattern takes it apart; and what a result is known to be.
use Rattle.std.proofs.Common.{◌≡◌, ◌∙◌, sym, ap, subst, ℕ, ◌-◌, ◌≤◌, ◌<◌, List, [], ◌∷◌, length, take, drop, get_or, Result, Ok, Err, refl, arith}
use Rattle.std.specs.Prelude.{IfErr, OnOk, OnErr, IsErrAnd}
use Rattle.std.proofs.lemmas.List.{take_all}
use Rattle.mds_out.specs.Disk.{Contents, Lengths}
use Rattle.row_store.specs.Value.{AreReady}
use Rattle.sorted_table.specs.Tables.{TableState}

-- the elements behind the first
abbrev pub rest_of : {X : Type 0} → List X → List X
rest_of xs = take (length xs - 1) (drop 1 xs)

rest_is : {X : Type 0} (x : X) (xs : List X) → rest_of (x ∷ xs) ≡ xs
rest_is x xs = take_all (length (x ∷ xs) - 1) xs (omega arith)

pub cons_of : {X : Type 0} (xs : List X) (x : X) → 1 ≤ length xs → x ≡ get_or xs 0 x → xs ≡ x ∷ rest_of xs
cons_of [] x some is = absurd (omega arith)
cons_of (y ∷ ys) x some is = ap (λ z. z ∷ ys) (sym is) ∙ ap (λ zs. x ∷ zs) (sym (rest_is y ys))

pub cons_number : (xs : List ℕ) → 1 ≤ length xs → xs ≡ get_or xs 0 0 ∷ rest_of xs
cons_number [] some = absurd (omega arith)
cons_number (y ∷ ys) some = ap (λ zs. y ∷ zs) (sym (rest_is y ys))

pub none_of : {X : Type 0} (xs : List X) → length xs < 1 → xs ≡ []
none_of [] few = refl
none_of (x ∷ xs) few = absurd (omega arith)

pub rest_ready : (tables : List TableState) (seen : Contents) (sizes : Lengths) → AreReady tables seen sizes → AreReady (rest_of tables) seen sizes
rest_ready [] seen sizes ready = tt
rest_ready (table ∷ tables) seen sizes ready = subst (λ (rest : List TableState). AreReady rest seen sizes) (sym (rest_is table tables)) ready.1

-- ---- results

pub err_at : {T E : Type 0} (r : Result T E) (e : E) (P : E → Type 0) → IsErrAnd r (λ x. x ≡ e) → P e → IfErr r P
err_at (Ok x) e P is p = tt
err_at (Err x) e P is p = subst P (sym is) p

pub on_err : {T E : Type 0} (r : Result T E) (P : Type 0) → P → OnErr r P
on_err (Ok x) P p = tt
on_err (Err e) P p = p

pub ok_more : {T E : Type 0} (r : Result T E) (P Q : Type 0) → (P → Q) → OnOk r P → OnOk r Q
ok_more (Ok x) P Q more p = more p
ok_more (Err e) P Q more p = tt

-- Clauses on results and options: std's lemmas (`lemmas.Result`, `lemmas.Option`) have the rest.
use Rattle.std.proofs.Common.{◌≡◌, sym, subst, Option, None, Result, Ok, Err, IfOk, IfErr, OnOk, OnErr, IsErrAnd, MatchOption, false}
use Rattle.std.specs.Prelude.{is_err}

-- what holds in any case holds of an error
pub on_err : {T E : Type 0} (r : Result T E) (P : Type 0) → P → OnErr r P
on_err (Ok x) P p = tt
on_err (Err e) P p = p

pub on_ok : {T E : Type 0} (r : Result T E) (P : Type 0) → P → OnOk r P
on_ok (Ok x) P p = p
on_ok (Err e) P p = tt

-- an error that is known has what holds of it
pub err_at : {T E : Type 0} (r : Result T E) (e : E) (P : E → Type 0) → IsErrAnd r (λ x. x ≡ e) → P e → IfErr r P
err_at (Ok x) e P is p = tt
err_at (Err x) e P is p = subst P (sym is) p

pub on_ok_three : {T E A B C P : Type 0} (r : Result T E) → (A → B → C → P) → OnOk r A → OnOk r B → OnOk r C → OnOk r P
on_ok_three (Ok x) f a b c = f a b c
on_ok_three (Err e) f a b c = tt

-- what a result that is no error says
pub ok_from : {T E P : Type 0} (r : Result T E) → OnOk r P → is_err r ≡ false → P
ok_from (Ok x) p not_err = p
ok_from (Err e) p not_err = cc

pub if_ok_from : {T E : Type 0} (r : Result T E) (P : T → Type 0) → is_err r ≡ false → IfOk r P → (x : T) × P x
if_ok_from (Ok x) P e holds = (x, holds)
if_ok_from (Err y) P e holds = cc

-- what holds of the value in either case
pub either : {T E A : Type 0} (P : A → Type 0) (result : Result T E) (x a b : A) → OnOk result (x ≡ a) → OnErr result (x ≡ b) → P a → P b → P x
either P (Ok t) x a b ok err pa pb = subst P (sym ok) pa
either P (Err e) x a b ok err pa pb = subst P (sym err) pb

pub at_none : {A : Type 0} (o : Option A) (P : Type 0) (Q : A → Type 0) → o ≡ None → P → MatchOption o P Q
at_none o P Q is p = subst (λ o. MatchOption o P Q) (sym is) p

-- Elements of lists behind one another.
use Rattle.std.proofs.Common.{◌≡◌, ◌∙◌, ap, ℕ, ◌<◌, List, [], ◌∷◌, ◌++◌, length, length-append, get_or, arith}
use Rattle.std.proofs.lemmas.List.{get_or_append_left}
use Rattle.std.proofs.Math.Seq.{get_or-append_seam}

-- what stands in a list stands there still once more is behind it
pub there : {X : Type 0} (xs xs_new more : List X) (at : ℕ) → xs_new ≡ xs ++ more → at < length xs → at < length xs_new
there xs xs_new more at is below = omega (arith, ap length is, length-append xs more, below)

pub same_at : {X : Type 0} (xs xs_new more : List X) (other : X) (at : ℕ) → xs_new ≡ xs ++ more → at < length xs → get_or xs_new at other ≡ get_or xs at other
same_at xs xs_new more other at is below = ap (λ l. get_or l at other) is ∙ get_or_append_left xs more other at below

-- and what was put behind stands at the end
pub last : {X : Type 0} (xs xs_new : List X) (x other : X) (at : ℕ) → at ≡ length xs → xs_new ≡ xs ++ x ∷ [] → get_or xs_new at other ≡ x
last xs xs_new x other at here is = (λ i. get_or (is i) (here i) other) ∙ get_or-append_seam xs x [] other

pub last_there : {X : Type 0} (xs xs_new : List X) (x : X) (at : ℕ) → at ≡ length xs → xs_new ≡ xs ++ x ∷ [] → at < length xs_new
last_there xs xs_new x at here is = omega (arith, here, ap length is, length-append xs (x ∷ []))

-- Whether two keys are one, in an order that tells them apart.
use Rattle.std.proofs.Common.{◌≡◌, refl, ap, subst, true, false, inl, inr}
use Rattle.std.specs.Prelude.{◌⊎◌}
use Rattle.std.specs.declared.cmp.Ordering.{Ordering}
use Rattle.std.specs.declared.cmp.Ordering.TheVariants.{Less, Equal, Greater}
use Rattle.std.specs.Ordering.{is_eq}
use Rattle.std.specs.Cmp.{IsTotalOrder, eq_by_cmp_equiv}
use Rattle.std.specs.FinMap.{IsAntisymmetric}

no_tie : {K : Type 0} {R : K → K → Ordering} → IsTotalOrder R → (q k : K) → is_eq (R q k) ≡ false → q ≡ k → ⊥
no_tie {R = R} total q k e s = let r : is_eq (R q k) ≡ true = subst (λ x. is_eq (R q x) ≡ true) s ((eq_by_cmp_equiv total).refl q) in cc

pub same_or_apart : {K : Type 0} {R : K → K → Ordering} → IsTotalOrder R → IsAntisymmetric R → (q k : K) → (q ≡ k) ⊎ (q ≡ k → ⊥)
same_or_apart {R = R} total exact q k =
    elim (R q k) as (λ r. R q k ≡ r → (q ≡ k) ⊎ (q ≡ k → ⊥)) [
      | Less ↦ λ e. inr (no_tie total q k (ap is_eq e))
      | Equal ↦ λ e. inl (exact q k e)
      | Greater ↦ λ e. inr (no_tie total q k (ap is_eq e))
    ] refl

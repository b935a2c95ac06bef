-- An event is a list of micro-steps, each of which may be made when it comes: so it keeps the invariant.
use Rattle.std.proofs.Common.{◌≡◌, sym, subst, refl, ℕ, List, [], ◌∷◌}
use Rattle.world.specs.Histories.{Trace}
use Rattle.world.proofs.Invariant.{Inv}
use Rattle.world.proofs.Steps.{Micro, Count, may, does}
use Rattle.world.proofs.Keeps.{keeps}

-- from a run these micro-steps may be made, one after another, and lead to this run
abbrev pub Reach : Trace → List Micro → Trace → Type 0
Reach t [] u = t ≡ u
Reach t (m ∷ ms) u = may t m × Reach (does t m) ms u

pub record Reaches (t u : Trace) : Type 0 where
  pub steps : List Micro
  pub reach : Reach t steps u

pub here : {t : Trace} → Reaches t t
here = record { steps = []; reach = refl }

pub step : {t u : Trace} (m : Micro) → may t m → Reaches (does t m) u → Reaches t u
step m can rest = record { steps = m ∷ rest.steps; reach = (can, rest.reach) }

-- the event is over
pub over : (weight : ℕ) {t : Trace} → Reaches t (does t (Count weight))
over weight = step (Count weight) tt here

on_from : (ms : List Micro) (t u v : Trace) → Reach t ms u → Reaches u v → Reaches t v
on_from [] t u v first more = subst (λ x. Reaches x v) (sym first) more
on_from (m ∷ ms) t u v first more = step m first.0 (on_from ms (does t m) u v first.1 more)

pub goes_on : {t u v : Trace} → Reaches t u → Reaches u v → Reaches t v
goes_on {t} {u} {v} first more = on_from first.steps t u v first.reach more

keeps_all : (ms : List Micro) (t u : Trace) → Reach t ms u → Inv t → Inv u
keeps_all [] t u r inv = subst Inv r inv
keeps_all (m ∷ ms) t u r inv = keeps_all ms (does t m) u r.1 (keeps m t inv r.0)

pub reaches_keeps : {t u : Trace} → Reaches t u → Inv t → Inv u
reaches_keeps {t} {u} r inv = keeps_all r.steps t u r.reach inv

-- An image stays one through a step. These are proved here, since the laws of a disk rest on them.
use Rattle.std.proofs.Common.{◌≡◌, inl, inr, ⊎_elim, ℕ, ◌+◌, ◌<◌, ◌≤◌, List, [], ◌∷◌, get_or, refl, sym, ◌∙◌, subst}
use Rattle.std.proofs.Common.{arith}
use Rattle.std.proofs.lemmas.Bool.{cases_lt}
use Rattle.mds_out.specs.Images.{History, IsImage, Step, Writes, Cuts, history_after, history_of, history_at_sync}
use Rattle.mds_out.specs.Images.{IsLed, AreLed}

pub synced_image : (bytes : List ℕ) → IsImage (history_at_sync bytes) bytes
synced_image bytes =
    record { shortest = omega arith; longest = omega arith; untouched = λ place below not_touched. refl }

pub step_image : (history : History) (step : Step) (old new : List ℕ) → IsImage history old → IsLed step old new
    → IsImage (history_after history step) new
step_image history (Writes at count) old new is led = record {
  shortest = omega (arith, is.shortest, led.no_shorter);
  longest = omega (arith, is.longest, led.no_longer);
  untouched = λ place below free.
      let same : get_or new place 0 ≡ get_or old place 0 = ⊎_elim
      (λ lt. led.before place lt (omega (arith, is.shortest)))
      (λ (le : at ≤ place). ⊎_elim (λ (inside : place < at + count). absurd (free (inl (le, inside))))
      (λ (out : at + count ≤ place). led.behind place out (omega (arith, is.shortest)))
      (cases_lt place (at + count))) (cases_lt place at) in
      same ∙ is.untouched place below (λ touched. free (inr touched));
}
step_image history (Cuts to) old new is led = record {
  shortest = omega (arith, is.shortest, led.no_shorter);
  longest = omega (arith, is.longest, led.no_longer);
  untouched = λ place below free. led.before place (omega arith) (omega (arith, is.shortest, led.no_shorter))
      ∙ is.untouched place (omega arith) free;
}

pub steps_image : (history : History) (steps : List Step) (old new : List ℕ) → IsImage history old
    → AreLed steps old new → IsImage (history_of history steps) new
steps_image history [] old new is led = subst (IsImage history) (sym led) is
steps_image history (step ∷ steps) old new is led =
    steps_image (history_after history step) steps led.0 new (step_image history step old led.0 is led.1) led.2

-- The local clauses of a disk and the definition of its crash images, each from the other.
use Rattle.std.proofs.Common.{◌≡◌, inl, inr, ⊎_elim, ℕ, ◌+◌, ◌<◌, ◌≤◌, min, max, List, ◌∷◌, length, get_or, map, cond, nat_lt, nat_le, sym, ◌∙◌, arith}
use Rattle.std.proofs.lemmas.List.FromFn.{length-map-range_with_len, get_or-map-range_with_len}
use Rattle.std.proofs.lemmas.Bool.{cases_lt}
use Rattle.std.proofs.lemmas.Bool.Decides.{nat_tests}
use Rattle.std.specs.List.{range_with_len}
use Rattle.mds_out.specs.ImageLaws.{synced_image, steps_image}
use Rattle.mds_out.specs.Images.{History, IsImage, IsTouched, Writes, Cuts, history_after, history_at_sync, IsTorn, IsShortened, StepsGiveImages, ImagesComeByStep}

pub steps_give_images : StepsGiveImages
steps_give_images synced steps image led = steps_image (history_at_sync synced) steps synced image (synced_image synced) led

-- a list of numbers by its places
abbrev made : ℕ → (ℕ → ℕ) → List ℕ
made size f = map f (range_with_len 0 size)

length-made : (size : ℕ) (f : ℕ → ℕ) → length (made size f) ≡ size
length-made size f = length-map-range_with_len f 0 size

get_or-made : (size : ℕ) (f : ℕ → ℕ) (place : ℕ) → place < size → get_or (made size f) place 0 ≡ f place
get_or-made size f place below = get_or-map-range_with_len f 0 size place place 0 below (omega arith)

-- x from `at` to before `end`, and y elsewhere
abbrev between : ℕ → ℕ → ℕ → ℕ → ℕ → ℕ
between at end place x y = cond (nat_le at place) (cond (nat_lt place end) x y) y

between_in : (at end place x y : ℕ) → at ≤ place → place < end → between at end place x y ≡ x
between_in at end place x y low high = grind (arith, nat_tests)

between_below : (at end place x y : ℕ) → place < at → between at end place x y ≡ y
between_below at end place x y low = grind (arith, nat_tests)

between_behind : (at end place x y : ℕ) → end ≤ place → between at end place x y ≡ y
between_behind at end place x y high = grind (arith, nat_tests)

-- the file before a write: as the synced file in the range, as the image elsewhere
write_before : (history : History) (at count : ℕ) (image : List ℕ) → history.least ≤ history.most → at ≤ history.most → IsImage (history_after history (Writes at count)) image
    → (before : List ℕ) × IsImage history before × IsTorn at count before image
write_before history at count image order reaches is = (before, good, torn)
  where
    outside : (place : ℕ) → IsTouched ((at, count) ∷ history.touched) place → (IsTouched history.touched place → ⊥) → (at ≤ place → place < at + count → ⊥) → ⊥
    outside place (inl range) free out = out range.0 range.1
    outside place (inr older) free out = free older

    value : ℕ → ℕ
    value place = between at (at + count) place (get_or history.synced place 0) (get_or image place 0)

    size : ℕ
    size = min (length image) history.most

    before : List ℕ
    before = made size value

    good : IsImage history before
    good = record {
      shortest = omega (arith, length-made size value, is.shortest);
      longest = omega (arith, length-made size value);
      untouched = λ place below free.
          let here : place < size = omega (arith, is.shortest) in
          get_or-made size value place here ∙ ⊎_elim (λ low. between_below at (at + count) place _ _ low ∙ is.untouched place below (λ touched. outside place touched free (λ le inside. absurd (omega arith))))
          (λ (le : at ≤ place). ⊎_elim (λ (inside : place < at + count). between_in at (at + count) place _ _ le inside) (λ (out : at + count ≤ place). between_behind at (at + count) place _ _ out ∙ is.untouched place below (λ touched. outside place touched free (λ l inside. absurd (omega arith)))) (cases_lt place (at + count))) (cases_lt place at);
    }

    torn : IsTorn at count before image
    torn = record {
      no_shorter = omega (arith, length-made size value);
      no_longer = omega (arith, length-made size value, is.longest);
      before = λ place low here. sym (get_or-made size value place (omega (arith, length-made size value)) ∙ between_below at (at + count) place _ _ low);
      behind = λ place high here. sym (get_or-made size value place (omega (arith, length-made size value)) ∙ between_behind at (at + count) place _ _ high);
    }

-- the file before a cut: as the image below the new end, as the synced file from there on
cut_before : (history : History) (to : ℕ) (image : List ℕ) → history.least ≤ history.most → IsImage (history_after history (Cuts to)) image
    → (before : List ℕ) × IsImage history before × IsShortened to before image
cut_before history to image order is = (before, good, shortened)
  where
    value : ℕ → ℕ
    value place = between 0 to place (get_or image place 0) (get_or history.synced place 0)

    size : ℕ
    size = max (length image) history.least

    before : List ℕ
    before = made size value

    good : IsImage history before
    good = record {
      shortest = omega (arith, length-made size value);
      longest = omega (arith, length-made size value, is.longest);
      untouched = λ place below free. get_or-made size value place (omega arith)
          ∙ ⊎_elim (λ (low : place < to). between_in 0 to place _ _ (omega arith) low ∙ is.untouched place (omega arith) free) (λ (high : to ≤ place). between_behind 0 to place _ _ high) (cases_lt place to);
    }

    shortened : IsShortened to before image
    shortened = record {
      no_shorter = omega (arith, length-made size value, is.shortest);
      no_longer = omega (arith, length-made size value);
      before = λ place low here. sym (get_or-made size value place (omega arith) ∙ between_in 0 to place _ _ (omega arith) low);
    }

pub images_come_by_step : ImagesComeByStep
images_come_by_step history (Writes at count) image order reaches is = write_before history at count image order reaches is
images_come_by_step history (Cuts to) image order reaches is = cut_before history to image order is

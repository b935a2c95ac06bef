-- Runs of calls that change one file, for a caller that speaks of the others.
use Rattle.std.proofs.Common.{◌≡◌, ◌∙◌, sym, ap, subst, refl, ℕ, ◌≤◌, List, Option, None, Some, inl, inr}
use Rattle.mds_out.specs.Disk.{Image, Contents, Lengths, LeavesOnly, Elapses, Follows, IsElsewhereUnchanged}
use Rattle.mds_out.specs.Known.{OnTold}
use Rattle.mds_out.proofs.Moments.{both, started, goes_on}
use Rattle.gate_log.specs.LogState.{IsElsewhereOld}

pub old_elsewhere : (file : ℕ) (old : Image → Type 0) (image : Image) → old image → IsElsewhereOld file old image
old_elsewhere file old image was = record { before = image; was = was; others = λ other apart. refl }

follows_elsewhere : (file : ℕ) (change : List ℕ → List ℕ → Type 0) (old new : Image → Type 0) → Follows file change old new → (image : Image) → new image → IsElsewhereOld file old image
follows_elsewhere file change old new follows image now = let from = follows image now in record { before = from.0; was = from.1; others = from.2.others }

elsewhere_twice : (file : ℕ) (old mid : Image → Type 0) → ((image : Image) → mid image → IsElsewhereOld file old image) → (image : Image) → IsElsewhereOld file mid image → IsElsewhereOld file old image
elsewhere_twice file old mid first image second =
    let f = first second.before second.was in
    record { before = f.before; was = f.was; others = λ other apart. second.others other apart ∙ f.others other apart }

module _ {D : Type 0} (moment : D → ℕ) (since : D → ℕ → Image → Type 0) (file : ℕ) where
  -- no call
  pub elsewhere_none : (old : D) (images : Image → Type 0) → ((image : Image) → since old (moment old) image → images image) → LeavesOnly moment since old old (IsElsewhereOld file images)
  elsewhere_none old images only = started moment since old (IsElsewhereOld file images) (λ image left. old_elsewhere file images image (only image left))

  -- one call
  pub elsewhere_one : (old new : D) (change : List ℕ → List ℕ → Type 0) (images images' : Image → Type 0) → ((image : Image) → since old (moment old) image → images image) → Elapses (moment old) (moment new) (since old) (since new) images'
      → Follows file change images images' → LeavesOnly moment since old new (IsElsewhereOld file images)
  elsewhere_one old new change images images' only time follows = goes_on moment since old old new (IsElsewhereOld file images) images' (elsewhere_none old images only) time (follows_elsewhere file change images images' follows)

  -- one call that changes no image but takes some away
  pub elsewhere_sync : (old new : D) (images images' : Image → Type 0) → ((image : Image) → since old (moment old) image → images image) → Elapses (moment old) (moment new) (since old) (since new) images'
      → ((image : Image) → images' image → images image) → LeavesOnly moment since old new (IsElsewhereOld file images)
  elsewhere_sync old new images images' only time fewer = goes_on moment since old old new (IsElsewhereOld file images) images' (elsewhere_none old images only) time (λ image now. old_elsewhere file images image (fewer image now))

  -- two runs of calls, one after the other
  pub elsewhere_on : (old mid new : D) (images images' : Image → Type 0) → ((t : ℕ) (image : Image) → t ≤ moment mid → images' image → since mid t image) → LeavesOnly moment since old mid (IsElsewhereOld file images) → LeavesOnly moment since mid new (IsElsewhereOld file images')
      → LeavesOnly moment since old new (IsElsewhereOld file images)
  elsewhere_on old mid new images images' counts first second =
      both moment since old mid new (IsElsewhereOld file images) (IsElsewhereOld file images') (IsElsewhereOld file images) first second (λ image is. is)
      (elsewhere_twice file images images' (λ image now. first.each image (counts (moment old) image first.later now)))

known_on : (a b c : Option ℕ) → OnTold a (λ size. b ≡ Some size) → OnTold b (λ size. c ≡ Some size) → OnTold a (λ size. c ≡ Some size)
known_on None b c first second = tt
known_on (Some size) b c first second = let P : Option ℕ → Type 0 = λ known. OnTold known (λ s. c ≡ Some s) in subst P first second

pub unchanged_elsewhere : (file : ℕ) (seen seen' seen'' : Contents) (sizes sizes' sizes'' : Lengths) → IsElsewhereUnchanged file seen seen' sizes sizes' → IsElsewhereUnchanged file seen' seen'' sizes' sizes'' → IsElsewhereUnchanged file seen seen'' sizes sizes''
unchanged_elsewhere file seen seen' seen'' sizes sizes' sizes'' first second = record {
  bytes = λ other apart. second.bytes other apart ∙ first.bytes other apart;
  lengths = λ other apart. known_on (sizes other) (sizes' other) (sizes'' other) (first.lengths other apart) (second.lengths other apart);
}

pub unchanged_elsewhere_none : (file : ℕ) (seen : Contents) (sizes : Lengths) → IsElsewhereUnchanged file seen seen sizes sizes
unchanged_elsewhere_none file seen sizes = record { bytes = λ other apart. refl; lengths = λ other apart. here (sizes other) }
  where
    here : (known : Option ℕ) → OnTold known (λ size. known ≡ Some size)
    here None = tt
    here (Some size) = refl

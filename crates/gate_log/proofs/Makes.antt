-- What a crash leaves while the file of a log is made.
use Rattle.std.proofs.Common.{◌≡◌, ℕ, ◌<◌, ◌≤◌, List, length, Option, None, Some, refl, sym, ◌∙◌, ap, arith}
use Rattle.mds_out.specs.Disk.{Image, Elapses, Follows, LeavesOnly}
use Rattle.mds_out.specs.Images.{IsShortened}
use Rattle.mds_out.specs.Known.{OnTold}
use Rattle.mds_out.proofs.Moments.{started, goes_on, both, leaves_weaker}
use Rattle.gate_log.specs.Calls.{IsMaking}
use Rattle.gate_log.specs.LogState.{IsWrittenOver}

module _ {D : Type 0} (moment : D → ℕ) (since : D → ℕ → Image → Type 0) (file : ℕ) where
  -- the cut
  pub cut_moment : (old new : D) (images images' : Image → Type 0) → ((image : Image) → since old (moment old) image → images image) → Elapses (moment old) (moment new) (since old) (since new) images'
      → Follows file (IsShortened 0) images images' → LeavesOnly moment since old new (IsMaking file images)
  cut_moment old new images images' only time follows = goes_on moment since old old new (IsMaking file images) images'
      (started moment since old (IsMaking file images) (λ image left. record { before = image; was = only image left; others = λ other apart. refl; short = omega arith })) time
      (λ image now. let from = follows image now in record { before = from.0; was = from.1; others = from.2.others; short = omega (arith, from.2.changed.no_longer) })

  -- the cut, and then the closed gate
  pub made_moment : (old mid new : D) (images images' : Image → Type 0) → LeavesOnly moment since old mid (IsMaking file images) → Follows file (IsShortened 0) images images'
      → LeavesOnly moment since mid new (IsWrittenOver file 0 1 images') → LeavesOnly moment since old new (IsMaking file images)
  made_moment old mid new images images' first cut second = both moment since old mid new (IsMaking file images) (IsWrittenOver file 0 1 images') (IsMaking file images) first second (λ image is. is)
      (λ image over. let from = cut over.before over.was in record { before = from.0; was = from.1; others = λ other apart. over.changes.others other apart ∙ from.2.others other apart; short = omega (arith, from.2.changed.no_longer, over.changes.changed.no_longer) })

-- a file that a crash leaves with fewer than two bytes has fewer while it is made
pub still_short : (file : ℕ) (old : Image → Type 0) → ((image : Image) → old image → length (image file) < 2) → (image : Image) → IsMaking file old image → length (image file) < 2
still_short file old short image making = omega (arith, making.short, short making.before making.was)

pub short_moments : {D : Type 0} (moment : D → ℕ) (since : D → ℕ → Image → Type 0) (file : ℕ) (old new : D) (images : Image → Type 0) → ((image : Image) → images image → length (image file) < 2)
    → LeavesOnly moment since old new (IsMaking file images) → LeavesOnly moment since old new (λ image. length (image file) < 2)
short_moments moment since file old new images short = leaves_weaker moment since old new (IsMaking file images) (λ image. length (image file) < 2) (still_short file images short)

-- a file that is synced, and reads as fewer than two bytes, is left so by each crash
pub short_images : (seen : Option (List ℕ)) (known : Option ℕ) (size file : ℕ) (images : Image → Type 0) → ((bytes : List ℕ) → seen ≡ Some bytes → known ≡ Some (length bytes)) → known ≡ Some size → size < 2
    → OnTold seen (λ bytes. (image : Image) → images image → image file ≡ bytes) → OnTold seen (λ bytes. (image : Image) → images image → length (image file) < 2)
short_images None known size file images law is few synced = tt
short_images (Some bytes) known size file images law is few synced = λ image here. omega (arith, ap length (synced image here), some_same size (length bytes) (sym is ∙ law bytes refl))
  where
    some_same : (a b : ℕ) → Some a ≡ Some b → a ≡ b
    some_same a b same = cc

-- what a crash leaves at each moment since a call began, it leaves after the call
pub leaves_now : {D : Type 0} (moment : D → ℕ) (since : D → ℕ → Image → Type 0) (old new : D) (P images : Image → Type 0) → LeavesOnly moment since old new P
    → ((t : ℕ) (image : Image) → t ≤ moment new → images image → since new t image) → (image : Image) → images image → P image
leaves_now moment since old new P images leaves counts image here = leaves.each image (counts (moment old) image leaves.later here)

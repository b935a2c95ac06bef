-- What a disk in memory owes to each disk's laws, proved.
use Rattle.std.specs.Prelude.{◌≡◌, ◌≤◌, ℕ, List, length, Some, false}
use Rattle.mds_out.specs.declared.outcome.Outcome.{Outcome}
use Rattle.mds_out.specs.Content.{bytes_of, history}
use Rattle.mds_out.specs.Disk.{Image, Shows}
use Rattle.mds_out.specs.Images.{IsImage}
use Rattle.mds_out.specs.Past.{Act, Past, content_of, IsPastImage, IsImageSince, PastLasts, PastFails, past_faults}
use Rattle.mds_out.specs.FaultLaws.{same_count, no_fewer_on, rose_on, rose_after}
use Rattle.mds_out.specs.ContentLaws.{replayed_image}
use Rattle.std.proofs.Common.{ap, subst, sym, arith, refl, ◌∙◌}
use Rattle.std.proofs.lemmas.List.{take_all}
use Rattle.std.specs.Option.{option_map}

pub tells_length : (outcome : Outcome) (acts : List Act) (file : ℕ) (bytes : List ℕ)
    → Some (bytes_of (content_of outcome acts file)) ≡ Some bytes
    → Some (length (bytes_of (content_of outcome acts file))) ≡ Some (length bytes)
tells_length outcome acts file bytes is = ap (option_map (λ (b : List ℕ). length b)) is

pub reads_as : (outcome : Outcome) (acts : List Act) (image : Image)
    → Shows (λ file. Some (bytes_of (content_of outcome acts file))) image → IsPastImage outcome acts image
reads_as outcome acts image shows file = subst (IsImage (history (content_of outcome acts file))) (sym (shows file))
    (replayed_image false (content_of outcome acts file))

pub counts_now : (outcome : Outcome) (acts : List Act) (t : ℕ) (image : Image) → t ≤ length acts
    → IsPastImage outcome acts image → IsImageSince outcome acts t image
counts_now outcome acts t image le now = (
  length acts,
  le,
  omega arith,
  subst (λ l. IsPastImage outcome l image)
      (sym (take_all (length acts) acts (omega arith))) now,
)

pub only_now : (outcome : Outcome) (acts : List Act) (image : Image) → IsImageSince outcome acts (length acts) image
    → IsPastImage outcome acts image
only_now outcome acts image since = subst (λ l. IsPastImage outcome l image) (take_all since.0 acts since.1) since.3

pub past_here : (past : Past) → PastLasts past past
past_here past = record { outcome = refl; fails = refl; later = same_count (past_faults past) }

pub past_on : (a b c : Past) → PastLasts a b → PastLasts b c → PastLasts a c
past_on a b c first second = record {
  outcome = second.outcome ∙ first.outcome;
  fails = second.fails ∙ first.fails;
  later = no_fewer_on (past_faults a) (past_faults b) (past_faults c) first.later second.later;
}

pub past_fails_on : (a b c : Past) → PastFails a b → PastLasts b c → PastFails a c
past_fails_on a b c first second = rose_on (past_faults a) (past_faults b) (past_faults c) first second.later

pub past_fails_after : (a b c : Past) → PastLasts a b → PastFails b c → PastFails a c
past_fails_after a b c first second = rose_after (past_faults a) (past_faults b) (past_faults c) first.later second

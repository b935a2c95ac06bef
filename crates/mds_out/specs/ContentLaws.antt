-- What the changes of a file make of it is an image of it. This is proved here, since the laws of a disk rest on it.
use Rattle.std.proofs.Common.{◌≡◌, ℕ, ◌+◌, ◌-◌, ◌/◌, min, List, [], ◌∷◌, ◌++◌, length, get_or, take, drop, map}
use Rattle.std.proofs.Common.{replicate, true, false, Bool, refl, ◌∙◌, ap, arith, length-append, length-drop}
use Rattle.std.proofs.lemmas.List.{length-take, length-take-le, length-replicate, get_or_append_left}
use Rattle.std.proofs.lemmas.List.{get_or-append_right, get_or-take, get_or-drop}
use Rattle.mds_out.specs.Change.{Change, Write, Cut, changed, redone, step_of, half_written}
use Rattle.mds_out.specs.Content.{Content, replayed, history}
use Rattle.mds_out.specs.Disk.{put}
use Rattle.mds_out.specs.ImageLaws.{synced_image, steps_image}
use Rattle.mds_out.specs.Images.{IsImage, IsLed, AreLed, IsTorn, IsShortened, history_at_sync}

-- how long a file is after a write depends on lengths alone
pub put_length : (old bytes : List ℕ) (at : ℕ)
    → length (put old at bytes) ≡ min at (length old) + length bytes + (length old - (at + length bytes))
put_length old bytes at = omega (
  arith,
  length-append (take at old ++ bytes) (drop (at + length bytes) old),
  length-append (take at old) bytes,
  length-take at old,
  length-drop (at + length bytes) old,
)

pub half_length : (bytes : List ℕ) → length (half_written bytes) ≡ length bytes
half_length bytes = omega (
  arith,
  length-append (take (length bytes / 2) bytes)
      (replicate (length bytes - length bytes / 2) 165),
  length-take-le (length bytes / 2) bytes (omega arith),
  length-replicate {A = ℕ} (length bytes - length bytes / 2) 165,
)

-- a write of as many bytes is a torn one
put_torn : (old bytes : List ℕ) (at count : ℕ) → length bytes ≡ count → IsTorn at count old (put old at bytes)
put_torn old bytes at count is = record {
  no_shorter = omega (arith, put_length old bytes at);
  no_longer = omega (arith, put_length old bytes at);
  before = λ place low here.
      get_or_append_left (take at old ++ bytes) (drop (at + length bytes) old) 0 place
      (omega (arith, length-append (take at old) bytes, length-take at old))
      ∙ get_or_append_left (take at old) bytes 0 place (omega (arith, length-take at old))
      ∙ get_or-take at old place 0 low;
  behind = λ place high here.
      get_or-append_right (take at old ++ bytes) (drop (at + length bytes) old) (at + length bytes) place 0
      (omega (arith, length-append (take at old) bytes, length-take at old)) (omega arith)
      ∙ get_or-drop (at + length bytes) old (place - (at + length bytes)) 0 ∙ ap (λ k. get_or old k 0) (omega arith);
}

-- a cut is a shortened one
cut_shortened : (old : List ℕ) (to : ℕ) → IsShortened to old (take to old)
cut_shortened old to = record {
  no_shorter = omega (arith, length-take to old);
  no_longer =
      omega (arith, length-take to old);
  before = λ place low here. get_or-take to old place 0 low;
}

changed_led : (spoil : Bool) (old : List ℕ) (change : Change)
    → IsLed (step_of change) old (changed old (redone spoil change))
changed_led true old (Write at written) = put_torn old (half_written written) at (length written) (half_length written)
changed_led false old (Write at written) = put_torn old written at (length written) refl
changed_led true old (Cut to) = cut_shortened old to
changed_led false old (Cut to) = cut_shortened old to

replayed_led : (spoil : Bool) (old : List ℕ) (since : List Change)
    → AreLed (map step_of since) old (replayed spoil old since)
replayed_led spoil old [] = refl
replayed_led spoil old (change
    ∷ since) = (
      changed old (redone spoil change),
      changed_led spoil old change,
      replayed_led spoil
          (changed old (redone spoil change)) since,
    )

pub replayed_image : (spoil : Bool) (content : Content)
    → IsImage (history content) (replayed spoil content.synced content.since)
replayed_image spoil content = steps_image (history_at_sync content.synced) (map step_of content.since) content.synced
    (replayed spoil content.synced content.since) (synced_image content.synced)
    (replayed_led spoil content.synced content.since)

-- The files, images and moments of a disk in memory, one act later.
use Rattle.std.proofs.Common.{◌≡◌, ◌≢◌, ⊎_elim, ℕ, ◌≤◌, List, [], ◌∷◌, ◌++◌, length, map, true, false, cond, nat_eq, refl, sym, ◌∙◌, ap, subst, arith}
use Rattle.std.proofs.lemmas.Bool.{cases_eq}
use Rattle.std.proofs.lemmas.List.{map-append}
use Rattle.std.proofs.lemmas.Grind.{same_number_lists}
use Rattle.std.proofs.lemmas.List.Sums.{fold-append}
use Rattle.mds_out.specs.declared.slots.Slot.{Slot}
use Rattle.mds_out.specs.declared.outcome.Outcome.{Outcome}
use Rattle.mds_out.specs.declared.outcome.Outcome.TheVariants.{Old, New, Mixed}
use Rattle.mds_out.specs.Change.{Change, Write, Cut, step_of}
use Rattle.mds_out.specs.Content.{Content, at_rest, bytes_of, left_of, with_change, history}
use Rattle.mds_out.specs.Disk.{Image, Follows}
use Rattle.mds_out.specs.Images.{History, IsImage, Reaches, Step, Writes, Cuts, history_at_sync, history_of, history_after, IsLed, IsTorn, IsShortened}
use Rattle.mds_out.specs.Past.{Act, Changed, Synced, Restarted, acted, content_of, IsPastImage}
use Rattle.mds_out.specs.Slots.{HoldPast, HaveActed}
use Rattle.mds_out.specs.ImageLaws.{synced_image}
use Rattle.mds_out.specs.ContentLaws.{replayed_image}
use Rattle.mds_out.proofs.Crash.{images_come_by_step}
use Rattle.mds_out.proofs.Places.{equal, unequal, changed_here, changed_others, synced_here, synced_others}

pub content_push : (outcome : Outcome) (acts : List Act) (act : Act) (file : ℕ) → content_of outcome (acts ++ act ∷ []) file ≡ acted outcome file (content_of outcome acts file) act
content_push outcome acts act file = fold-append (acted outcome file) (at_rest []) acts (act ∷ [])

pub hold_push : (outcome : Outcome) (acts acts' : List Act) (act : Act) (slots slots' : List Slot) → HoldPast outcome acts slots → HaveActed outcome act slots slots' → acts' ≡ acts ++ act ∷ [] → HoldPast outcome acts' slots'
hold_push outcome acts acts' act slots slots' holds has pushed = record { each = λ file. has.each file ∙ ap (λ c. acted outcome file c act) (holds.each file) ∙ sym (content_push outcome acts act file) ∙ ap (λ l. content_of outcome l file) (sym pushed) }

-- ---- images of one file

pub untouched_torn : (at count : ℕ) (bytes : List ℕ) → IsTorn at count bytes bytes
untouched_torn at count bytes = record { no_shorter = omega arith; no_longer = omega arith; before = λ place low here. refl; behind = λ place high here. refl }

pub uncut_shortened : (to : ℕ) (bytes : List ℕ) → IsShortened to bytes bytes
uncut_shortened to bytes = record { no_shorter = omega arith; no_longer = omega arith; before = λ place low here. refl }

-- nothing of what was written is there
synced_still : (history : History) (steps : List Step) → IsImage history history.synced → IsImage (history_of history steps) history.synced
synced_still history [] is = is
synced_still history (Writes at count ∷ steps) is = synced_still (history_after history (Writes at count)) steps (record { shortest = is.shortest; longest = omega (arith, is.longest); untouched = λ place below free. refl })
synced_still history (Cuts to ∷ steps) is = synced_still (history_after history (Cuts to)) steps (record { shortest = omega (arith, is.shortest); longest = is.longest; untouched = λ place below free. refl })

pub left_image : (outcome : Outcome) (content : Content) → IsImage (history content) (left_of outcome content)
left_image Old content = synced_still (history_at_sync content.synced) (map step_of content.since) (synced_image content.synced)
left_image New content = replayed_image false content
left_image Mixed content = replayed_image true content

-- directly after a sync the file is as it reads
pub rest_only : (bytes image : List ℕ) → IsImage (history_at_sync bytes) image → image ≡ bytes
rest_only bytes image is = same_number_lists image bytes (omega (arith, is.shortest, is.longest)) (λ place here. is.untouched place (omega (arith, is.shortest, is.longest)) (λ none. none))

history_push : (history : History) (steps : List Step) (step : Step) → history_of history (steps ++ step ∷ []) ≡ history_after (history_of history steps) step
history_push history [] step = refl
history_push history (first ∷ steps) step = history_push (history_after history first) steps step

pub history_with_change : (content : Content) (change : Change) → history (with_change content change) ≡ history_after (history content) (step_of change)
history_with_change content change = ap (history_of (history_at_sync content.synced)) (map-append step_of content.since (change ∷ [])) ∙ history_push (history_at_sync content.synced) (map step_of content.since) (step_of change)

-- the file before a change, by its image after it
image_before : (content : Content) (change : Change) (image : List ℕ) → Reaches (history content) (step_of change) → IsImage (history (with_change content change)) image
    → (before : List ℕ) × IsImage (history content) before × IsLed (step_of change) before image
image_before content change image reaches is =
    let reads = replayed_image false content in
    images_come_by_step (history content) (step_of change) image (omega (arith, reads.shortest, reads.longest)) reaches (subst (λ h. IsImage h image) (history_with_change content change) is)

write_reaches : (content : Content) (at : ℕ) (written : List ℕ) → at ≤ length (bytes_of content) → Reaches (history content) (step_of (Write at written))
write_reaches content at written within = omega (arith, (replayed_image false content).longest)

-- ---- images of the whole disk

-- a change of one file takes each image from one before it
change_follows : (outcome : Outcome) (acts : List Act) (file : ℕ) (change : Change) → Reaches (history (content_of outcome acts file)) (step_of change)
    → Follows file (IsLed (step_of change)) (IsPastImage outcome acts) (IsPastImage outcome (acts ++ Changed file change ∷ []))
change_follows outcome acts file change reaches image is = (before, old, record { changed = led; others = λ other apart. sym (unequal file other first.0 (image other) (λ same. apart (sym same))) })
  where
    here : IsImage (history (with_change (content_of outcome acts file) change)) (image file)
    here = subst (λ c. IsImage (history c) (image file)) (content_push outcome acts (Changed file change) file ∙ changed_here outcome file (content_of outcome acts file) change) (is file)

    first : (b : List ℕ) × IsImage (history (content_of outcome acts file)) b × IsLed (step_of change) b (image file)
    first = image_before (content_of outcome acts file) change (image file) reaches here

    before : Image
    before other = cond (nat_eq file other) first.0 (image other)

    same_here : before file ≡ first.0
    same_here = equal file file first.0 (image file) refl

    led : IsLed (step_of change) (before file) (image file)
    led = subst (λ b. IsLed (step_of change) b (image file)) (sym same_here) first.2

    old : IsPastImage outcome acts before
    old other = ⊎_elim
        (λ (is_here : file ≡ other). subst (λ f. IsImage (history (content_of outcome acts f)) (before f)) is_here (subst (IsImage (history (content_of outcome acts file))) (sym same_here) first.1))
        (λ (apart : file ≢ other). subst (IsImage (history (content_of outcome acts other))) (sym (unequal file other first.0 (image other) apart))
        (subst (λ c. IsImage (history c) (image other)) (content_push outcome acts (Changed file change) other ∙ changed_others outcome file change other (content_of outcome acts other) (λ same. apart (sym same))) (is other)))
        (cases_eq file other)

pub write_follows : (outcome : Outcome) (acts : List Act) (file at : ℕ) (written : List ℕ) → at ≤ length (bytes_of (content_of outcome acts file))
    → Follows file (IsTorn at (length written)) (IsPastImage outcome acts) (IsPastImage outcome (acts ++ Changed file (Write at written) ∷ []))
write_follows outcome acts file at written within = change_follows outcome acts file (Write at written) (write_reaches (content_of outcome acts file) at written within)

pub cut_follows : (outcome : Outcome) (acts : List Act) (file to : ℕ) → Follows file (IsShortened to) (IsPastImage outcome acts) (IsPastImage outcome (acts ++ Changed file (Cut to) ∷ []))
cut_follows outcome acts file to = change_follows outcome acts file (Cut to) tt

-- a sync that succeeded leaves the file as it reads
pub sync_durable : (outcome : Outcome) (acts : List Act) (file : ℕ) (image : Image) → IsPastImage outcome (acts ++ Synced file ∷ []) image → image file ≡ bytes_of (content_of outcome acts file)
sync_durable outcome acts file image is = rest_only (bytes_of (content_of outcome acts file)) (image file)
    (subst (λ c. IsImage (history c) (image file)) (content_push outcome acts (Synced file) file ∙ synced_here outcome file (content_of outcome acts file)) (is file))

pub sync_images : (outcome : Outcome) (acts : List Act) (file : ℕ) (image : Image) → IsPastImage outcome (acts ++ Synced file ∷ []) image → IsPastImage outcome acts image
sync_images outcome acts file image is other = ⊎_elim
    (λ (here : file ≡ other). subst (λ f. IsImage (history (content_of outcome acts f)) (image f)) here (subst (IsImage (history (content_of outcome acts file))) (sym (sync_durable outcome acts file image is)) (replayed_image false (content_of outcome acts file))))
    (λ (apart : file ≢ other). subst (λ c. IsImage (history c) (image other)) (content_push outcome acts (Synced file) other ∙ synced_others outcome file other (content_of outcome acts other) (λ same. apart (sym same))) (is other))
    (cases_eq file other)

-- what a restart leaves
pub restart_left : (outcome : Outcome) (acts : List Act) → IsPastImage outcome acts (λ file. left_of outcome (content_of outcome acts file))
restart_left outcome acts file = left_image outcome (content_of outcome acts file)

pub restart_shows : (outcome : Outcome) (acts : List Act) (file : ℕ) → left_of outcome (content_of outcome acts file) ≡ bytes_of (content_of outcome (acts ++ Restarted ∷ []) file)
restart_shows outcome acts file = sym (ap bytes_of (content_push outcome acts Restarted file))

pub restart_images : (outcome : Outcome) (acts : List Act) (image : Image) → IsPastImage outcome (acts ++ Restarted ∷ []) image → IsPastImage outcome acts image
restart_images outcome acts image is file =
    let only : image file ≡ left_of outcome (content_of outcome acts file) = rest_only (left_of outcome (content_of outcome acts file)) (image file) (subst (λ c. IsImage (history c) (image file)) (content_push outcome acts Restarted file) (is file)) in
    subst (IsImage (history (content_of outcome acts file))) (sym only) (left_image outcome (content_of outcome acts file))

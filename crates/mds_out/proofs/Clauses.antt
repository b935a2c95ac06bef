-- What a disk in memory owes to the clauses of each disk, by what a call did to its past.
use Rattle.std.proofs.Common.{◌≡◌, ◌⊎◌, inl, inr, ⊎_elim, ℕ, ◌≤◌, List, length, Some, Result, Ok, Err, refl, sym, ◌∙◌, ap, subst}
use Rattle.mds_out.specs.Change.{Write, Cut}
use Rattle.mds_out.specs.declared.disk.DiskFault.{DiskFault}
use Rattle.mds_out.specs.Content.{bytes_of, left_of}
use Rattle.mds_out.specs.Disk.{Image, Follows, Shows}
use Rattle.mds_out.specs.Images.{IsTorn, IsShortened}
use Rattle.mds_out.specs.Past.{Act, Changed, Synced, Restarted, Past, content_of, IsPastImage, IsDone, with_act, asked_for}
use Rattle.mds_out.proofs.Acted.{write_follows, cut_follows, untouched_torn, uncut_shortened, sync_durable, sync_images, restart_left, restart_shows, restart_images}

-- what may be left of a past
abbrev pub ImagesOf : Past → Image → Type 0
ImagesOf past = IsPastImage past.outcome past.acts

-- the call did its act or nothing
pub did_or_not : {T : Type 0} (act : Act) (old new : Past) (result : Result T DiskFault) → IsDone act old new result → (new ≡ with_act old act) ⊎ (new ≡ asked_for old act)
did_or_not act old new (Ok x) is = inl is.done
did_or_not act old new (Err e) is = inr is.refused

stays : (file : ℕ) (change : List ℕ → List ℕ → Type 0) (old : Image → Type 0) → ((bytes : List ℕ) → change bytes bytes) → Follows file change old old
stays file change old same image is = (image, is, record { changed = same (image file); others = λ other apart. refl })

pub write_crash : {T : Type 0} (file at : ℕ) (bytes : List ℕ) (old new : Past) (result : Result T DiskFault) → at ≤ length (bytes_of (content_of old.outcome old.acts file)) → IsDone (Changed file (Write at bytes)) old new result
    → Follows file (IsTorn at (length bytes)) (ImagesOf old) (ImagesOf new)
write_crash file at bytes old new result within is = ⊎_elim
    (λ did. let P : Past → Type 0 = λ p. Follows file (IsTorn at (length bytes)) (ImagesOf old) (ImagesOf p) in subst P (sym did) (write_follows old.outcome old.acts file at bytes within))
    (λ not. let P : Past → Type 0 = λ p. Follows file (IsTorn at (length bytes)) (ImagesOf old) (ImagesOf p) in subst P (sym not) (stays file (IsTorn at (length bytes)) (ImagesOf old) (untouched_torn at (length bytes))))
    (did_or_not (Changed file (Write at bytes)) old new result is)

pub cut_crash : {T : Type 0} (file to : ℕ) (old new : Past) (result : Result T DiskFault) → IsDone (Changed file (Cut to)) old new result → Follows file (IsShortened to) (ImagesOf old) (ImagesOf new)
cut_crash file to old new result is = ⊎_elim
    (λ did. let P : Past → Type 0 = λ p. Follows file (IsShortened to) (ImagesOf old) (ImagesOf p) in subst P (sym did) (cut_follows old.outcome old.acts file to))
    (λ not. let P : Past → Type 0 = λ p. Follows file (IsShortened to) (ImagesOf old) (ImagesOf p) in subst P (sym not) (stays file (IsShortened to) (ImagesOf old) (uncut_shortened to)))
    (did_or_not (Changed file (Cut to)) old new result is)

pub sync_crash : {T : Type 0} (file : ℕ) (old new : Past) (result : Result T DiskFault) → IsDone (Synced file) old new result → (image : Image) → ImagesOf new image → ImagesOf old image
sync_crash file old new result is image now = ⊎_elim
    (λ did. let P : Past → Type 0 = λ p. ImagesOf p image in sync_images old.outcome old.acts file image (subst P did now))
    (λ not. let P : Past → Type 0 = λ p. ImagesOf p image in subst P not now)
    (did_or_not (Synced file) old new result is)

pub restart_crash : {T : Type 0} (old new : Past) (result : Result T DiskFault) → IsDone Restarted old new result → (image : Image) → ImagesOf new image → ImagesOf old image
restart_crash old new result is image now = ⊎_elim
    (λ did. let P : Past → Type 0 = λ p. ImagesOf p image in restart_images old.outcome old.acts image (subst P did now))
    (λ not. let P : Past → Type 0 = λ p. ImagesOf p image in subst P not now)
    (did_or_not Restarted old new result is)

pub synced_file : (file : ℕ) (old new : Past) → new ≡ with_act old (Synced file) → (image : Image) → ImagesOf new image → image file ≡ bytes_of (content_of old.outcome old.acts file)
synced_file file old new did image now = let P : Past → Type 0 = λ p. ImagesOf p image in sync_durable old.outcome old.acts file image (subst P did now)

pub restarted_image : (old new : Past) → new ≡ with_act old Restarted → (image : Image) × ImagesOf old image × Shows (λ file. Some (bytes_of (content_of new.outcome new.acts file))) image
restarted_image old new did = (
  λ file. left_of old.outcome (content_of old.outcome old.acts file),
  restart_left old.outcome old.acts,
  λ file. restart_shows old.outcome old.acts file ∙ ap (λ (p : Past). bytes_of (content_of p.outcome p.acts file)) (sym did),
)

-- The steps of a change of root, one after another.
use Rattle.std.proofs.Common.{◌≡◌, inl, inr, ◌∙◌, sym, ap, subst, refl, ℕ, ◌≤◌, List, Option, Some, None, true, false, Result, Ok, Err}
use Rattle.std.specs.Prelude.{OnOk}
use Rattle.gate_log.proofs.Told.{told_on}
use Rattle.mds_out.specs.Disk.{Image, Contents, Lengths, LeavesOnly, Tells}
use Rattle.mds_out.specs.Known.{OnTold}
use Rattle.mds_out.proofs.Moments.{both, leaves_weaker}
use Rattle.root_slots.specs.declared.root.Root.{Root}
use Rattle.root_slots.specs.declared.root_slots.RootFault.{RootFault}
use Rattle.root_slots.specs.declared.root_slots.RootFault.TheVariants.{Device}
use Rattle.root_slots.specs.declared.root_slots.RootSlots.{RootSlots}
use Rattle.root_slots.specs.Slot.{found_in, root_in, root_of}
use Rattle.root_slots.specs.Slots.{HasRootCause, HasNumber, IsOldOrNew, IsReady, emptied, filled, opened as brought, filled_root}
use Rattle.row_store.specs.RootSteps.{IsRootOr, IsRootStep, IsInForce}
use Rattle.sorted_table.proofs.Elsewhere.{elsewhere_on, unchanged_elsewhere}

abbrev root_refusal : (T : Type 0) → RootFault → Result T RootFault
root_refusal T fault = Err fault

same_root_refusal : (T U : Type 0) (fault : RootFault) → root_refusal U fault ≡ root_refusal U Device → root_refusal T fault ≡ root_refusal T Device
same_root_refusal T U fault is = let same : fault ≡ Device = cc in ap (root_refusal T) same

root_cause_on : {T U : Type 0} (a b c : ℕ) (done : U) (r : Result T RootFault) → HasRootCause {T = U} a b (Ok done) → HasRootCause b c r → HasRootCause a c r
root_cause_on a b c done r first second = subst (λ n. HasRootCause n c r) first.kept second

-- a step that leaves what file 0 says
pub still : {D : Type 0} (moment : D → ℕ) (since : D → ℕ → Image → Type 0) (a b : D) (root : Root) (told : Option (List ℕ)) → OnTold told (λ file. LeavesOnly moment since a b (λ image. found_in (image 0) ≡ found_in file))
    → OnTold told (λ file. LeavesOnly moment since a b (λ image. IsRootOr root file (image 0)))
still moment since a b root None leaves = tt
still moment since a b root (Some file) leaves = leaves_weaker moment since a b (λ image. found_in (image 0) ≡ found_in file) (λ image. IsRootOr root file (image 0)) (λ image same. inl same) leaves

-- the step that brings the root into force
pub comes : {D : Type 0} (moment : D → ℕ) (since : D → ℕ → Image → Type 0) (a b : D) (root : Root) (slots : RootSlots) (told : Option (List ℕ)) → OnTold told (λ file. filled_root slots file ≡ root)
    → OnTold told (λ file. LeavesOnly moment since a b (λ image. IsOldOrNew slots file (image 0))) → OnTold told (λ file. LeavesOnly moment since a b (λ image. IsRootOr root file (image 0)))
comes moment since a b root slots None is leaves = tt
comes moment since a b root slots (Some file) is leaves = leaves_weaker moment since a b (λ image. IsOldOrNew slots file (image 0)) (λ image. IsRootOr root file (image 0)) either leaves
  where
    either : (image : Image) → IsOldOrNew slots file (image 0) → IsRootOr root file (image 0)
    either image (inl same) = inl same
    either image (inr new) = inr (ap root_of new ∙ ap (λ r. Some r) is)

-- it is in force then
pub come : {X : Type 0} (found : List ℕ → X) (made : List ℕ → X) (of : X → Option Root) (root : Root) (told told' : Option (List ℕ)) → Tells told told' (λ old new. found new ≡ made old) → OnTold told (λ file. of (made file) ≡ Some root) → OnTold told' (λ file. of (found file) ≡ Some root)
come found made of root told None tells is = tt
come found made of root None (Some now) tells is = absurd tells
come found made of root (Some old) (Some now) tells is = ap of tells ∙ is

pub told_more : (told : Option (List ℕ)) (P Q : List ℕ → Type 0) → ((file : List ℕ) → P file → Q file) → OnTold told P → OnTold told Q
told_more None P Q more is = tt
told_more (Some file) P Q more is = more file is

pub ok_three : {T E : Type 0} (r : Result T E) (P Q R S : Type 0) → (P → Q → R → S) → OnOk r P → OnOk r Q → OnOk r R → OnOk r S
ok_three (Ok x) P Q R S join p q r = join p q r
ok_three (Err e) P Q R S join p q r = tt

-- the slots once it is
pub in_force_by : (before closed full opened : RootSlots) (root : Root) (seen : Contents) (sizes : Lengths) (images : Image → Type 0) → before.made ≡ true → before.stopped ≡ false → closed ≡ emptied before → full ≡ filled closed root.number → opened ≡ brought full root.number
    → IsReady opened seen sizes images → OnTold (seen 0) (λ file. root_in file ≡ Some root) → IsInForce opened root seen sizes images
in_force_by before closed full opened root seen sizes images made running first second third ready in_force = record {
  running = ap (λ (s : RootSlots). s.stopped) third ∙ ap (λ (s : RootSlots). s.stopped) second ∙ ap (λ (s : RootSlots). s.stopped) first ∙ running;
  made = ap (λ (s : RootSlots). s.made) third ∙ ap (λ (s : RootSlots). s.made) second ∙ ap (λ (s : RootSlots). s.made) first ∙ made;
  begun = ap (λ (s : RootSlots). s.step) third;
  number = subst (λ (s : RootSlots). HasNumber s.force root.number) (sym third) refl;
  ready = ready;
  in_force = in_force;
}

one_more : {D : Type 0} (moment : D → ℕ) (since : D → ℕ → Image → Type 0) (a b c : D) (root : Root) (told mid : Option (List ℕ)) → Tells told mid (λ old new. found_in new ≡ found_in old)
    → OnTold told (λ file. LeavesOnly moment since a b (λ image. IsRootOr root file (image 0))) → OnTold mid (λ file. LeavesOnly moment since b c (λ image. IsRootOr root file (image 0))) → OnTold told (λ file. LeavesOnly moment since a c (λ image. IsRootOr root file (image 0)))
one_more moment since a b c root None mid same first second = tt
one_more moment since a b c root (Some file) None same first second = absurd same
one_more moment since a b c root (Some file) (Some held) same first second =
    both moment since a b c (λ image. IsRootOr root file (image 0)) (λ image. IsRootOr root held (image 0)) (λ image. IsRootOr root file (image 0)) first second (λ image is. is) either
  where
    either : (image : Image) → IsRootOr root held (image 0) → IsRootOr root file (image 0)
    either image (inl now) = inl (now ∙ same)
    either image (inr new) = inr new

module _ {D : Type 0} {seen : D → Contents} {sizes : D → Lengths} {images : D → Image → Type 0} {moment : D → ℕ} {since : D → ℕ → Image → Type 0} {faults : D → ℕ} {leads fails_by : D → D → Type 0} where
  pub root_step_on : {T U : Type 0} (done : U) (r : Result T RootFault) (root : Root) (a b c : D) → ((t : ℕ) (image : Image) → t ≤ moment b → images b image → since b t image) → (leads a b → leads b c → leads a c) → (leads a b → fails_by b c → fails_by a c)
      → Tells (seen a 0) (seen b 0) (λ old new. found_in new ≡ found_in old) → IsRootStep seen sizes images moment since faults leads fails_by root a b (Ok done) → IsRootStep seen sizes images moment since faults leads fails_by root b c r
      → IsRootStep seen sizes images moment since faults leads fails_by root a c r
  root_step_on done r root a b c counts on after same first second = record {
    elsewhere = unchanged_elsewhere 0 (seen a) (seen b) (seen c) (sizes a) (sizes b) (sizes c) first.elsewhere second.elsewhere;
    told = told_on (seen a 0) (seen b 0) (seen c 0) first.told second.told;
    others = elsewhere_on moment since 0 a b c (images a) (images b) counts first.others second.others;
    any_moment = one_more moment since a b c root (seen a 0) (seen b 0) same first.any_moment second.any_moment;
    cause = root_cause_on (faults a) (faults b) (faults c) done r first.cause second.cause;
    lasts = on first.lasts second.lasts;
    failed = λ is. after first.lasts (second.failed is);
  }

  pub root_step_refused : {T U : Type 0} (fault : RootFault) (root : Root) (a b : D) → IsRootStep {T = T} seen sizes images moment since faults leads fails_by root a b (Err fault) → IsRootStep {T = U} seen sizes images moment since faults leads fails_by root a b (Err fault)
  root_step_refused {T = T} {U = U} fault root a b step = record {
    elsewhere = step.elsewhere;
    told = step.told;
    others = step.others;
    any_moment = step.any_moment;
    cause = record { later = step.cause.later; device = λ is. step.cause.device (same_root_refusal T U fault is); other = step.cause.other; kept = tt };
    lasts = step.lasts;
    failed = λ is. step.failed (same_root_refusal T U fault is);
  }

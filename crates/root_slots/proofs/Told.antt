-- The steps of a change of root, on a disk that may tell what it holds.
use Rattle.std.proofs.Common.{◌≡◌, refl, sym, ap, subst, ◌∙◌, ℕ, ◌+◌, max, List, [], ◌∷◌, length, Option, Some, None, true, false, arith}
use Rattle.mds_out.specs.Disk.{Image, Contents, Lengths, Tells, LeavesOnly, put}
use Rattle.mds_out.specs.Images.{IsTorn}
use Rattle.mds_out.specs.Known.{OnKnown, OnTold}
use Rattle.mds_out.proofs.Moments.{started, leaves_weaker, both}
use Rattle.std.specs.Prelude.{replicate}
use Rattle.std.proofs.lemmas.List.{length-replicate}
use Rattle.root_slots.specs.Slot.{found_in}
use Rattle.root_slots.specs.declared.content.Found.TheVariants.{New}
use Rattle.root_slots.specs.declared.root_slots.Step.TheVariants.{Begun}
use Rattle.root_slots.proofs.Changing.{making_torn, made_torn, made_stands}
use Rattle.gate_log.specs.LogState.{IsWrittenOver, IsElsewhereOld}
use Rattle.gate_log.proofs.Appends.{known_after}
use Rattle.root_slots.specs.declared.root_slots.RootSlots.{RootSlots}
use Rattle.root_slots.specs.Slots.{Stands, IsKept, IsReady, with_file}

module _ {D : Type 0} (moment : D → ℕ) (since : D → ℕ → Image → Type 0) (slots : RootSlots) (images : Image → Type 0) where
  -- what each torn write does, each moment of it leaves
  pub each_moment : (seen : Option (List ℕ)) (at count : ℕ) (old new : D) (R : List ℕ → List ℕ → Type 0)
      → ((file torn : List ℕ) → Stands slots file → IsTorn at count file torn → R file torn)
      → OnTold seen (IsKept slots images) → LeavesOnly moment since old new (IsWrittenOver 0 at count images)
      → OnTold seen (λ file. LeavesOnly moment since old new (λ image. R file (image 0)))
  each_moment None at count old new R step kept leaves = tt
  each_moment (Some file) at count old new R step kept leaves =
      leaves_weaker moment since old new (IsWrittenOver 0 at count images) (λ image. R file (image 0))
      (λ image over. step file (image 0) kept.stands (subst (λ b. IsTorn at count b (image 0)) (kept.durable over.before over.was) over.changes.changed)) leaves

  -- no call at all
  pub no_moment : (seen : Option (List ℕ)) (disk : D) (R : List ℕ → List ℕ → Type 0) → ((file : List ℕ) → R file file)
      → ((image : Image) → since disk (moment disk) image → images image) → OnTold seen (IsKept slots images) → OnTold seen (λ file. LeavesOnly moment since disk disk (λ image. R file (image 0)))
  no_moment None disk R same only kept = tt
  no_moment (Some file) disk R same only kept =
      started moment since disk (λ image. R file (image 0)) (λ image left. subst (R file) (sym (kept.durable image (only image left))) (same file))

  pub elsewhere_moment : (at count : ℕ) (old new : D) → LeavesOnly moment since old new (IsWrittenOver 0 at count images) → LeavesOnly moment since old new (IsElsewhereOld 0 images)
  elsewhere_moment at count old new = leaves_weaker moment since old new (IsWrittenOver 0 at count images) (IsElsewhereOld 0 images)
      (λ image over. record { before = over.before; was = over.was; others = over.changes.others })

  pub elsewhere_none : (disk : D) → ((image : Image) → since disk (moment disk) image → images image) → LeavesOnly moment since disk disk (IsElsewhereOld 0 images)
  elsewhere_none disk only = started moment since disk (IsElsewhereOld 0 images) (λ image left. record { before = image; was = only image left; others = λ other apart. refl })

kept_told : (slots slots' : RootSlots) (seen seen' : Option (List ℕ)) (images images' : Image → Type 0) (at : ℕ) (bytes : List ℕ) → ((file : List ℕ) → Stands slots file → Stands slots' (put file at bytes))
    → Tells seen seen' (λ old new. new ≡ put old at bytes) → OnTold seen (IsKept slots images) → OnTold seen' (λ now. (image : Image) → images' image → image 0 ≡ now) → OnTold seen' (IsKept slots' images')
kept_told slots slots' None None images images' at bytes step told kept durable = tt
kept_told slots slots' None (Some now) images images' at bytes step told kept durable = absurd told
kept_told slots slots' (Some file) None images images' at bytes step told kept durable = tt
kept_told slots slots' (Some file) (Some now) images images' at bytes step told kept durable = record { stands = subst (Stands slots') (sym told) (step file kept.stands); durable = durable }

-- the file is ready after a write that the slots' value goes on by
pub ready_after : (slots slots' : RootSlots) (seen seen' : Contents) (sizes sizes' : Lengths) (images images' : Image → Type 0) (at : ℕ) (bytes : List ℕ) → slots.made ≡ true → slots'.made ≡ true
    → ((file : List ℕ) → Stands slots file → Stands slots' (put file at bytes)) → IsReady slots seen sizes images
    → Tells (seen 0) (seen' 0) (λ old new. new ≡ put old at bytes) → OnKnown (sizes 0) (sizes' 0) (λ old new. new ≡ max old (at + length bytes))
    → OnTold (seen' 0) (λ now. (image : Image) → images' image → image 0 ≡ now) → IsReady slots' seen' sizes' images'
ready_after slots slots' seen seen' sizes sizes' images images' at bytes made made' step ready told grown durable = record {
  size = max ready.size (at + length bytes);
  known = known_after (sizes 0) (sizes' 0) ready.size (λ n. max n (at + length bytes)) ready.known grown;
  whole = λ _. omega (arith, ready.whole made);
  short = λ unmade. (let no : true ≡ false = sym made' ∙ unmade in cc);
  told = kept_told slots slots' (seen 0) (seen' 0) images images' at bytes step told ready.told durable;
}

-- what the written file is
pub on_told_after : (slots : RootSlots) (seen seen' : Option (List ℕ)) (images : Image → Type 0) (at : ℕ) (bytes : List ℕ) (P : List ℕ → Type 0) → ((file : List ℕ) → Stands slots file → P (put file at bytes))
    → Tells seen seen' (λ old new. new ≡ put old at bytes) → OnTold seen (IsKept slots images) → OnTold seen' P
on_told_after slots None None images at bytes P step told kept = tt
on_told_after slots None (Some now) images at bytes P step told kept = absurd told
on_told_after slots (Some file) None images at bytes P step told kept = tt
on_told_after slots (Some file) (Some now) images at bytes P step told kept = subst P (sym told) (step file kept.stands)

-- what the written file says
pub told_after : (slots : RootSlots) (seen seen' : Option (List ℕ)) (images : Image → Type 0) (at : ℕ) (bytes : List ℕ) (R : List ℕ → List ℕ → Type 0) → ((file : List ℕ) → Stands slots file → R file (put file at bytes))
    → Tells seen seen' (λ old new. new ≡ put old at bytes) → OnTold seen (IsKept slots images) → Tells seen seen' R
told_after slots None None images at bytes R step told kept = tt
told_after slots None (Some now) images at bytes R step told kept = told
told_after slots (Some file) None images at bytes R step told kept = told
told_after slots (Some file) (Some now) images at bytes R step told kept = subst (R file) (sym told) (step file kept.stands)

-- where nothing was done
pub told_here : (seen : Option (List ℕ)) (R : List ℕ → List ℕ → Type 0) → ((file : List ℕ) → R file file) → Tells seen seen R
told_here None R same = tt
told_here (Some file) R same = same file

pub kept_as : (slots slots' : RootSlots) (seen : Option (List ℕ)) (images : Image → Type 0) → ((file : List ℕ) → Stands slots file → Stands slots' file) → OnTold seen (IsKept slots images) → OnTold seen (IsKept slots' images)
kept_as slots slots' None images step kept = tt
kept_as slots slots' (Some file) images step kept = record { stands = step file kept.stands; durable = kept.durable }

-- ---- file 0 is made by two writes

-- the file after the first of them
pub first_moment : {D : Type 0} (moment : D → ℕ) (since : D → ℕ → Image → Type 0) (slots : RootSlots) (seen : Option (List ℕ)) (images : Image → Type 0) (zeros : List ℕ) (old new : D) → slots.made ≡ false → length zeros ≡ 2047
    → OnTold seen (IsKept slots images) → LeavesOnly moment since old new (IsWrittenOver 0 0 (length zeros) images) → OnTold seen (λ _. LeavesOnly moment since old new (λ image. found_in (image 0) ≡ New))
first_moment moment since slots seen images zeros old new unmade size kept leaves =
    each_moment moment since slots images seen 0 (length zeros) old new (λ file image. found_in image ≡ New)
    (λ file torn stands is. making_torn file torn (stands.short unmade) (subst (λ n. IsTorn 0 n file torn) size is)) kept leaves

pub both_moments : {D : Type 0} (moment : D → ℕ) (since : D → ℕ → Image → Type 0) (slots : RootSlots) (seen seen' : Option (List ℕ)) (images images' : Image → Type 0) (zeros : List ℕ) (old mid new : D) → slots.made ≡ false → zeros ≡ replicate 2047 0
    → OnTold seen (IsKept slots images) → LeavesOnly moment since old mid (IsWrittenOver 0 0 (length zeros) images)
    → Tells seen seen' (λ before now. now ≡ put before 0 zeros) → OnTold seen' (λ now. (image : Image) → images' image → image 0 ≡ now) → LeavesOnly moment since mid new (IsWrittenOver 0 2047 1 images')
    → OnTold seen (λ _. LeavesOnly moment since old new (λ image. found_in (image 0) ≡ New))
both_moments moment since slots None seen' images images' zeros old mid new unmade are kept first told durable second = tt
both_moments moment since slots (Some file) None images images' zeros old mid new unmade are kept first told durable second = absurd told
both_moments moment since slots (Some file) (Some now) images images' zeros old mid new unmade are kept first told durable second =
    let P : Image → Type 0 = λ image. found_in (image 0) ≡ New in
    let size : length zeros ≡ 2047 = ap length are ∙ length-replicate {A = ℕ} 2047 0 in
    both moment since old mid new P (IsWrittenOver 0 2047 1 images') P (first_moment moment since slots (Some file) images zeros old mid unmade size kept first) second (λ image is. is)
    (λ image over. made_torn file zeros (kept.stands.short unmade) are (image 0)
    (subst (λ b. IsTorn 2047 1 b (image 0)) (durable over.before over.was ∙ told) over.changes.changed))

made_kept : (slots : RootSlots) (seen seen' seen'' : Option (List ℕ)) (images images'' : Image → Type 0) (zeros : List ℕ) → slots.made ≡ false → slots.force ≡ None → slots.spare_open ≡ false → slots.step ≡ Begun → zeros ≡ replicate 2047 0
    → OnTold seen (IsKept slots images) → Tells seen seen' (λ before now. now ≡ put before 0 zeros) → Tells seen' seen'' (λ before now. now ≡ put before 2047 (0 ∷ []))
    → OnTold seen'' (λ now. (image : Image) → images'' image → image 0 ≡ now) → OnTold seen'' (IsKept (with_file slots) images'')
made_kept slots seen seen' None images images'' zeros unmade none shut begun are kept first second durable = tt
made_kept slots seen None (Some now) images images'' zeros unmade none shut begun are kept first second durable = absurd second
made_kept slots None (Some mid) (Some now) images images'' zeros unmade none shut begun are kept first second durable = absurd first
made_kept slots (Some file) (Some mid) (Some now) images images'' zeros unmade none shut begun are kept first second durable = record {
  stands = subst (Stands (with_file slots)) (sym (second ∙ ap (λ b. put b 2047 (0 ∷ [])) first)) (made_stands file zeros (kept.stands.short unmade) are (with_file slots) none shut begun refl);
  durable = durable;
}

pub ready_made : (slots : RootSlots) (seen seen' seen'' : Contents) (sizes sizes' sizes'' : Lengths) (images images'' : Image → Type 0) (zeros : List ℕ) → slots.made ≡ false → slots.force ≡ None → slots.spare_open ≡ false → slots.step ≡ Begun → zeros ≡ replicate 2047 0
    → IsReady slots seen sizes images → Tells (seen 0) (seen' 0) (λ before now. now ≡ put before 0 zeros) → OnKnown (sizes 0) (sizes' 0) (λ old new. new ≡ max old (0 + length zeros))
    → Tells (seen' 0) (seen'' 0) (λ before now. now ≡ put before 2047 (0 ∷ [])) → OnKnown (sizes' 0) (sizes'' 0) (λ old new. new ≡ max old (2047 + 1))
    → OnTold (seen'' 0) (λ now. (image : Image) → images'' image → image 0 ≡ now) → IsReady (with_file slots) seen'' sizes'' images''
ready_made slots seen seen' seen'' sizes sizes' sizes'' images images'' zeros unmade none shut begun are ready first first_size second second_size durable = record {
  size = max (max ready.size (0 + length zeros)) (2047 + 1);
  known = known_after (sizes' 0) (sizes'' 0) (max ready.size (0 + length zeros)) (λ n. max n (2047 + 1)) (known_after (sizes 0) (sizes' 0) ready.size (λ n. max n (0 + length zeros)) ready.known first_size) second_size;
  whole = λ _. omega arith;
  short = λ no. cc;
  told = made_kept slots (seen 0) (seen' 0) (seen'' 0) images images'' zeros unmade none shut begun are ready.told first second durable;
}

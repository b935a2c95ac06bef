-- What was read of file 0.
use Rattle.std.proofs.Common.{◌≡◌, refl, sym, ap, subst, ◌∙◌, ℕ, ◌+◌, ◌<◌, ◌≤◌, List, length, take, drop, get_or, Bool, true, false, Option, Some, None, arith}
use Rattle.std.specs.Prelude.{slice_index, ◌&&◌, IfOk, IfSome, Ok, IsErrOf}
use Rattle.root_slots.specs.declared.root_slots.RootFault.TheVariants.{Device, Stopped}
use Rattle.std.proofs.lemmas.List.{get_or-take, get_or-drop}
use Rattle.mds_out.specs.Disk.{Image, Contents, Lengths}
use Rattle.mds_out.specs.Known.{OnTold}
use Rattle.root_slots.specs.declared.root.Root.{Root}
use Rattle.root_slots.specs.declared.content.Slot.{Slot}
use Rattle.root_slots.specs.declared.content.Slot.TheVariants.{First, Second}
use Rattle.root_slots.specs.declared.content.Content.{Content}
use Rattle.root_slots.specs.declared.content.Content.TheVariants.{Closed, Open, Bad}
use Rattle.root_slots.specs.declared.content.Found.{Found}
use Rattle.root_slots.specs.declared.content.Found.TheVariants.{New, InForce, Damaged}
use Rattle.root_slots.specs.declared.root_slots.RootSlots.{RootSlots}
use Rattle.root_slots.specs.declared.root_slots.Step.TheVariants.{Begun}
use Rattle.root_slots.specs.Root.{is_root}
use Rattle.root_slots.specs.Slot.{HoldsRoot, FindsRoot, offset_of, other_of, content_at, open_content, chosen, found_in, is_open, are_slots, root_of, root_in, HasNoRoot}
use Rattle.root_slots.specs.Slots.{answer_of, value_of, HasRootCause, IsRead, IsAsRead, IsForce, Stands, IsKept, IsReady}
use Rattle.root_slots.proofs.Choice.{IsSound, IsChosen, is_chosen, whole_found, none_in, root_held, other_sound}
use Rattle.root_slots.proofs.Windows.{content_closed, content_open, gate_shut}
use Rattle.root_slots.proofs.Changing.{gate_is_open, short_new}

-- ---- a slot

gate_read : (file gate : List ℕ) (at : ℕ) → gate ≡ take 1 (drop at file) → slice_index gate 0 ≡ slice_index file at
gate_read file gate at is =
    let there : at + 0 ≡ at = omega arith in
    ap (λ l. get_or l 0 0) is ∙ get_or-take 1 (drop at file) 0 0 (omega arith) ∙ get_or-drop at file 0 0 ∙ ap (λ n. get_or file n 0) there

pub closed_read : (seen : Option (List ℕ)) (slot : Slot) (at : ℕ) (gate : List ℕ) → at ≡ offset_of slot → OnTold seen (λ file. gate ≡ take 1 (drop at file)) → (slice_index gate 0 ≡ 1 → ⊥) → OnTold seen (λ file. Closed ≡ content_at file slot)
closed_read None slot at gate there read shut = tt
closed_read (Some file) slot at gate there read shut =
    sym (content_closed slot file (λ is. shut (gate_read file gate at read ∙ ap (slice_index file) there ∙ is)))

pub open_read : (seen : Option (List ℕ)) (slot : Slot) (at next : ℕ) (gate bytes : List ℕ) → at ≡ offset_of slot → next ≡ offset_of slot → OnTold seen (λ file. gate ≡ take 1 (drop at file)) → slice_index gate 0 ≡ 1
    → OnTold seen (λ file. bytes ≡ take 1023 (drop (next + 1) file)) → OnTold seen (λ file. open_content bytes ≡ content_at file slot)
open_read None slot at next gate bytes there next_there read is rest = tt
open_read (Some file) slot at next gate bytes there next_there read is rest =
    ap open_content rest ∙ ap (λ n. open_content (take 1023 (drop (n + 1) file))) next_there
    ∙ sym (content_open slot file (sym (gate_read file gate at read ∙ ap (slice_index file) there) ∙ is))

pub both_read : (seen : Option (List ℕ)) (a b : Content) (found : Found) (both : Bool) → OnTold seen (λ file. a ≡ content_at file First) → OnTold seen (λ file. b ≡ content_at file Second)
    → found ≡ chosen a b → both ≡ (is_open a && is_open b) → OnTold seen (λ file. are_slots file found both)
both_read None a b found both first second is open_is = tt
both_read (Some file) a b found both first second is open_is = (
  is ∙ ap (λ c. chosen c b) first ∙ ap (chosen (content_at file First)) second,
  open_is ∙ ap (λ c. is_open c && is_open b) first ∙ ap (λ c. is_open (content_at file First) && is_open c) second,
)

-- ---- the value

closed_if_not : (content : Content) → IsSound content → is_open content ≡ false → content ≡ Closed
closed_if_not Closed sound shut = refl
closed_if_not (Open root) sound shut = cc
closed_if_not (Bad flaw) sound shut = absurd sound

open_if : (content : Content) → is_open content ≡ true → (root : Root) × (content ≡ Open root)
open_if Closed is = cc
open_if (Open root) is = (root, refl)
open_if (Bad flaw) is = cc

-- both are open where the other one is
other_open : (slot : Slot) (file : List ℕ) (both : Bool) (root : Root) → both ≡ (is_open (content_at file First) && is_open (content_at file Second)) → content_at file slot ≡ Open root → both ≡ is_open (content_at file (other_of slot))
other_open First file both root is held = is ∙ ap (λ c. is_open c && is_open (content_at file Second)) held
other_open Second file both root is held = is ∙ ap (λ c. is_open (content_at file First) && is_open c) held ∙ and_true (is_open (content_at file First))
  where
    and_true : (b : Bool) → (b && true) ≡ b
    and_true true = refl
    and_true false = refl

pub stands_short : (file : List ℕ) → length file < 2048 → Stands (value_of false None false) file
stands_short file short = record {
  whole = λ made. cc;
  short = λ _. short;
  force = subst (IsForce None) (sym (short_new file short)) tt;
  gate_open = λ is made. cc;
  gate_closed = λ _ made. cc;
  filled = tt;
}

pub stands_new : (file : List ℕ) (both : Bool) → 2048 ≤ length file → are_slots file New both → Stands (value_of true None false) file
stands_new file both whole read =
    let none = whole_found file whole ∙ sym read.0 in
    record {
      whole = λ _. whole;
      short = λ unmade. cc;
      force = subst (IsForce None) (sym none) tt;
      gate_open = λ is made. cc;
      gate_closed = λ _ _. gate_shut First file (none_in file First whole none);
      filled = tt;
    }

pub stands_in_force : (file : List ℕ) (slot : Slot) (root : Root) (both : Bool) → 2048 ≤ length file → are_slots file (InForce slot root) both
    → Stands (value_of true (Some (record { slot = slot; number = root.number })) both) file
stands_in_force file slot root both whole read =
    let is = whole_found file whole ∙ sym read.0 in
    let other = other_open slot file both root read.1 (root_held file slot root whole is) in
    record {
      whole = λ _. whole;
      short = λ unmade. cc;
      force = subst (IsForce (Some (record { slot = slot; number = root.number }))) (sym is) (refl, refl);
      gate_open = λ is_both _. (let found = open_if (content_at file (other_of slot)) (sym other ∙ is_both) in gate_is_open (other_of slot) file found.0 found.1);
      gate_closed = λ not_both _. gate_shut (other_of slot) file (closed_if_not (content_at file (other_of slot)) (other_sound file slot root whole is) (sym other ∙ not_both));
      filled = tt;
    }

-- ---- the disk

length_told : (seen : Option (List ℕ)) (known : Option ℕ) (size : ℕ) → ((file : List ℕ) → seen ≡ Some file → known ≡ Some (length file)) → known ≡ Some size → OnTold seen (λ file. length file ≡ size)
length_told None known size law is = tt
length_told (Some file) known size law is = same (sym (law file refl) ∙ is)
  where
    same : {a b : ℕ} → Some a ≡ Some b → a ≡ b
    same is = cc

-- a disk whose file 0 was synced and read is ready
pub ready_read : (slots : RootSlots) (seen : Contents) (sizes : Lengths) (images : Image → Type 0) (size : ℕ) → ((file : List ℕ) → seen 0 ≡ Some file → sizes 0 ≡ Some (length file)) → sizes 0 ≡ Some size
    → (slots.made ≡ true → 2048 ≤ size) → (slots.made ≡ false → size < 2048)
    → OnTold (seen 0) (λ file. (image : Image) → images image → image 0 ≡ file)
    → OnTold (seen 0) (λ file. length file ≡ size → Stands slots file) → IsReady slots seen sizes images
ready_read slots seen sizes images size law known whole short durable stands = record {
  size = size;
  known = known;
  whole = whole;
  short = short;
  told = kept (seen 0) (length_told (seen 0) (sizes 0) size law known) durable stands;
}
  where
    kept : (told : Option (List ℕ)) → OnTold told (λ file. length file ≡ size) → OnTold told (λ file. (image : Image) → images image → image 0 ≡ file)
        → OnTold told (λ file. length file ≡ size → Stands slots file) → OnTold told (IsKept slots images)
    kept None long durable stands = tt
    kept (Some file) long durable stands = record { stands = stands long; durable = durable }

pub told_always : (seen : Option (List ℕ)) (P : List ℕ → Type 0) → ((file : List ℕ) → P file) → OnTold seen P
told_always None P holds = tt
told_always (Some file) P holds = holds file

pub told_as : (seen : Option (List ℕ)) (P Q : List ℕ → Type 0) → ((file : List ℕ) → P file → Q file) → OnTold seen P → OnTold seen Q
told_as None P Q step told = tt
told_as (Some file) P Q step told = step file told

-- ---- what is answered

module _ (seen : Contents) (sizes : Lengths) (images : Image → Type 0) (size : ℕ) (law : (file : List ℕ) → seen 0 ≡ Some file → sizes 0 ≡ Some (length file)) (known : sizes 0 ≡ Some size)
    (durable : OnTold (seen 0) (λ file. (image : Image) → images image → image 0 ≡ file)) where
  pub ready_short : size < 2048 → IsReady (value_of false None false) seen sizes images
  ready_short short = ready_read (value_of false None false) seen sizes images size law known (λ no. cc) (λ _. short) durable
      (told_always (seen 0) (λ file. length file ≡ size → Stands (value_of false None false) file) (λ file long. stands_short file (omega (arith, short, long))))

  pub ready_answer : (found : Found) (both : Bool) → 2048 ≤ size → OnTold (seen 0) (λ file. are_slots file found both) → IfOk (answer_of found both) (λ read. IsReady read.0 seen sizes images)
  ready_answer New both whole read = ready_read (value_of true None false) seen sizes images size law known (λ _. whole) (λ no. cc) durable
      (told_as (seen 0) (λ file. are_slots file New both) (λ file. length file ≡ size → Stands (value_of true None false) file) (λ file is long. stands_new file both (omega (arith, whole, long)) is) read)
  ready_answer (InForce slot root) both whole read =
      let slots = value_of true (Some (record { slot = slot; number = root.number })) both in
      ready_read slots seen sizes images size law known (λ _. whole) (λ no. cc) durable
      (told_as (seen 0) (λ file. are_slots file (InForce slot root) both) (λ file. length file ≡ size → Stands slots file) (λ file is long. stands_in_force file slot root both (omega (arith, whole, long)) is) read)
  ready_answer (Damaged place damage) both whole read = tt

-- a file that was read is as the answer says
pub begun_answer : (found : Found) (both : Bool) → IfOk (answer_of found both) (λ read. (read.0.step ≡ Begun) × (read.0.stopped ≡ false))
begun_answer New both = (refl, refl)
begun_answer (InForce slot root) both = (refl, refl)
begun_answer (Damaged place damage) both = tt

pub value_answer : (found : Found) (both : Bool) → IfOk (answer_of found both) (λ read. IsAsRead read.0 read.1)
value_answer New both = (refl, refl)
value_answer (InForce slot root) both = (refl, refl)
value_answer (Damaged place damage) both = tt

is_read : (found : Found) (both : Bool) → IsRead found (answer_of found both)
is_read New both = refl
is_read (InForce slot root) both = refl
is_read (Damaged place damage) both = refl

pub read_answer : (seen : Option (List ℕ)) (known : Option ℕ) (size : ℕ) (found : Found) (both : Bool) → ((file : List ℕ) → seen ≡ Some file → known ≡ Some (length file)) → known ≡ Some size → 2048 ≤ size
    → OnTold seen (λ file. are_slots file found both) → OnTold seen (λ file. IsRead (found_in file) (answer_of found both))
read_answer None known size found both law is whole read = tt
read_answer (Some file) known size found both law is whole read =
    let long : length file ≡ size = length_told (Some file) known size law is in
    subst (λ f. IsRead f (answer_of found both)) (read.0 ∙ sym (whole_found file (omega (arith, long, whole)))) (is_read found both)

pub read_short : (seen : Option (List ℕ)) (known : Option ℕ) (size : ℕ) → ((file : List ℕ) → seen ≡ Some file → known ≡ Some (length file)) → known ≡ Some size → size < 2048
    → OnTold seen (λ file. IsRead (found_in file) (Ok (value_of false None false, None)))
read_short None known size law is short = tt
read_short (Some file) known size law is short =
    let long : length file ≡ size = length_told (Some file) known size law is in
    subst (λ f. IsRead f (Ok (value_of false None false, None))) (sym (short_new file (omega (arith, long, short)))) refl

-- a reading that read both slots names no fault of the disk
pub never_device : (found : Found) (both : Bool) → IsErrOf (answer_of found both) Device → ⊥
never_device New both is = cc
never_device (InForce slot root) both is = cc
never_device (Damaged place damage) both is = cc

pub chosen_root : (a b : Content) → HoldsRoot a → HoldsRoot b → FindsRoot (chosen a b)
chosen_root a b first second = root_in_slots (chosen a b) a b (is_chosen a b) first second
  where
    root_in_slots : (found : Found) (a b : Content) → IsChosen found a b → HoldsRoot a → HoldsRoot b → FindsRoot found
    root_in_slots New a b is first second = tt
    root_in_slots (InForce First root) a b is first second = subst HoldsRoot is.0 first
    root_in_slots (InForce Second root) a b is first second = subst HoldsRoot is.0 second
    root_in_slots (Damaged place damage) a b is first second = tt

pub root_answer : (found : Found) (both : Bool) → FindsRoot found → IfOk (answer_of found both) (λ read. IfSome read.1 (λ root. is_root root ≡ true))
root_answer New both is = tt
root_answer (InForce slot root) both is = is
root_answer (Damaged place damage) both is = tt

pub never_stopped : (found : Found) (both : Bool) → IsErrOf (answer_of found both) Stopped → ⊥
never_stopped New both is = cc
never_stopped (InForce slot root) both is = cc
never_stopped (Damaged place damage) both is = cc

pub cause_answer : (before now : ℕ) (found : Found) (both : Bool) → now ≡ before → HasRootCause before now (answer_of found both)
cause_answer before now New both same = record { later = omega (arith, same); device = λ is. absurd (never_device New both is); other = tt; kept = same }
cause_answer before now (InForce slot root) both same = record { later = omega (arith, same); device = λ is. absurd (never_device (InForce slot root) both is); other = tt; kept = same }
cause_answer before now (Damaged place damage) both same = record { later = omega (arith, same); device = λ is. absurd (never_device (Damaged place damage) both is); other = λ _. same; kept = tt }

-- ---- what a reading says of a file, for the layers above

root_found : (found : Found) (slots : RootSlots) (root : Root) → IsRead found (Ok (slots, Some root)) → root_of found ≡ Some root
root_found New slots root is = cc
root_found (InForce slot other) slots root is = sym is
root_found (Damaged place damage) slots root is = absurd is

none_found : (found : Found) (slots : RootSlots) → IsRead found (Ok (slots, None)) → found ≡ New
none_found New slots is = refl
none_found (InForce slot other) slots is = cc
none_found (Damaged place damage) slots is = absurd is

pub root_told : (told : Option (List ℕ)) (slots : RootSlots) (root : Root) → OnTold told (λ file. IsRead (found_in file) (Ok (slots, Some root))) → OnTold told (λ file. root_in file ≡ Some root)
root_told None slots root is = tt
root_told (Some file) slots root is = root_found (found_in file) slots root is

pub none_told : (told : Option (List ℕ)) (slots : RootSlots) → OnTold told (λ file. IsRead (found_in file) (Ok (slots, None))) → OnTold told HasNoRoot
none_told None slots is = tt
none_told (Some file) slots is = none_found (found_in file) slots is

-- Which slot counts, as what the slots hold changes.
use Rattle.std.proofs.Common.{◌≡◌, refl, sym, ap, subst, ◌∙◌, ℕ, ◌<◌, ◌≤◌, List, length, Bool, true, false, nat_lt, Option, Some, None, arith}
use Rattle.std.specs.Prelude.{⊤, if◌then◌else◌}
use Rattle.std.proofs.lemmas.Bool.Decides.{nat_tests}
use Rattle.root_slots.specs.declared.root.Root.{Root}
use Rattle.root_slots.specs.declared.content.Slot.{Slot}
use Rattle.root_slots.specs.declared.content.Slot.TheVariants.{First, Second}
use Rattle.root_slots.specs.declared.content.Content.{Content}
use Rattle.root_slots.specs.declared.content.Content.TheVariants.{Closed, Open, Bad}
use Rattle.root_slots.specs.declared.content.Flaw.{Flaw}
use Rattle.root_slots.specs.declared.content.Flaw.TheVariants.{Count, WrongSum, Range}
use Rattle.root_slots.specs.declared.content.Found.{Found}
use Rattle.root_slots.specs.declared.content.Found.TheVariants.{New, InForce, Damaged}
use Rattle.root_slots.specs.declared.root_slots.Force.{Force}
use Rattle.root_slots.specs.Slot.{rank_of, damaged, chosen, content_at, found_in, other_of}
use Rattle.root_slots.specs.Slots.{IsForce, IsAbove, spare}

-- a slot that is not damaged
abbrev pub IsSound : Content → Type 0
IsSound Closed = ⊤
IsSound (Open root) = ⊤
IsSound (Bad flaw) = ⊥

-- what the slots hold where the file says so
abbrev pub IsChosen : Found → Content → Content → Type 0
IsChosen New a b = (a ≡ Closed) × (b ≡ Closed)
IsChosen (InForce First root) a b = (a ≡ Open root) × IsSound b
IsChosen (InForce Second root) a b = (b ≡ Open root) × IsSound a
IsChosen (Damaged place damage) a b = ⊤

either : (test : Bool) (x y : Found) (a b : Content) → IsChosen x a b → IsChosen y a b → IsChosen (if test then x else y) a b
either true x y a b first second = first
either false x y a b first second = second

damage_chosen : (slot : Slot) (flaw : Flaw) (a b : Content) → IsChosen (damaged slot flaw) a b
damage_chosen slot Count a b = tt
damage_chosen slot (WrongSum place kept found) a b = tt
damage_chosen slot Range a b = tt

pub is_chosen : (a b : Content) → IsChosen (chosen a b) a b
is_chosen (Bad first) (Bad second) =
    either (nat_lt (rank_of second) (rank_of first)) (damaged Second second) (damaged First first) (Bad first) (Bad second)
    (damage_chosen Second second (Bad first) (Bad second)) (damage_chosen First first (Bad first) (Bad second))
is_chosen (Bad first) Closed = damage_chosen First first (Bad first) Closed
is_chosen (Bad first) (Open root) = damage_chosen First first (Bad first) (Open root)
is_chosen Closed (Bad second) = damage_chosen Second second Closed (Bad second)
is_chosen (Open root) (Bad second) = damage_chosen Second second (Open root) (Bad second)
is_chosen Closed Closed = (refl, refl)
is_chosen (Open root) Closed = (refl, tt)
is_chosen Closed (Open root) = (refl, tt)
is_chosen (Open first) (Open second) = either (nat_lt first.number second.number) (InForce Second second) (InForce First first) (Open first) (Open second) (refl, tt) (refl, tt)

-- ---- in a file of two slots

pub whole_found : (file : List ℕ) → 2048 ≤ length file → found_in file ≡ chosen (content_at file First) (content_at file Second)
whole_found file whole =
    let all : nat_lt (length file) 2048 ≡ false = grind (arith, nat_tests) in
    ap (λ (b : Bool). if b then New else chosen (content_at file First) (content_at file Second)) all

chosen_in : (file : List ℕ) (found : Found) → 2048 ≤ length file → found_in file ≡ found → IsChosen found (content_at file First) (content_at file Second)
chosen_in file found whole is =
    let P : Found → Type 0 = λ f. IsChosen f (content_at file First) (content_at file Second) in
    subst P (sym (whole_found file whole) ∙ is) (is_chosen (content_at file First) (content_at file Second))

pub none_in : (file : List ℕ) (slot : Slot) → 2048 ≤ length file → found_in file ≡ New → content_at file slot ≡ Closed
none_in file First whole is = (chosen_in file New whole is).0
none_in file Second whole is = (chosen_in file New whole is).1

pub root_held : (file : List ℕ) (slot : Slot) (root : Root) → 2048 ≤ length file → found_in file ≡ InForce slot root → content_at file slot ≡ Open root
root_held file First root whole is = (chosen_in file (InForce First root) whole is).0
root_held file Second root whole is = (chosen_in file (InForce Second root) whole is).0

pub other_sound : (file : List ℕ) (slot : Slot) (root : Root) → 2048 ≤ length file → found_in file ≡ InForce slot root → IsSound (content_at file (other_of slot))
other_sound file First root whole is = (chosen_in file (InForce First root) whole is).1
other_sound file Second root whole is = (chosen_in file (InForce Second root) whole is).1

-- where the slots hold what they held, the file says what it said
pub same_found : (old new : List ℕ) (slot : Slot) → 2048 ≤ length old → 2048 ≤ length new → content_at new slot ≡ content_at old slot → content_at new (other_of slot) ≡ content_at old (other_of slot) → found_in new ≡ found_in old
same_found old new First whole whole' here there =
    whole_found new whole' ∙ ap (λ a. chosen a (content_at new Second)) here ∙ ap (chosen (content_at old First)) there ∙ sym (whole_found old whole)
same_found old new Second whole whole' here there =
    whole_found new whole' ∙ ap (λ a. chosen a (content_at new Second)) there ∙ ap (chosen (content_at old First)) here ∙ sym (whole_found old whole)

-- closing the other slot leaves a root in force
pub stays_in_force : (old new : List ℕ) (slot : Slot) (root : Root) → 2048 ≤ length old → 2048 ≤ length new → found_in old ≡ InForce slot root
    → content_at new slot ≡ content_at old slot → content_at new (other_of slot) ≡ Closed → found_in new ≡ InForce slot root
stays_in_force old new First root whole whole' is here shut =
    whole_found new whole' ∙ ap (λ a. chosen a (content_at new Second)) (here ∙ root_held old First root whole is) ∙ ap (chosen (Open root)) shut
stays_in_force old new Second root whole whole' is here shut =
    whole_found new whole' ∙ ap (chosen (content_at new First)) (here ∙ root_held old Second root whole is) ∙ ap (λ a. chosen a (Open root)) shut

-- a root in the first slot comes into force where none is
pub first_comes : (old new : List ℕ) (root : Root) → 2048 ≤ length old → 2048 ≤ length new → found_in old ≡ New
    → content_at new First ≡ Open root → content_at new Second ≡ content_at old Second → found_in new ≡ InForce First root
first_comes old new root whole whole' is opened there =
    whole_found new whole' ∙ ap (λ a. chosen a (content_at new Second)) opened ∙ ap (chosen (Open root)) (there ∙ none_in old Second whole is)

-- a root in the other slot with a greater number comes into force
pub other_comes : (old new : List ℕ) (slot : Slot) (root other : Root) → 2048 ≤ length old → 2048 ≤ length new → found_in old ≡ InForce slot root → root.number < other.number
    → content_at new slot ≡ content_at old slot → content_at new (other_of slot) ≡ Open other → found_in new ≡ InForce (other_of slot) other
other_comes old new First root other whole whole' is above here opened =
    let less : nat_lt root.number other.number ≡ true = grind (arith, nat_tests) in
    whole_found new whole' ∙ ap (λ a. chosen a (content_at new Second)) (here ∙ root_held old First root whole is) ∙ ap (chosen (Open root)) opened
    ∙ ap (λ (b : Bool). if b then InForce Second other else InForce First root) less
other_comes old new Second root other whole whole' is above here opened =
    let more : nat_lt other.number root.number ≡ false = grind (arith, nat_tests) in
    whole_found new whole' ∙ ap (chosen (content_at new First)) (here ∙ root_held old Second root whole is) ∙ ap (λ a. chosen a (Open root)) opened
    ∙ ap (λ (b : Bool). if b then InForce Second root else InForce First other) more

-- ---- by the value of the slots

pub none_found : (found : Found) → IsForce None found → found ≡ New
none_found New is = refl
none_found (InForce slot root) is = absurd is
none_found (Damaged place damage) is = absurd is

pub record HasRoot (force : Force) (found : Found) : Type 0 where
  pub root : Root
  pub is : found ≡ InForce force.slot root
  pub number : root.number ≡ force.number

pub some_found : (found : Found) (force : Force) → IsForce (Some force) found → HasRoot force found
some_found New force is = absurd is
some_found (InForce slot root) force is = record { root = root; is = ap (λ s. InForce s root) is.0; number = is.1 }
some_found (Damaged place damage) force is = absurd is

-- the root that was written into the other slot comes into force
pub comes_in : (force : Option Force) (old new : List ℕ) (root : Root) → 2048 ≤ length old → 2048 ≤ length new → IsForce force (found_in old) → IsAbove force root.number
    → content_at new (other_of (spare force)) ≡ content_at old (other_of (spare force)) → content_at new (spare force) ≡ Open root → found_in new ≡ InForce (spare force) root
comes_in None old new root whole whole' is above there opened = first_comes old new root whole whole' (none_found (found_in old) is) opened there
comes_in (Some force) old new root whole whole' is above there opened =
    let has = some_found (found_in old) force is in
    other_comes old new force.slot has.root root whole whole' has.is (omega (arith, above, has.number)) (back force.slot there) opened
  where
    back : (slot : Slot) → content_at new (other_of (other_of slot)) ≡ content_at old (other_of (other_of slot)) → content_at new slot ≡ content_at old slot
    back First same = same
    back Second same = same

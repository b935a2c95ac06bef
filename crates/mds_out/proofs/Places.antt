-- The files of slots, found by their numbers.
use Rattle.std.proofs.Common.{◌≡◌, ◌≢◌, ⊎_elim, ℕ, zero, suc, List, [], ◌∷◌, ◌++◌, get_or, set, map, cond, nat_eq, refl, sym, ◌∙◌, ap, arith}
use Rattle.std.proofs.lemmas.Bool.{cases_eq}
use Rattle.std.proofs.lemmas.Bool.Decides.{nat_tests}
use Rattle.mds_out.specs.Change.{Change}
use Rattle.mds_out.specs.declared.slots.Slot.{Slot}
use Rattle.mds_out.specs.declared.outcome.Outcome.{Outcome}
use Rattle.mds_out.specs.declared.outcome.Outcome.TheVariants.{Old, New, Mixed}
use Rattle.mds_out.specs.Content.{Content, at_rest, bytes_of, left_of, with_change}
use Rattle.mds_out.specs.Past.{Act, Changed, Synced, Restarted, acted}
use Rattle.mds_out.specs.Slots.{content_in, HasNone, IsFirst, HaveActed, AreAsBefore}

pub equal : {X : Type 0} (a b : ℕ) (x y : X) → a ≡ b → cond (nat_eq a b) x y ≡ x
equal a b x y is = grind (arith, nat_tests)

pub unequal : {X : Type 0} (a b : ℕ) (x y : X) → a ≢ b → cond (nat_eq a b) x y ≡ y
unequal a b x y isnt = grind (arith, nat_tests)

later_first : (slot : Slot) (slots : List Slot) (number place : ℕ) → IsFirst number (slot ∷ slots) (suc place) → IsFirst number slots place
later_first slot slots number place first = record { within = omega (arith, first.within); is = λ default. first.is default; before = λ other default lt. first.before (suc other) default (omega arith) }

-- a file that stands in its first slot
pub first_is : (slots : List Slot) (number place : ℕ) (default : Slot) → IsFirst number slots place → content_in slots number ≡ (get_or slots place default).file
first_is [] number place default first = absurd (omega (arith, first.within))
first_is (slot ∷ slots) number zero default first = equal slot.number number slot.file (content_in slots number) (first.is default)
first_is (slot ∷ slots) number (suc place) default first = unequal slot.number number slot.file (content_in slots number) (first.before 0 default (omega arith)) ∙ first_is slots number place default (later_first slot slots number place first)

-- a number without a slot
pub none_is : (slots : List Slot) (number : ℕ) → HasNone number slots → content_in slots number ≡ at_rest []
none_is [] number none = refl
none_is (slot ∷ slots) number none = unequal slot.number number slot.file (content_in slots number) (none.other 0 slot (omega arith)) ∙ none_is slots number (record { other = λ place default lt. none.other (suc place) default (omega arith) })

-- another file in the first slot of its number
pub set_first : (slots : List Slot) (number place other : ℕ) (slot : Slot) → IsFirst number slots place → slot.number ≡ number → content_in (set slots place slot) other ≡ cond (nat_eq number other) slot.file (content_in slots other)
set_first [] number place other slot first is = absurd (omega (arith, first.within))
set_first (old ∷ slots) number zero other slot first is = ⊎_elim
    (λ (here : number ≡ other). equal slot.number other slot.file (content_in slots other) (is ∙ here) ∙ sym (equal number other slot.file (content_in (old ∷ slots) other) here))
    (λ (apart : number ≢ other). unequal slot.number other slot.file (content_in slots other) (λ same. apart (sym is ∙ same)) ∙ sym (unequal old.number other old.file (content_in slots other) (λ same. apart (sym (first.is old) ∙ same))) ∙ sym (unequal number other slot.file (content_in (old ∷ slots) other) apart))
    (cases_eq number other)
set_first (old ∷ slots) number (suc place) other slot first is =
    let rest = set_first slots number place other slot (later_first old slots number place first) is in
    let not_here : old.number ≢ number = first.before 0 old (omega arith) in
    ⊎_elim
    (λ (here : number ≡ other). unequal old.number other old.file (content_in (set slots place slot) other) (λ same. not_here (same ∙ sym here)) ∙ rest ∙ equal number other slot.file (content_in slots other) here ∙ sym (equal number other slot.file (content_in (old ∷ slots) other) here))
    (λ (apart : number ≢ other). ap (λ c. cond (nat_eq old.number other) old.file c) (rest ∙ unequal number other slot.file (content_in slots other) apart) ∙ sym (unequal number other slot.file (content_in (old ∷ slots) other) apart))
    (cases_eq number other)

-- an empty file in a new slot
pub push_empty : (slots : List Slot) (other : ℕ) (slot : Slot) → slot.file ≡ at_rest [] → content_in (slots ++ slot ∷ []) other ≡ content_in slots other
push_empty [] other slot empty = ⊎_elim (λ (here : slot.number ≡ other). equal slot.number other slot.file (at_rest []) here ∙ empty) (λ (apart : slot.number ≢ other). unequal slot.number other slot.file (at_rest []) apart) (cases_eq slot.number other)
push_empty (old ∷ slots) other slot empty = ap (λ c. cond (nat_eq old.number other) old.file c) (push_empty slots other slot empty)

-- what was done to the file in the first slot of its number
pub file_acted : (slots : List Slot) (number place : ℕ) (slot : Slot) (outcome : Outcome) (act : Act) → IsFirst number slots place → slot.number ≡ number → slot.file ≡ acted outcome number (content_in slots number) act
    → ((other : ℕ) (content : Content) → other ≢ number → acted outcome other content act ≡ content) → HaveActed outcome act slots (set slots place slot)
file_acted slots number place slot outcome act first is done others = record {
  each = λ other. ⊎_elim
      (λ (here : number ≡ other). set_first slots number place other slot first is ∙ equal number other slot.file (content_in slots other) here ∙ done ∙ ap (λ n. acted outcome n (content_in slots n) act) here)
      (λ (apart : number ≢ other). set_first slots number place other slot first is ∙ unequal number other slot.file (content_in slots other) apart ∙ sym (others other (content_in slots other) (λ same. apart (sym same))))
      (cases_eq number other);
}

pub changed_here : (outcome : Outcome) (number : ℕ) (content : Content) (change : Change) → acted outcome number content (Changed number change) ≡ with_change content change
changed_here outcome number content change = equal number number (with_change content change) content refl

pub changed_others : (outcome : Outcome) (number : ℕ) (change : Change) (other : ℕ) (content : Content) → other ≢ number → acted outcome other content (Changed number change) ≡ content
changed_others outcome number change other content apart = unequal number other (with_change content change) content (λ same. apart (sym same))

pub synced_here : (outcome : Outcome) (number : ℕ) (content : Content) → acted outcome number content (Synced number) ≡ at_rest (bytes_of content)
synced_here outcome number content = equal number number (at_rest (bytes_of content)) content refl

pub synced_others : (outcome : Outcome) (number other : ℕ) (content : Content) → other ≢ number → acted outcome other content (Synced number) ≡ content
synced_others outcome number other content apart = unequal number other (at_rest (bytes_of content)) content (λ same. apart (sym same))

-- a file that was never written is the same after a sync
pub synced_none : (slots : List Slot) (number : ℕ) (outcome : Outcome) → HasNone number slots → HaveActed outcome (Synced number) slots slots
synced_none slots number outcome none = record {
  each = λ other. ⊎_elim
      (λ (here : other ≡ number). let empty : content_in slots other ≡ at_rest [] = ap (content_in slots) here ∙ none_is slots number none in
      empty ∙ sym (ap (λ c. acted outcome other c (Synced number)) empty ∙ ap (λ n. acted outcome n (at_rest []) (Synced number)) here ∙ synced_here outcome number (at_rest [])))
      (λ (apart : other ≢ number). sym (synced_others outcome number other (content_in slots other) apart))
      (cases_eq other number);
}

-- what a restart leaves in each slot
abbrev pub restarted : Outcome → Slot → Slot
restarted outcome slot = record { number = slot.number; file = at_rest (left_of outcome slot.file) }

left_empty : (outcome : Outcome) → at_rest [] ≡ at_rest (left_of outcome (at_rest []))
left_empty Old = refl
left_empty New = refl
left_empty Mixed = refl

restarted_in : (outcome : Outcome) (slots : List Slot) (number : ℕ) → content_in (map (restarted outcome) slots) number ≡ at_rest (left_of outcome (content_in slots number))
restarted_in outcome [] number = left_empty outcome
restarted_in outcome (slot ∷ slots) number = ⊎_elim
    (λ (here : slot.number ≡ number). equal slot.number number (at_rest (left_of outcome slot.file)) (content_in (map (restarted outcome) slots) number) here ∙ sym (ap (λ c. at_rest (left_of outcome c)) (equal slot.number number slot.file (content_in slots number) here)))
    (λ (apart : slot.number ≢ number). unequal slot.number number (at_rest (left_of outcome slot.file)) (content_in (map (restarted outcome) slots) number) apart ∙ restarted_in outcome slots number ∙ sym (ap (λ c. at_rest (left_of outcome c)) (unequal slot.number number slot.file (content_in slots number) apart)))
    (cases_eq slot.number number)

pub restarted_all : (outcome : Outcome) (old new : List Slot) → new ≡ map (restarted outcome) old → HaveActed outcome Restarted old new
restarted_all outcome old new is = record { each = λ number. ap (λ l. content_in l number) is ∙ restarted_in outcome old number }

-- a sync of the file in the first slot of its number
pub synced_place : (slots : List Slot) (number place : ℕ) (now : Slot) (file : Content) → IsFirst number slots place → now ≡ get_or slots place now → file ≡ at_rest (bytes_of now.file)
    → (outcome : Outcome) → HaveActed outcome (Synced number) slots (set slots place (record { number = now.number; file = file }))
synced_place slots number place now file first is done outcome =
    file_acted slots number place (record { number = now.number; file = file }) outcome (Synced number) first (ap (λ (s : Slot). s.number) is ∙ first.is now)
    (done ∙ ap (λ (s : Slot). at_rest (bytes_of s.file)) is ∙ ap (λ c. at_rest (bytes_of c)) (sym (first_is slots number place now first)) ∙ sym (synced_here outcome number (content_in slots number)))
    (λ other content apart. synced_others outcome number other content apart)

-- a change of the file in the first slot of its number, which may have been made before
pub changed_place : (old slots : List Slot) (number place : ℕ) (now : Slot) (file : Content) (change : Change) → AreAsBefore old slots → IsFirst number slots place → now ≡ get_or slots place now → file ≡ with_change now.file change
    → (outcome : Outcome) → HaveActed outcome (Changed number change) old (set slots place (record { number = now.number; file = file }))
changed_place old slots number place now file change same first is done outcome =
    let acted = file_acted slots number place (record { number = now.number; file = file }) outcome (Changed number change) first (ap (λ (s : Slot). s.number) is ∙ first.is now)
    (done ∙ ap (λ (s : Slot). with_change s.file change) is ∙ ap (λ c. with_change c change) (sym (first_is slots number place now first)) ∙ sym (changed_here outcome number (content_in slots number) change))
    (λ other content apart. changed_others outcome number change other content apart) in
    record { each = λ other. acted.each other ∙ ap (λ c. cond (nat_eq number other) (with_change c change) c) (same.each other) }

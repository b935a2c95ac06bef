-- The entries that records tell of, one after another.
use Rattle.std.proofs.Common.{◌≡◌, ◌∙◌, sym, ap, refl, ℕ, zero, suc, ◌+◌, ◌<◌, ◌≤◌, List, [], ◌∷◌, ◌++◌, length, take, take_all, get_or, append_assoc, Option, Some, None, Result, Err, arith}
use Rattle.std.specs.List.{cons_option}
use Rattle.std.specs.Prelude.{Bool, true, false}
use Rattle.std.specs.Prelude.{map as list_map}
use Rattle.std.proofs.lemmas.List.{append-nil, map-append, take-append-le, take_more}
use Rattle.std.proofs.lemmas.List.Elements.{filter_map-append}
use Rattle.records.specs.declared.record.Record.{Record}
use Rattle.records.specs.declared.record.Record.TheVariants.{Served}
use Rattle.world.specs.Histories as past
use Rattle.world.specs.Histories.{History}
use Rattle.message_store.specs.declared.made.Made.{Made}
use Rattle.mds_base.specs.declared.store_fault.StoreFault.{StoreFault}
use Rattle.simulation.specs.Entries.{change_of, changes_of, with_one}
use Rattle.simulation.specs.Shows.{made_of}
use Rattle.simulation.specs.Stores.{entries_left}

one_change : (item : Record) (made : List Made) → with_one made (change_of item) ≡ made ++ changes_of (item ∷ [])
one_change item made = by_option (change_of item)
  where
    by_option : (o : Option Made) → with_one made o ≡ made ++ cons_option o []
    by_option None = sym (append-nil made)
    by_option (Some x) = refl

pub changes_more : (front : List Made) (items : List Record) (k : ℕ) (item : Record) (made made' : List Made) → made ≡ front ++ changes_of (take k items) → k < length items → item ≡ get_or items k item → made' ≡ with_one made (change_of item) → made' ≡ front ++ changes_of (take (k + 1) items)
changes_more front items k item made made' so_far below read more =
    more ∙ one_change item made ∙ ap (λ l. l ++ changes_of (item ∷ [])) so_far ∙ append_assoc front (changes_of (take k items)) (changes_of (item ∷ []))
    ∙ ap (λ l. front ++ l) (sym (ap changes_of (take_more items k item below ∙ ap (λ x. take k items ++ x ∷ []) (sym read)) ∙ filter_map-append change_of (take k items) (item ∷ [])))

take_whole : (items : List Record) (k : ℕ) → length items ≤ k → take k items ≡ items
take_whole [] zero e = refl
take_whole [] (suc k) e = refl
take_whole (x ∷ items) zero e = absurd (omega (arith, e))
take_whole (x ∷ items) (suc k) e = ap (λ l. x ∷ l) (take_whole items k (omega (arith, e)))

pub changes_all : (front : List Made) (items : List Record) (k : ℕ) (all : List Record) (made : List Made) → made ≡ front ++ changes_of (take k items) → length items ≤ k → items ≡ all → made ≡ front ++ changes_of all
changes_all front items k all made so_far whole same = so_far ∙ ap (λ l. front ++ changes_of l) (take_whole items k whole ∙ same)

-- ---- what a history notes of records

pub one_made : (h : History) (item : Record) → list_map made_of (past.replayed_one h item true).made ≡ list_map made_of h.made ++ changes_of (item ∷ [])
one_made h (Served client seq part call said) = map-append made_of h.made _
one_made h item = sym (append-nil (list_map made_of h.made))

pub one_answered : (h : History) (item : Record) (b : Bool) → (past.replayed_one h item b).answered ≡ h.answered
one_answered h (Served client seq part call said) true = refl
one_answered h (Served client seq part call said) false = refl
one_answered h item b = refl

pub recorded_made : (h : History) (items : List Record) → list_map made_of (past.recorded h items).made ≡ list_map made_of h.made ++ changes_of items
recorded_made h [] = sym (append-nil (list_map made_of h.made))
recorded_made h (item ∷ items) =
    recorded_made (past.replayed_one h item true) items
    ∙ ap (λ l. l ++ changes_of items) (one_made h item)
    ∙ append_assoc (list_map made_of h.made) (changes_of (item ∷ [])) (changes_of items)
    ∙ ap (λ l. list_map made_of h.made ++ l) (sym (filter_map-append change_of (item ∷ []) items))

pub recorded_answered : (h : History) (items : List Record) → (past.recorded h items).answered ≡ h.answered
recorded_answered h [] = refl
recorded_answered h (item ∷ items) = recorded_answered (past.replayed_one h item true) items ∙ one_answered h item true

-- ---- the entries that are left after a restart

pub none_left : (made all : List Made) (doubt : List Record) (restarted : Result ℕ StoreFault) (before len left : ℕ) (fault : StoreFault) → restarted ≡ Err fault → before ≡ length made
    → all ≡ made ++ changes_of doubt → left ≡ entries_left restarted before len → take left all ≡ made
none_left made all doubt restarted before len left fault failed short whole is =
    (λ i. take ((is ∙ ap (λ r. entries_left r before len) failed ∙ short) i) (whole i)) ∙ take-append-le (length made) made (changes_of doubt) (omega arith) ∙ take_all (length made) made (omega arith)

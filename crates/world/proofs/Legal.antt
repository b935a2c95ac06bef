-- A legal history that grows at its end.
use Rattle.std.proofs.Common.{◌≡◌, ◌∙◌, sym, ap, subst, ℕ, ◌≤◌, false, List, [], ◌∷◌, ◌++◌, nat_eq, inl, inr}
use Rattle.std.specs.Prelude.{◌⊎◌}
use Rattle.std.specs.List.{AllByRecursion, IsDistinct}
use Rattle.std.proofs.lemmas.List.{append-nil, map-append}
use Rattle.mds_base.specs.declared.entry.Entry.{Entry}
use Rattle.mds_base.specs.Entries.{Entries}
use Rattle.mds_base.specs.PlainRules.{Allows, after, given_by}
use Rattle.mds_base.specs.History.{IsLegal, EachAllowed, given, map_after}
use Rattle.mds_base.proofs.Lists.{all_push, distinct_push}
use Rattle.mds_base.proofs.Histories.{leads_on, given-append, allowed_both}
use Rattle.world.specs.Histories.{MadeV, entries_of}

pub entries_push : (made : List MadeV) (e : MadeV) → entries_of (made ++ e ∷ []) ≡ entries_of made ++ e.entry ∷ []
entries_push made e = map-append (λ (x : MadeV). x.entry) made (e ∷ [])

-- what an entry at the end of a history gives: nothing, or a number that is at least 2 and was not given before
pub record GivesFresh (history : List Entry) (number : ℕ) : Type 0 where
  pub from_two : 2 ≤ number
  pub apart : AllByRecursion (λ x. nat_eq x number ≡ false) (given history)

abbrev pub GivesWell : List Entry → List ℕ → Type 0
GivesWell history numbers = (numbers ≡ []) ⊎ ((number : ℕ) × (numbers ≡ number ∷ []) × GivesFresh history number)

pub given_push : (history : List Entry) (e : Entry) → given (history ++ e ∷ []) ≡ given history ++ given_by e.call e.reply
given_push history e = given-append history (e ∷ []) ∙ ap (λ ns. given history ++ ns) (append-nil (given_by e.call e.reply))

pub legal_push : (start : Entries) (history : List Entry) (e : Entry) → IsLegal start history → Allows (map_after start history) e.call e.reply → GivesWell history (given_by e.call e.reply) → IsLegal start (history ++ e ∷ [])
legal_push start history e legal allowed gives =
    let all : EachAllowed start (history ++ e ∷ []) = allowed_both start history (e ∷ []) legal.allowed (allowed, tt) in
    elim gives [
      | inl none ↦
          let same : given (history ++ e ∷ []) ≡ given history = given_push history e ∙ ap (λ ns. given history ++ ns) none ∙ append-nil (given history) in
          record {
            allowed = all;
            from_two = subst (AllByRecursion (λ n. 2 ≤ n)) (sym same) legal.from_two;
            once = subst (IsDistinct nat_eq) (sym same) legal.once;
          }
      | inr one ↦
          let same : given (history ++ e ∷ []) ≡ given history ++ one.0 ∷ [] = given_push history e ∙ ap (λ ns. given history ++ ns) one.1 in
          record {
            allowed = all;
            from_two = subst (AllByRecursion (λ n. 2 ≤ n)) (sym same) (all_push (λ n. 2 ≤ n) (given history) one.0 legal.from_two one.2.from_two);
            once = subst (IsDistinct nat_eq) (sym same) (distinct_push (given history) one.0 legal.once one.2.apart);
          }
    ]

pub map_push : (start : Entries) (history : List Entry) (e : Entry) → map_after start (history ++ e ∷ []) ≡ after (map_after start history) e.call e.reply
map_push start history e = leads_on start history (e ∷ [])

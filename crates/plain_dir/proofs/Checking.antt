-- A history that is tested entry by entry.
use Rattle.std.proofs.Common.{◌≡◌, ◌∙◌, sym, ap, subst, ℕ, ◌+◌, ◌<◌, ◌≤◌, List, [], ◌∷◌, ◌++◌, length, take, get_or, nat_eq}
use Rattle.std.specs.List.{AllByRecursion, IsDistinct}
use Rattle.std.specs.FinMap as map
use Rattle.std.proofs.lemmas.List.{take_more, take_all}
use Rattle.mds_base.specs.declared.entry.Entry.{Entry}
use Rattle.mds_base.specs.Entries.{Entries}
use Rattle.mds_base.specs.PlainRules.{Allows, after, given_by}
use Rattle.mds_base.specs.History.{IsLegal, map_after, given}
use Rattle.mds_base.proofs.Histories.{leads_on, given_more, one_more, more_legal}
use Rattle.mds_base.proofs.Lists.{all_rest, distinct_rest}
use Rattle.plain_dir.specs.declared.check.Check.TheVariants.{Breaks}
use Rattle.plain_dir.specs.Numbers.{IsNew}
use Rattle.plain_dir.specs.Checks.{IsCheckOf}
use Rattle.plain_dir.proofs.Giving.{distinct_both, distinct_apart}

-- the entries before a place are legal, and leave this map and these numbers
pub record SoFar (history : List Entry) (place : ℕ) (entries : Entries) (numbers : List ℕ) : Type 0 where
  pub legal : IsLegal map.empty (take place history)
  pub stands : entries ≡ map_after map.empty (take place history)
  pub gave : numbers ≡ given (take place history)

one_entry : (history : List Entry) (place : ℕ) (entry : Entry) → place < length history → entry ≡ get_or history place entry → take (place + 1) history ≡ take place history ++ entry ∷ []
one_entry history place entry below read = take_more history place entry below ∙ ap (λ e. take place history ++ e ∷ []) (sym read)

pub goes_on : (history : List Entry) (place : ℕ) (entries entries' : Entries) (numbers numbers' : List ℕ) (entry : Entry) → SoFar history place entries numbers → place < length history → entry ≡ get_or history place entry → Allows entries entry.call entry.reply × (entries' ≡ after entries entry.call entry.reply) → IsNew numbers (given_by entry.call entry.reply) × (numbers' ≡ numbers ++ given_by entry.call entry.reply) → SoFar history (place + 1) entries' numbers'
goes_on history place entries entries' numbers numbers' entry so_far below read step gives =
    let front = take place history in
    let more = given_by entry.call entry.reply in
    let next = one_entry history place entry below read in
    let allowed = subst (λ m. Allows m entry.call entry.reply) so_far.stands step.0 in
    let once = subst (λ ns. IsDistinct nat_eq (ns ++ more)) so_far.gave (distinct_both numbers more (subst (IsDistinct nat_eq) (sym so_far.gave) so_far.legal.once) gives.0.once gives.0.apart) in
    record {
      legal = subst (IsLegal map.empty) (sym next) (one_more map.empty front entry so_far.legal allowed gives.0.from_two once);
      stands = step.1 ∙ ap (λ m. after m entry.call entry.reply) so_far.stands ∙ sym (leads_on map.empty front (entry ∷ [])) ∙ ap (map_after map.empty) (sym next);
      gave = gives.1 ∙ ap (λ ns. ns ++ more) so_far.gave ∙ sym (given_more front entry) ∙ ap given (sym next);
    }

pub reply_breaks : (history : List Entry) (place : ℕ) (entries : Entries) (numbers : List ℕ) (entry : Entry) → SoFar history place entries numbers → place < length history → entry ≡ get_or history place entry → (Allows entries entry.call entry.reply → ⊥) → IsCheckOf history (Breaks place)
reply_breaks history place entries numbers entry so_far below read refuses = (
  below,
  so_far.legal,
  λ legal. refuses (subst (λ m. Allows m entry.call entry.reply) (sym so_far.stands) (more_legal map.empty (take place history) entry (subst (IsLegal map.empty) (one_entry history place entry below read) legal))),
)

pub number_breaks : (history : List Entry) (place : ℕ) (entries : Entries) (numbers : List ℕ) (entry : Entry) → SoFar history place entries numbers → place < length history → entry ≡ get_or history place entry → (IsNew numbers (given_by entry.call entry.reply) → ⊥) → IsCheckOf history (Breaks place)
number_breaks history place entries numbers entry so_far below read refuses = (
  below,
  so_far.legal,
  λ legal.
      let front = take place history in
      let more = given_by entry.call entry.reply in
      let whole = subst (IsLegal map.empty) (one_entry history place entry below read) legal in
      let once = subst (IsDistinct nat_eq) (given_more front entry) whole.once in
      refuses (record {
        from_two = all_rest (λ number. 2 ≤ number) (given front) more (subst (AllByRecursion (λ number. 2 ≤ number)) (given_more front entry) whole.from_two);
        once = distinct_rest (given front) more once;
        apart = distinct_apart numbers more (subst (λ ns. IsDistinct nat_eq (ns ++ more)) (sym so_far.gave) once);
      }),
)

pub nothing_yet : (history : List Entry) (entries : Entries) (numbers : List ℕ) → entries ≡ map.empty → numbers ≡ [] → SoFar history 0 entries numbers
unfolding IsDistinct
nothing_yet history entries numbers none gave = record { legal = record { allowed = tt; from_two = tt; once = tt }; stands = none; gave = gave }

pub all_legal : (history : List Entry) (place : ℕ) (entries : Entries) (numbers : List ℕ) → SoFar history place entries numbers → length history ≤ place → IsLegal map.empty history
all_legal history place entries numbers so_far past = subst (IsLegal map.empty) (take_all place history past) so_far.legal

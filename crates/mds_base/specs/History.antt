-- Legal histories: lists of calls with their replies, as one plain directory could have answered them in that order.
use Rattle.std.specs.Prelude.{◌≡◌, ℕ, ◌≤◌, List, [], ◌∷◌, ◌++◌, nat_eq}
use Rattle.std.specs.List.{AllByRecursion, IsDistinct}
use Rattle.mds_base.specs.declared.entry.Entry.{Entry}
use Rattle.mds_base.specs.declared.call.Call.TheVariants.{Lookup}
use Rattle.mds_base.specs.Entries.{Place, Entries}
use Rattle.mds_base.specs.PlainRules.{Allows, after, places_of, given_by}

-- the map after the entries
abbrev pub map_after : Entries → List Entry → Entries
map_after start [] = start
map_after start (entry ∷ more) = map_after (after start entry.call entry.reply) more

-- each reply is one that the plain rules allow at its place
abbrev pub EachAllowed : Entries → List Entry → Type 0
EachAllowed start [] = Unit {0}
EachAllowed start (entry ∷ more) =
    Allows start entry.call entry.reply × EachAllowed (after start entry.call entry.reply) more

-- the directory numbers that the entries give, in their order
abbrev pub given : List Entry → List ℕ
given [] = []
given (entry ∷ more) = given_by entry.call entry.reply ++ given more

-- each reply is allowed at its place; the numbers given are at least 2, and none is given twice
pub record IsLegal (start : Entries) (history : List Entry) : Type 0 where
  pub allowed : EachAllowed start history
  pub from_two : AllByRecursion (λ number. 2 ≤ number) (given history)
  pub once : IsDistinct nat_eq (given history)

-- no entry speaks of the place
abbrev pub Spares : Place → List Entry → Type 0
Spares place = AllByRecursion (λ entry. AllByRecursion (λ other. place ≡ other → ⊥) (places_of entry.call entry.reply))

-- the entry is one of a lookup
abbrev pub IsLookup : Entry → Type 0
IsLookup entry = (dir : ℕ) × (name : List ℕ) × (entry.call ≡ Lookup dir name)

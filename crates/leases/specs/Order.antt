-- The ends of leases in the order in which they come, beside the map from names to ends.
use Rattle.std.specs.Prelude.{◌≡◌, ℕ, ◌==◌, Bool, false, List, Option, Some, None}
use Rattle.std.specs.declared.cmp.Ordering.{Ordering}
use Rattle.std.specs.List.{list_any}
use Rattle.std.specs.Ordering.{nat_cmp, ordering_then}
use Rattle.std.specs.Cmp.Lexicographic.{slice_cmp}
use Rattle.std.specs.BTreeMap.{is_at}
use Rattle.std.specs.FinMap as map
use Rattle.leases.specs.declared.ending.Ending.{Ending}
use Rattle.leases.specs.Leases.{Ends}

-- by the moment, and then by the bytes of the name
abbrev pub ending_cmp : Ending → Ending → Ordering
ending_cmp a b = ordering_then (nat_cmp a.until b.until) (slice_cmp nat_cmp a.name b.name)

-- whether an ending is among these
abbrev pub has_ending : List Ending → Ending → Bool
has_ending endings e = list_any (is_at (ending_cmp e)) endings

abbrev pub is_end : Option ℕ → ℕ → Bool
is_end None until = false
is_end (Some end) until = end == until

-- the map that entries by names make
abbrev pub ends_of : List (List ℕ × ℕ) → Ends
ends_of entries = map.from_entries entries

-- the endings are those of the map: of each name that has an end this one, and no other
abbrev pub AreEndings : List Ending → Ends → Type 0
AreEndings endings ends = (e : Ending) → has_ending endings e ≡ is_end (map.get ends e.name) e.until

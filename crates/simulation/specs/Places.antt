-- The places that marks tell of.
use Rattle.std.specs.Prelude.{ℕ, ◌+◌, Bool, true, false, List, [], ◌∷◌}
use Rattle.std.specs.FinSet as set
use Rattle.std.specs.Ordering.{nat_cmp}

-- the places that are marked, where the marks are those of this place and the ones behind it
abbrev pub places_from : ℕ → List Bool → set.FinSet nat_cmp
places_from at [] = set.empty
places_from at (true ∷ marks) = set.insert (places_from (at + 1) marks) at
places_from at (false ∷ marks) = places_from (at + 1) marks

abbrev pub places_of : List Bool → set.FinSet nat_cmp
places_of marks = places_from 0 marks

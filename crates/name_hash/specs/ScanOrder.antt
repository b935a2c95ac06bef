-- The order in which a scan gives the names of one directory.
use Rattle.std.specs.Prelude.{ℕ, List}
use Rattle.std.specs.List.Sorted.{IsSorted}
use Rattle.std.specs.Ordering.{nat_cmp, ordering_then}
use Rattle.std.specs.declared.cmp.Ordering.{Ordering}
use Rattle.std.specs.Cmp.Lexicographic.{slice_cmp}
use Rattle.chains.specs.Reversed.{reversed}
use Rattle.name_hash.specs.NameHash.{hash_of}

-- the hash of a name with its 64 bits in the opposite order
abbrev pub place_of : List ℕ → ℕ
place_of name = reversed 64 (hash_of name)

-- names are ordered by their places, and at one place by their bytes
abbrev pub scan_cmp : List ℕ → List ℕ → Ordering
scan_cmp a b = ordering_then (nat_cmp (place_of a) (place_of b)) (slice_cmp nat_cmp a b)

-- the names of a list are in that order
abbrev pub IsScanSorted : List (List ℕ) → Type 0
IsScanSorted names = IsSorted scan_cmp names

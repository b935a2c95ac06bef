-- Leases: what a partition keeps of the leases that it granted, the ends by names and one floor.
use Rattle.std.specs.Prelude.{ℕ, max, List, unwrap_or, nat_lt}
use Rattle.std.specs.List.{fold}
use Rattle.std.specs.Ordering.{nat_cmp}
use Rattle.std.specs.Cmp.Lexicographic.{slice_cmp}
use Rattle.std.specs.FinMap as map

-- for each name the moment at which the last of its leases ends
abbrev pub Ends : Type 0
Ends = map.FinMap (slice_cmp nat_cmp) ℕ

pub record LeasesV : Type 0 where
  pub ends : Ends
  -- a lease that is not kept here, of an earlier life or of another server, ends at this moment at the latest
  pub floor : ℕ

-- no lease was granted
abbrev pub unleased : ℕ → LeasesV
unleased floor = record { ends = map.empty; floor = floor }

-- the end that is kept of a name, 0 where none is
abbrev pub end_of : Ends → List ℕ → ℕ
end_of ends name = unwrap_or (map.get ends name) 0

-- the leases once one on this name was granted until this moment: of two ends the greater is kept
abbrev pub granted : LeasesV → List ℕ → ℕ → LeasesV
granted leases name until = record leases { ends = map.insert leases.ends name (max (end_of leases.ends name) until) }

-- the moment before which this name is not to be changed
abbrev pub held_until : LeasesV → List ℕ → ℕ
held_until leases name = max (end_of leases.ends name) leases.floor

-- the moment from which on every name may be changed: the greatest of the floor and all ends
abbrev pub top : LeasesV → ℕ
top leases = fold max leases.floor (map.values leases.ends)

-- the ends that are above this moment
abbrev pub ends_above : Ends → ℕ → Ends
ends_above ends now = map.retain_keys ends (λ name. nat_lt now (end_of ends name))

-- the leases without the ends that are not above this moment
abbrev pub swept : LeasesV → ℕ → LeasesV
swept leases now = record leases { ends = ends_above leases.ends now }

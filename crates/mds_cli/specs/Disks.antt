-- Disks that come back from a run.
use Rattle.std.specs.Prelude.{ℕ, ◌^◌, ◌<◌, List, Option, Some, None}
use Rattle.std.specs.List.{slice_get}
use Rattle.mds_out.specs.Fused.{Fused}
use Rattle.node_store.specs.Store.{Store}
use Rattle.simulation.specs.Payments.{LeadsOn}

-- there is a disk exactly where there was a server, and it is that server's, of which calls alone were made
abbrev pub LeadsTo : {D : Type 0} → (D → D → Type 0) → Option (Store (Fused D)) → Option D → Type 0
LeadsTo lasts None None = Unit {0}
LeadsTo lasts None (Some disk) = ⊥
LeadsTo lasts (Some store) None = ⊥
LeadsTo lasts (Some store) (Some disk) = LeadsOn lasts store.disk.inner disk

-- so it is at each place
abbrev pub LeadToDisks : {D : Type 0} → (D → D → Type 0) → List (Store (Fused D)) → List D → Type 0
LeadToDisks lasts stores disks = (s : ℕ) → s < 2 ^ 64 → LeadsTo lasts (slice_get stores s) (slice_get disks s)

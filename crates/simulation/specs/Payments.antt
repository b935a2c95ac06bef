-- What pays for the stops of servers that no line asked for: faults of their disks, and fuses that were armed.
use Rattle.std.specs.Prelude.{◌⊎◌, ℕ, ◌+◌, ◌-◌, ◌^◌, ◌≤◌, ◌&&◌, ◌==◌, if◌then◌else◌, is_some, List, Option, Some, None}
use Rattle.std.specs.Prelude.{Result, Ok}
use Rattle.std.specs.List.{slice_get}
use Rattle.std.specs.declared.alloc.AllocError.{AllocError}
use Rattle.mds_base.specs.declared.store_fault.StoreFault.{StoreFault}
use Rattle.mds_out.specs.Fused.{Fused}
use Rattle.node_store.specs.Store.{Store}
use Rattle.simulation.specs.declared.servers.Served.{Served}
use Rattle.simulation.specs.declared.servers.Served.TheVariants as serves
use Rattle.simulation.specs.declared.servers.Restarted.{Restarted}
use Rattle.simulation.specs.declared.servers.Restarted.TheVariants as restarts

-- 1 where a server is up on a disk whose fuse is armed, else 0
abbrev pub armed_of : {D : Type 0} → Option (Store (Fused D)) → ℕ
armed_of None = 0
armed_of (Some store) = if is_some store.up && is_some store.disk.left then 1 else 0

-- how often the disk of a server has failed, the fuse left out
abbrev pub own_faults : {D : Type 0} → (D → ℕ) → Option (Store (Fused D)) → ℕ
own_faults faults None = 0
own_faults faults (Some store) = faults store.disk.inner

-- whatever disk calls alone made the one of, they made the other of
abbrev pub LeadsOn : {D : Type 0} → (D → D → Type 0) → D → D → Type 0
LeadsOn {D = D} lasts old new = (first : D) → lasts first old → lasts first new

-- so it is of the disks of a server, the fuse left out; and the server is there exactly where it was
abbrev pub LastsOn : {D : Type 0} → (D → D → Type 0) → Option (Store (Fused D)) → Option (Store (Fused D)) → Type 0
LastsOn lasts None None = Unit {0}
LastsOn lasts None (Some new) = ⊥
LastsOn lasts (Some old) None = ⊥
LastsOn lasts (Some old) (Some new) = LeadsOn lasts old.disk.inner new.disk.inner

-- From one moment to another a server's device stopped it so often, and its fuse was armed so often: each of these
-- stops took a fault of the disk or an armed fuse, unless the count of faults stands at the greatest u64. And it is the
-- same disk, of which calls alone were made.
pub record IsPaid {D : Type 0} (faults : D → ℕ) (lasts : D → D → Type 0) (old new : Option (Store (Fused D)))
    (stops fuses : ℕ) : Type 0 where
  pub on : LastsOn lasts old new
  pub later : own_faults faults old ≤ own_faults faults new
  pub paid : (stops + (armed_of new + own_faults faults old) ≤ own_faults faults new + (armed_of old + fuses))
      ⊎ (2 ^ 64 - 1 ≤ own_faults faults new)

-- so it is of each server
abbrev pub ArePaid : {D : Type 0} → (D → ℕ) → (D → D → Type 0) → List (Store (Fused D)) → List (Store (Fused D))
    → (ℕ → ℕ) → (ℕ → ℕ) → Type 0
ArePaid faults lasts old new stops fuses =
    (s : ℕ) → IsPaid faults lasts (slice_get old s) (slice_get new s) (stops s) (fuses s)

-- no server, and this one once
abbrev pub none_at : ℕ → ℕ
none_at s = 0

abbrev pub once_at : ℕ → ℕ → ℕ
once_at server s = if s == server then 1 else 0

-- how many stops a Serve and a restart tell of
abbrev pub stops_in_serve : Result Served AllocError → ℕ
stops_in_serve (Ok serves.Stopped) = 1
stops_in_serve result = 0

abbrev pub stops_in_restart : Result Restarted StoreFault → ℕ
stops_in_restart (Ok restarts.Stopped) = 1
stops_in_restart result = 0

-- of each server
abbrev pub stops_of_serve : Result Served AllocError → ℕ → ℕ → ℕ
stops_of_serve (Ok serves.Stopped) server = once_at server
stops_of_serve result server = none_at

abbrev pub stops_of_restart : Result Restarted StoreFault → ℕ → ℕ → ℕ
stops_of_restart (Ok restarts.Stopped) server = once_at server
stops_of_restart result server = none_at

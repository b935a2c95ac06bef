-- From where a run of servers on disks may start: disks that past runs left.
use Rattle.std.specs.Prelude.{◌≡◌, ℕ, true, is_some, List, [], ◌∷◌, ◌++◌, length, Some}
use Rattle.std.specs.Prelude.{map as list_map}
use Rattle.std.specs.List.{slice_get}
use Rattle.mds_base.specs.declared.setup.Setup.{Setup}
use Rattle.mds_base.specs.Entries.{Entries}
use Rattle.mds_out.specs.Disk.{Image, Contents}
use Rattle.node_core.specs.Nodes.{NodeAndRows}
use Rattle.node_core.specs.Serving.{replayed_all}
use Rattle.node_core.specs.Terms.{SharesHead, node_on}
use Rattle.node_store.specs.Stands.{opened_store}
use Rattle.node_store.specs.Store.{KeepsAny}
use Rattle.world.specs.declared.event.Event.{Event}
use Rattle.world.specs.declared.state.ServerState.{ServerState}
use Rattle.world.specs.Events.{all_enabled}
use Rattle.world.specs.Histories.{run}
use Rattle.world.specs.Law.{PastRun, IsReached, start_trace, new_servers}
use Rattle.mds_base.specs.Lists.{Each}
use Rattle.world.specs.Worlds.{fresh_world, store_of}

-- Past runs whose last one leaves it open which records in doubt are kept: that shows on the disks.

pub record LastRun : Type 0 where
  pub setup : Setup
  pub events : List Event
  pub older : List PastRun

-- the servers at the end of a last run
pub record EndsAt (last : LastRun) (servers : List ServerState) : Type 0 where
  pub from : List ServerState
  pub there : Entries
  pub reached : IsReached last.setup last.older from there
  pub may : all_enabled (fresh_world last.setup from) last.events ≡ true
  pub ends : servers ≡ (run (start_trace last.setup from there) last.events).world.servers

-- a server on the terms of another run
abbrev pub server_on : Setup → ServerState → ServerState
server_on terms state = record state { node = node_on terms state.node }

-- the stores of which an image of a disk stands for one that a run left: that of its server, without its records in
-- doubt or with them all
abbrev pub left_stores : ServerState → List NodeAndRows
left_stores state = store_of state ∷ replayed_all (store_of state) state.doubt ∷ []

-- and where openings have been at the disk since: each of them opened, too
abbrev pub found_stores : ServerState → List NodeAndRows
found_stores state = left_stores state ++ list_map opened_store (left_stores state)

-- one disk for each server, each told, and each image of it stands for one of these stores of the server
pub record AreDisksOf {X : Type 0} (stores : ServerState → List NodeAndRows) (seen : X → Contents)
    (images : X → Image → Type 0) (setup : Setup) (disks : List X) (servers : List ServerState) : Type 0 where
  pub count : length disks ≡ length servers
  pub told : Each disks (λ s disk. is_some (seen disk 1) ≡ true)
  pub left : Each servers (λ s state. (disk : X) → slice_get disks s ≡ Some disk
      → KeepsAny (images disk) s setup (stores state))

-- disks as a run left them that ended with these servers
abbrev pub AreDisks : {X : Type 0} → (X → Contents) → (X → Image → Type 0) → Setup → List X → List ServerState → Type 0
AreDisks seen images setup disks servers = AreDisksOf left_stores seen images setup disks servers

-- disks as an opening may find them: a run left them so, and other openings may have been at them since
abbrev pub AreFound : {X : Type 0} → (X → Contents) → (X → Image → Type 0) → Setup → List X → List ServerState → Type 0
AreFound seen images setup disks servers = AreDisksOf found_stores seen images setup disks servers

-- Disks to which past runs may have led: new ones, or those that a last run left, with what openings did to them since.
-- They are read on the terms of the run that comes now, which share the head with those of the last run.
abbrev pub AreReached : {X : Type 0} → (X → Contents) → (X → Image → Type 0) → Setup → List X → List PastRun → Type 0
AreReached seen images setup disks [] = AreFound seen images setup disks (new_servers setup)
AreReached seen images setup disks (past ∷ older) =
    SharesHead past.setup setup × (servers : List ServerState)
    × EndsAt (record { setup = past.setup; events = past.events; older = older }) servers
    × AreFound seen images setup disks (list_map (server_on setup) servers)

-- so it is whatever terms come now that share the head: of a run with other clients, or with another lease
abbrev pub AreReachedOnAllTerms : {X : Type 0} → (X → Contents) → (X → Image → Type 0) → Setup → List X → List PastRun
    → Type 0
AreReachedOnAllTerms seen images setup disks past =
    (terms : Setup) → SharesHead setup terms → AreReached seen images terms disks past

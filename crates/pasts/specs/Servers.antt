-- Servers on their disks are the servers of a world.
use Rattle.std.specs.Prelude.{◌≡◌, ℕ, Bool, true, false, is_some, List, [], length, Some}
use Rattle.std.specs.List.{slice_get}
use Rattle.mds_base.specs.declared.setup.Setup.{Setup}
use Rattle.mds_base.specs.Lists.{Each}
use Rattle.mds_out.specs.Disk.{Image, Contents}
use Rattle.node_store.specs.Store.{Store, IsDownAt}
use Rattle.world.specs.declared.state.ServerState.{ServerState}
use Rattle.world.specs.Worlds.{store_of}

-- a server on its disk is the server of a world: it is up with its node and rows, or its disk owes it them, the records
-- in doubt left out
abbrev pub IsServerAt : {X : Type 0} → (X → Contents) → (X → Image → Type 0) → Store X → ServerState → Bool → Type 0
IsServerAt seen images store state true = (store.up ≡ Some (store_of state)) × (state.doubt ≡ [])
IsServerAt seen images store state false = IsDownAt seen images store (store_of state) × (store.doubt ≡ state.doubt)

pub record IsServer {X : Type 0} (seen : X → Contents) (images : X → Image → Type 0) (setup : Setup) (number : ℕ)
    (store : Store X) (state : ServerState) : Type 0 where
  pub told : is_some (seen store.disk 1) ≡ true
  pub server : store.server ≡ number
  pub setup' : store.setup ≡ setup
  pub at : IsServerAt seen images store state state.up

-- the servers are those of a world, each at its place
pub record AreServers {X : Type 0} (seen : X → Contents) (images : X → Image → Type 0) (setup : Setup)
    (stores : List (Store X)) (servers : List ServerState) : Type 0 where
  pub count : length stores ≡ length servers
  pub each : Each servers
      (λ s state. (store : Store X) → slice_get stores s ≡ Some store → IsServer seen images setup s store state)

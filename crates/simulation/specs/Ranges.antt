-- What holds of a simulation's numbers, so that its calls may be made.
use Rattle.std.specs.Prelude.{◌≡◌, ℕ, ◌+◌, ◌≤◌, List, length, Option, Some, None}
use Rattle.mds_base.specs.declared.limits.TheConstants.{EVENTS}
use Rattle.mds_base.specs.declared.setup.Setup.{Setup}
use Rattle.records.specs.declared.msg.Msg.{Msg}
use Rattle.client_core.specs.declared.client.Pending.{Pending}
use Rattle.client_core.specs.Clients.{ClientV}
pub use Rattle.node_core.specs.Messages.{IsSent}
use Rattle.node_store.specs.Serve.{IsWellMade}
use Rattle.node_store.specs.Store.{Store}
use Rattle.mds_base.specs.Lists.{Each}
use Rattle.world.specs.Ranges.{AreRanges}
use Rattle.simulation.specs.Shows.{SimulationV}

-- an open call is numbered and well made, and its attempts are no more than the events
pub record IsOpenCall (count seq : ℕ) (pending : Pending) : Type 0 where
  pub numbered : 1 ≤ seq
  pub made : IsWellMade pending.call
  pub attempts : pending.attempt ≤ count

abbrev pub IsOpen : ℕ → ℕ → Option Pending → Type 0
IsOpen count seq None = Unit {0}
IsOpen count seq (Some pending) = IsOpenCall count seq pending

pub record IsSeat (setup : Setup) (count k : ℕ) (client : ClientV) : Type 0 where
  pub number : client.number ≡ k + 1
  pub setup' : client.setup ≡ setup
  pub seq : client.seq ≤ count
  pub pending : IsOpen count client.seq client.pending

-- each server on its disk has its place for number, and the setup of all
pub record AreStores {X : Type 0} (setup : Setup) (stores : List (Store X)) : Type 0 where
  pub all : length stores ≡ setup.servers
  pub each : Each stores (λ s store. (store.server ≡ s) × (store.setup ≡ setup))

-- the parts that calls of a simulation read are within their ranges
pub record IsRanged {X : Type 0} (setup : Setup) (now count : ℕ) (stores : List (Store X)) (clients : List ClientV)
    (sent : List Msg) : Type 0 where
  pub ranges : AreRanges setup now (IsSeat setup count) clients (IsSent setup.servers) sent
  pub all : length clients ≡ setup.clients
  pub events : count ≤ EVENTS
  pub stores' : AreStores setup stores

abbrev pub InRange : {X : Type 0} → SimulationV X → Type 0
InRange sim = IsRanged sim.setup sim.moment sim.count sim.stores sim.clients sim.sent

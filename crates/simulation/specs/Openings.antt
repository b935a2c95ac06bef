-- A simulation from which a run may begin.
use Rattle.std.specs.Prelude.{◌≡◌, ℕ, Bool, List, []}
use Rattle.std.specs.Prelude.{map as list_map}
use Rattle.std.specs.FinSet as set
use Rattle.std.specs.List.{range_with_len}
use Rattle.mds_base.specs.declared.setup.Setup.{Setup}
use Rattle.mds_base.specs.Entries.{Entries}
use Rattle.mds_out.specs.Disk.{Image, Contents}
use Rattle.client_core.specs.Clients.{new_client}
use Rattle.world.specs.declared.state.ServerState.{ServerState}
use Rattle.world.specs.Law.{PastRun, IsReached}
use Rattle.pasts.specs.Openings.{with_choice}
use Rattle.simulation.specs.Runs.{start_run}
use Rattle.simulation.specs.Shows.{SimulationV, Shows}

-- the simulation shows a run that begins where the past leads, with some choice of the records in doubt that were kept
pub record BeginsFrom {X : Type 0} (seen : X → Contents) (images : X → Image → Type 0) (setup : Setup)
    (past : List PastRun) (sim : SimulationV X) : Type 0 where
  pub keep : ℕ → Bool
  pub servers : List ServerState
  pub entries : Entries
  pub reached : IsReached setup (with_choice keep past) servers entries
  pub shows : Shows seen images sim (start_run setup servers entries)

-- a simulation in which nothing happened yet
pub record IsFresh {X : Type 0} (setup : Setup) (sim : SimulationV X) : Type 0 where
  pub setup' : sim.setup ≡ setup
  pub moment : sim.moment ≡ 0
  pub count : sim.count ≡ 0
  pub clients : sim.clients ≡ list_map (λ k. new_client k setup) (range_with_len 1 setup.clients)
  pub sent : sim.sent ≡ []
  pub waiting : sim.waiting ≡ set.empty
  pub made : sim.made ≡ []
  pub taken : sim.taken ≡ set.empty

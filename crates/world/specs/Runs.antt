-- What the code that carries out runs answers, and what holds of the run.
use Rattle.std.specs.Prelude.{◌≡◌, ℕ, true, false, List, [], ◌∷◌, ◌++◌, take, Some}
use Rattle.std.specs.List.{slice_get}
use Rattle.std.specs.FinMap as map
use Rattle.mds_base.specs.declared.setup.Setup.{Setup}
use Rattle.mds_base.specs.Entries.{Entries}
use Rattle.world.specs.declared.event.Event.{Event}
use Rattle.world.specs.declared.running.Ran.{Ran}
use Rattle.world.specs.declared.running.Ran.TheVariants.{Whole, NotEnabled}
use Rattle.world.specs.declared.state.ServerState.{ServerState}
use Rattle.world.specs.Worlds.{WorldV, fresh_world, new_world}
use Rattle.world.specs.Events.{enabled, steps, all_enabled}
use Rattle.world.specs.Histories.{Trace, run}
use Rattle.world.specs.Law.{start_trace, new_servers, PastRun, IsReached, HoldsOfRun}

-- a run has come to a world, and the law holds of it
pub record ComesTo (t : Trace) (w : WorldV) : Type 0 where
  pub world : t.world ≡ w
  pub holds : HoldsOfRun t

-- whatever past runs there were, and whatever enabled events led to the world before: the run with one event more has
-- come to the world after it, and the law holds of it
abbrev pub LeadsOn : WorldV → Event → WorldV → Type 0
LeadsOn before event next =
    (past : List PastRun) (servers : List ServerState) (entries : Entries) → IsReached before.setup past servers entries
    → (events : List Event) → all_enabled (fresh_world before.setup servers) events ≡ true
    → steps (fresh_world before.setup servers) events ≡ before
    → ComesTo (run (start_trace before.setup servers entries) (events ++ event ∷ [])) next

-- a run of new servers, over the empty map
abbrev pub new_run : Setup → List Event → Trace
new_run setup events = run (start_trace setup (new_servers setup) map.empty) events

-- all events are enabled, and lead to this world
pub record RunsWhole (setup : Setup) (events : List Event) (w : WorldV) : Type 0 where
  pub enabled' : all_enabled (new_world setup) events ≡ true
  pub world : w ≡ steps (new_world setup) events

-- the event at this place is the first that is not enabled
pub record StopsAt (setup : Setup) (events : List Event) (place : ℕ) : Type 0 where
  pub before : all_enabled (new_world setup) (take place events) ≡ true
  pub event : Event
  pub there : slice_get events place ≡ Some event
  pub refused : enabled (steps (new_world setup) (take place events)) event ≡ false

abbrev pub RunsAs : Setup → List Event → Ran → Type 0
RunsAs setup events (Whole w) = RunsWhole setup events w
RunsAs setup events (NotEnabled place) = StopsAt setup events place

-- the law holds of a run all of whose events were enabled
abbrev pub HoldsIfWhole : Setup → List Event → Ran → Type 0
HoldsIfWhole setup events (Whole w) = ComesTo (new_run setup events) w
HoldsIfWhole setup events (NotEnabled place) = Unit {0}

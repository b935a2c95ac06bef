-- The theorem of the world: which servers a run may start from, and what holds of every run from them.
use Rattle.std.specs.Prelude.{◌≡◌, ℕ, ◌+◌, ◌<◌, Bool, true, List, [], ◌∷◌, ◌++◌, length, Option, Some, None}
use Rattle.std.specs.Prelude.{if◌then◌else◌}
use Rattle.std.specs.Prelude.{map as list_map}
use Rattle.std.specs.List.{slice_get, range_with_len}
use Rattle.std.specs.FinMap as map
use Rattle.mds_base.specs.declared.attr.Attr.{Attr}
use Rattle.mds_base.specs.declared.setup.Setup.{Setup}
use Rattle.mds_base.specs.Entries.{Entries}
use Rattle.mds_base.specs.History.{Spares, map_after}
use Rattle.mds_base.specs.Lists.{Each}
use Rattle.node_core.specs.Nodes.{server_for, row_in, cleared}
use Rattle.node_core.specs.Terms.{SharesHead, node_on}
use Rattle.world.specs.declared.event.Event.{Event}
use Rattle.world.specs.declared.event.Event.TheVariants.{Restart}
use Rattle.world.specs.declared.state.ServerState.{ServerState}
use Rattle.world.specs.Worlds.{new_server, fresh_world}
use Rattle.world.specs.Events.{all_enabled}
use Rattle.world.specs.Histories.{Trace, MadeV, start_history, run, entries_of, IsExplained}
use Rattle.world.specs.Owners.{HasOwner}

-- The rows of all servers as one map: the row of a name, at the server of its directory's partition 0

abbrev pub row_or : Option ServerState → ℕ → List ℕ → Option Attr
row_or None dir name = None
row_or (Some state) dir name = row_in state.rows dir 0 name

abbrev pub row_at : Setup → List ServerState → ℕ → List ℕ → Option Attr
row_at setup servers dir name = row_or (slice_get servers (server_for setup.servers dir 0)) dir name

-- Starts

abbrev pub start_trace : Setup → List ServerState → Entries → Trace
start_trace setup servers entries = record { world = fresh_world setup servers; past = start_history entries }

abbrev pub new_servers : Setup → List ServerState
new_servers setup = list_map (new_server setup) (range_with_len 0 setup.servers)

-- the restarts by which each server that is down comes up, from number s on: those that the choice names keep all
-- their records in doubt, and the others keep none
abbrev pub closing : (ℕ → Bool) → List ServerState → ℕ → List Event
closing keep [] s = []
closing keep (state ∷ states) s =
    if state.up then closing keep states (s + 1)
    else Restart s (if keep s then length state.doubt else 0) ∷ closing keep states (s + 1)

-- the run, and then these restarts
abbrev pub ended : Trace → (ℕ → Bool) → Trace
ended t keep = run t (closing keep t.world.servers 0)

-- what an opening for a run on these terms makes of a server: it goes by them, and its sessions are cleared
abbrev pub opened : Setup → ServerState → ServerState
opened terms state = record state { node = cleared (node_on terms state.node) }

-- a run of the past: its terms, its events, and which servers that it left down keep their records in doubt
pub record PastRun : Type 0 where
  pub setup : Setup
  pub events : List Event
  pub keep : ℕ → Bool

abbrev pub end_of : List ServerState → Entries → PastRun → Trace
end_of servers entries past = ended (run (start_trace past.setup servers entries) past.events) past.keep

-- The servers and the map to which past runs lead, the latest run first. Each run had terms of its own, which share how
-- many servers there are and the threshold with those of the next one, and these are left on the terms that come now.
abbrev pub IsReached : Setup → List PastRun → List ServerState → Entries → Type 0
IsReached setup [] servers entries = (servers ≡ new_servers setup) × (entries ≡ map.empty)
IsReached setup (past ∷ older) servers entries =
    SharesHead past.setup setup
    × (from : List ServerState) × (there : Entries) × IsReached past.setup older from there
    × (all_enabled (fresh_world past.setup from) past.events ≡ true)
    × (servers ≡ list_map (opened setup) (end_of from there past).world.servers)
    × (entries ≡ (end_of from there past).past.entries)

-- What holds of a run

-- whichever records in doubt are kept: the restarts are enabled, nothing that was made is lost, the run with them is
-- explained, and the servers' rows are the map that its entries leave, in which a name is as an entry left it until a
-- later one speaks of it
pub record EndsWell (t : Trace) (keep : ℕ → Bool) : Type 0 where
  pub enabled : all_enabled t.world (closing keep t.world.servers 0) ≡ true
  pub goes_on : (more : List MadeV) × ((ended t keep).past.made ≡ t.past.made ++ more)
  pub explained : IsExplained (ended t keep).past
  pub rows : (dir : ℕ) (name : List ℕ)
      → row_at t.world.setup (ended t keep).world.servers dir name
      ≡ map.get (map_after t.past.start (entries_of (ended t keep).past.made)) (dir, name)
  pub lasts : (front later : List MadeV) → (ended t keep).past.made ≡ front ++ later → (dir : ℕ) (name : List ℕ)
      → Spares (dir, name) (entries_of later)
      → row_at t.world.setup (ended t keep).world.servers dir name
      ≡ map.get (map_after t.past.start (entries_of front)) (dir, name)

-- a server that is up has no record in doubt
abbrev pub IsSettled : ℕ → ServerState → Type 0
IsSettled s state = state.up ≡ true → state.doubt ≡ []

pub record HoldsOfRun (t : Trace) : Type 0 where
  pub explained : IsExplained t.past
  pub ends_well : (keep : ℕ → Bool) → EndsWell t keep
  -- each name has one owner, which keeps the number of each change that was carried out on the name, or a later one
  pub owned : (dir : ℕ) (name : List ℕ) → HasOwner t dir name
  pub settled : Each t.world.servers IsSettled

-- the theorem: it holds of every run of enabled events, from what any past runs lead to
abbrev pub HoldsOfRuns : Type 0
HoldsOfRuns =
    (setup : Setup) → 0 < setup.servers → (past : List PastRun) (servers : List ServerState) (entries : Entries)
    → IsReached setup past servers entries
    → (events : List Event) → all_enabled (fresh_world setup servers) events ≡ true
    → HoldsOfRun (run (start_trace setup servers entries) events)

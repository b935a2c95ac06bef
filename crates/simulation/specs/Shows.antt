-- What servers on their disks, clients and messages of one process show: a run so far.
use Rattle.std.specs.Prelude.{◌≡◌, ℕ, min, ◌⊎◌, ◌&&◌, ◌==◌, ◌<◌, ◌≤◌, zero, suc, Bool, true, false, not, is_some, List}
use Rattle.std.specs.Prelude.{[], ◌∷◌, length, Option, Some, None, if◌then◌else◌}
use Rattle.std.specs.Prelude.{map as list_map}
use Rattle.std.specs.List.{slice_get}
use Rattle.std.specs.FinSet as set
use Rattle.std.specs.declared.cmp.Ordering.{Ordering}
use Rattle.std.specs.Ordering.{nat_cmp, ordering_then}
use Rattle.mds_base.specs.declared.ask.Ask.{Ask}
use Rattle.mds_base.specs.declared.limits.TheConstants.{EVENTS}
use Rattle.mds_base.specs.declared.setup.Setup.{Setup}
use Rattle.records.specs.declared.msg.Msg.{Msg}
use Rattle.message_store.specs.Messages as store
use Rattle.mds_out.specs.Disk.{Image, Contents}
use Rattle.client_core.specs.Clients.{ClientV}
use Rattle.node_core.specs.Nodes.{NodeAndRows, has_numbers}
use Rattle.node_core.specs.Rules.{request_in}
use Rattle.node_store.specs.Store.{Store}
use Rattle.pasts.specs.Servers.{AreServers}
use Rattle.world.specs.declared.event.Event.{Event}
use Rattle.world.specs.declared.event.Event.TheVariants.{Serve, Restart}
use Rattle.world.specs.declared.event.ServeEnd.TheVariants as ends
use Rattle.world.specs.declared.state.ClientState.{ClientState}
use Rattle.world.specs.Events.{is_for_server}
use Rattle.message_store.specs.declared.made.Kind.{Kind}
use Rattle.message_store.specs.declared.made.Kind.TheVariants as kinds
use Rattle.message_store.specs.declared.made.Made.{Made}
use Rattle.simulation.specs.declared.waits.Few.{Few}
use Rattle.simulation.specs.declared.waits.Few.TheVariants as few
use Rattle.world.specs.Histories as past
use Rattle.world.specs.Histories.{MadeV, is_taken}
use Rattle.mds_base.specs.Lists.{Each}
use Rattle.simulation.specs.Runs.{RunV, GoesOn, grown, is_named}

-- messages by their servers, and then by their places
abbrev pub waiting_cmp : ℕ × ℕ → ℕ × ℕ → Ordering
waiting_cmp a b = ordering_then (nat_cmp a.0 b.0) (nat_cmp a.1 b.1)

pub record SimulationV (X : Type 0) : Type 0 where
  pub setup : Setup
  -- the moment
  pub moment : ℕ
  -- the events so far
  pub count : ℕ
  -- the servers, by their numbers
  pub stores : List (Store X)
  -- the clients, by their numbers less 1
  pub clients : List ClientV
  -- all messages, in the order in which they were sent
  pub sent : List Msg
  -- the messages that no Serve named yet: the server of each, and its place
  pub waiting : set.FinSet waiting_cmp
  -- the entries that were made
  pub made : List Made
  -- the places of the messages that answered a call
  pub taken : set.FinSet nat_cmp

-- an entry of the world's history, as a value of the program
abbrev pub kind_of : past.Kind → Kind
kind_of past.Change = kinds.Change
kind_of (past.Looked message) = kinds.Lookup message

abbrev pub made_of : MadeV → Made
made_of made = record { entry = made.entry; kind = kind_of made.kind }

-- the simulation shows the run
pub record Shows {X : Type 0} (seen : X → Contents) (images : X → Image → Type 0) (sim : SimulationV X)
    (run : RunV) : Type 0 where
  pub setup : run.trace.world.setup ≡ sim.setup
  pub moment : run.trace.world.now ≡ sim.moment
  pub count : length run.events ≡ sim.count
  pub few : length run.events ≤ EVENTS
  pub servers : AreServers seen images sim.setup sim.stores run.trace.world.servers
  pub clients : list_map (λ (seat : ClientState). seat.client) run.trace.world.clients ≡ sim.clients
  pub going_on : Each run.trace.world.clients (λ k seat. seat.quit ≡ false)
  pub sent : run.trace.world.sent ≡ sim.sent
  -- only messages that were sent were named
  pub named : (message : ℕ) → is_named run.events message ≡ true → message < length sim.sent
  pub waiting : (s k : ℕ)
      → set.contains sim.waiting (s, k) ≡ (is_for_server s (slice_get sim.sent k) && not (is_named run.events k))
  pub made : list_map made_of run.trace.past.made ≡ sim.made
  pub taken : (message : ℕ) → set.contains sim.taken message ≡ is_taken run.trace.past.answered message

-- the servers are those after one event more of this kind, which may happen, and a run may have so many
pub record StandAfter {X : Type 0} (seen : X → Contents) (images : X → Image → Type 0) (setup : Setup)
    (stores : List (Store X)) (P : Event → Type 0) (run : RunV) : Type 0 where
  pub event : Event
  pub is : P event
  pub goes : GoesOn run event (λ longer. AreServers seen images setup stores longer.trace.world.servers)
  pub few : length (grown run event).events ≤ EVENTS

-- the servers are those of the run's world, or of the world after one event more of this kind
abbrev pub StandNear : {X : Type 0} → (X → Contents) → (X → Image → Type 0) → Setup → List (Store X) → (Event → Type 0)
    → RunV → Type 0
StandNear seen images setup stores P run =
    AreServers seen images setup stores run.trace.world.servers ⊎ StandAfter seen images setup stores P run

-- a call that was answered is an event of the run
abbrev pub Happens : {X : Type 0} → (X → Contents) → (X → Image → Type 0) → SimulationV X → SimulationV X → Event
    → Type 0
Happens seen images old new event = (run : RunV) → Shows seen images old run → GoesOn run event (Shows seen images new)

-- a call that was refused leaves the servers near the run, by an event of this kind
abbrev pub StaysNear : {X : Type 0} → (X → Contents) → (X → Image → Type 0) → SimulationV X → SimulationV X
    → (Event → Type 0) → Type 0
StaysNear seen images old new P =
    (run : RunV) → Shows seen images old run → StandNear seen images old.setup new.stores P run

-- no event; a Serve of the message, however it ends; a restart, whatever it keeps
abbrev pub IsNone : Event → Type 0
IsNone event = ⊥

abbrev pub IsServeAt : ℕ → ℕ → Event → Type 0
IsServeAt server message event =
    (event ≡ Serve server (message ∷ []) ends.Done) ⊎ (event ≡ Serve server (message ∷ []) ends.Stop)

abbrev pub IsRestartOf : ℕ → Event → Type 0
IsRestartOf server event = (kept : ℕ) × (event ≡ Restart server kept)

-- nothing happened that the run would tell
abbrev pub ShowsSame : {X : Type 0} → (X → Contents) → (X → Image → Type 0) → SimulationV X → SimulationV X → Type 0
ShowsSame seen images old new = (run : RunV) → Shows seen images old run → Shows seen images new run

-- the client of a number
abbrev pub client_at : List ClientV → ℕ → Option ClientV
client_at clients zero = None
client_at clients (suc k) = slice_get clients k

-- whether a client is there and has no call open, or one
abbrev pub is_idle : Option ClientV → Bool
is_idle None = false
is_idle (Some client) = not (is_some client.pending)

abbrev pub is_busy : Option ClientV → Bool
is_busy None = false
is_busy (Some client) = is_some client.pending

-- the server of a message, where it is for one
abbrev pub server_for : Option Msg → Option ℕ
server_for msg = store.server_for msg

-- whether a message is a request of a client
abbrev pub asks_as : ℕ → Option Ask → Bool
asks_as client None = false
asks_as client (Some ask) = ask.client == client

abbrev pub is_request_of : ℕ → Option Msg → Bool
is_request_of client None = false
is_request_of client (Some msg) = asks_as client (request_in msg)

abbrev pub store_is_up : {X : Type 0} → Option (Store X) → Bool
store_is_up None = false
store_is_up (Some store) = is_some store.up

abbrev pub is_up : {X : Type 0} → SimulationV X → ℕ → Bool
is_up sim server = store_is_up (slice_get sim.stores server)

-- whether a server that is up has the directory numbers that one Serve may want
abbrev pub up_has_numbers : Option NodeAndRows → Bool
up_has_numbers None = false
up_has_numbers (Some store) = has_numbers store.node

abbrev pub store_has_numbers : {X : Type 0} → Option (Store X) → Bool
store_has_numbers None = false
store_has_numbers (Some store) = up_has_numbers store.up

abbrev pub has_numbers_at : {X : Type 0} → SimulationV X → ℕ → Bool
has_numbers_at sim server = store_has_numbers (slice_get sim.stores server)

-- the message waits for one of the first servers, which is up
pub record IsDue {X : Type 0} (sim : SimulationV X) (servers message : ℕ) : Type 0 where
  pub server : ℕ
  pub among : server < servers
  pub up : is_up sim server ≡ true
  pub waits : set.contains sim.waiting (server, message) ≡ true

-- what waits: nothing, this message alone, or any
abbrev pub AreFew : set.FinSet waiting_cmp → Few → Type 0
AreFew waiting few.None = (key : ℕ × ℕ) → set.contains waiting key ≡ true → ⊥
AreFew waiting (few.One server message) =
    (set.contains waiting (server, message) ≡ true)
    × ((key : ℕ × ℕ) → set.contains waiting key ≡ true → key ≡ (server, message))
AreFew waiting few.More = Unit {0}

-- the first place that has the property, where there is one
abbrev pub IsFirst : (ℕ → Type 0) → Option ℕ → Type 0
IsFirst P None = (message : ℕ) → P message → ⊥
IsFirst P (Some first) = P first × ((message : ℕ) → P message → first ≤ message)

-- the earlier one of two places, where there are any
abbrev pub earlier : Option ℕ → Option ℕ → Option ℕ
earlier None b = b
earlier (Some a) None = Some a
earlier (Some a) (Some b) = Some (min a b)

-- the message, where this server is there and up
abbrev pub due_one : {X : Type 0} → SimulationV X → ℕ → ℕ → Option ℕ
due_one sim server message = if is_up sim server then Some message else None

-- a change stands, and a lookup where its answer was taken
abbrev pub kind_stands : set.FinSet nat_cmp → Kind → Bool
kind_stands taken kinds.Change = true
kind_stands taken (kinds.Lookup message) = set.contains taken message

abbrev pub stands_in : {X : Type 0} → SimulationV X → Made → Bool
stands_in sim made = kind_stands sim.taken made.kind

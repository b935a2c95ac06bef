-- What the calls of a simulation answer.
use Rattle.std.specs.Prelude.{◌≡◌, ◌≢◌, ℕ, ◌+◌, ◌<◌, ◌≤◌, true, List, [], ◌∷◌, ◌++◌, length, Option, Some, None, Result}
use Rattle.std.specs.Prelude.{IfOk, OnOk, OnErr}
use Rattle.std.specs.List.{slice_get}
use Rattle.std.specs.FinSet as set
use Rattle.std.specs.declared.alloc.AllocError.{AllocError}
use Rattle.mds_base.specs.declared.limits.TheConstants.{EVENTS}
use Rattle.client_core.specs.declared.taken.Taken.{Taken}
use Rattle.client_core.specs.Clients.{ClientV}
use Rattle.client_core.specs.Taking as taking
use Rattle.mds_base.specs.declared.store_fault.StoreFault.{StoreFault}
use Rattle.mds_out.specs.Disk.{Image, Contents}
use Rattle.node_core.specs.Nodes.{NodeAndRows, has_numbers}
use Rattle.node_core.specs.Serving.{serve}
use Rattle.node_store.specs.Reading.{IsRefusal, IsBadAtRestart}
use Rattle.node_store.specs.Store.{Store}
use Rattle.records.specs.declared.msg.Msg.{Msg}
use Rattle.message_store.specs.declared.made.Made.{Made}
use Rattle.simulation.specs.declared.servers.Served.{Served}
use Rattle.simulation.specs.declared.servers.Served.TheVariants as serves
use Rattle.simulation.specs.declared.servers.Restarted.{Restarted}
use Rattle.simulation.specs.declared.servers.Restarted.TheVariants as restarts
use Rattle.simulation.specs.Entries.{ended_by}
use Rattle.simulation.specs.Moves.{awaiting, sent_after, waiting_after, made_after, served_by, restarted_by}
use Rattle.simulation.specs.Runs.{RunV, GoesOn}
use Rattle.simulation.specs.Shows.{SimulationV, Shows, Happens, waiting_cmp, server_for, is_up, has_numbers_at}
use Rattle.simulation.specs.Shows.{is_request_of}
use Rattle.simulation.specs.Stores.{EndsOn, RestartsOn}
use Rattle.world.specs.declared.event.Event.TheVariants.{Serve, Stop, Restart}
use Rattle.world.specs.declared.event.ServeEnd.TheVariants as ends
use Rattle.world.specs.declared.event.StopCause.TheVariants.{Device}
use Rattle.world.specs.Events.{is_for_client}

-- the message is a request of the client, to a server that is there
pub record IsRequestAt {X : Type 0} (sim : SimulationV X) (client message : ℕ) : Type 0 where
  pub asks : is_request_of client (slice_get sim.sent message) ≡ true
  pub server : ℕ
  pub is : server_for (slice_get sim.sent message) ≡ Some server
  pub there : server < sim.setup.servers

-- the message may be served: it is for this server, which is up and has numbers left
pub record CanServe {X : Type 0} (sim : SimulationV X) (message : ℕ) : Type 0 where
  pub server : ℕ
  pub is : server_for (slice_get sim.sent message) ≡ Some server
  pub up : is_up sim server ≡ true
  pub numbers : has_numbers_at sim server ≡ true

-- the message is for a server that is not up
pub record CanMiss {X : Type 0} (sim : SimulationV X) (message : ℕ) : Type 0 where
  pub server : ℕ
  pub is : server_for (slice_get sim.sent message) ≡ Some server
  pub there : server < sim.setup.servers
  pub down : is_up sim server ≢ true

-- a reply is for the client that asked
abbrev pub RepliesTo : {X : Type 0} → SimulationV X → SimulationV X → ℕ → ℕ → Type 0
RepliesTo old new message first = (client : ℕ) → is_request_of client (slice_get old.sent message) ≡ true
    → is_for_client client (slice_get new.sent first) ≡ true

-- a Serve that was done sent its first message to this place, or none; one that the device stopped left its records in
-- doubt
abbrev pub Serves : {X : Type 0} → (X → Contents) → (X → Image → Type 0) → SimulationV X → SimulationV X → ℕ → ℕ
    → Served → Type 0
Serves seen images old new server message (serves.Answered first) =
    Happens seen images old new (Serve server (message ∷ []) ends.Done) × (first ≡ length old.sent)
    × (length old.sent + 1 ≤ length new.sent) × RepliesTo old new message first
Serves seen images old new server message serves.Silent =
    Happens seen images old new (Serve server (message ∷ []) ends.Done) × (new.sent ≡ old.sent)
Serves seen images old new server message serves.Stopped =
    Happens seen images old new (Serve server (message ∷ []) ends.Stop) × (new.sent ≡ old.sent)

-- a server was restarted, with some of its records in doubt; or its device failed
abbrev pub Restarts : {X : Type 0} → (X → Contents) → (X → Image → Type 0) → SimulationV X → SimulationV X → ℕ
    → Restarted → Type 0
Restarts seen images old new server restarts.Up =
    (run : RunV) → Shows seen images old run → (kept : ℕ) × GoesOn run (Restart server kept) (Shows seen images new)
Restarts seen images old new server restarts.Stopped = Happens seen images old new (Stop server Device)

-- what a client makes of a message
abbrev pub taken_of : Option ClientV → Option Msg → Option Taken
taken_of (Some client) (Some msg) = Some (taking.take client msg).taken
taken_of client msg = None

-- only this server changed
abbrev pub OthersStay : {X : Type 0} → SimulationV X → SimulationV X → ℕ → Type 0
OthersStay old new server = (other : ℕ) → other ≢ server → slice_get new.stores other ≡ slice_get old.stores other

-- what a Serve of the message comes upon: the server on its disk, up with this, and the message; and a run may
-- have an event more
pub record IsToServe {X : Type 0} (old : SimulationV X) (server message : ℕ) (store : Store X) (up : NodeAndRows)
    (msg : Msg) : Type 0 where
  pub is : slice_get old.stores server ≡ Some store
  pub up' : store.up ≡ Some up
  pub numbers : has_numbers up.node ≡ true
  pub there : slice_get old.sent message ≡ Some msg
  pub meant : server_for (Some msg) ≡ Some server
  pub room : old.count < EVENTS

-- a Serve that was done tells of the first message that it sent to stand at this place, or of none
abbrev pub TellsOf : List Msg → ℕ → Served → Type 0
TellsOf outputs message serves.Stopped = Unit {0}
TellsOf outputs message served = served ≡ ended_by outputs message

-- a Serve ended so: with the server's new store the simulation is what that makes of it
pub record IsServe {X : Type 0} (seen : X → Contents) (images : X → Image → Type 0) (faults : X → ℕ)
    (old new : SimulationV X) (server message : ℕ) (served : Served) : Type 0 where
  pub was : Store X
  pub up : NodeAndRows
  pub msg : Msg
  pub to : IsToServe old server message was up msg
  pub store : Store X
  pub leaves : EndsOn seen images faults was store up (serve up msg old.moment) served
  pub tells : TellsOf (serve up msg old.moment).outputs (length old.sent) served
  pub after : new ≡ served_by old server message store msg (serve up msg old.moment) served

-- the parts that such a Serve changes
pub record ServesOn {X : Type 0} (seen : X → Contents) (images : X → Image → Type 0) (faults : X → ℕ)
    (old new : Store X) (up : NodeAndRows) (msg : Msg) (now : ℕ) (sent sent' : List Msg)
    (waiting waiting' : set.FinSet waiting_cmp) (made made' : List Made) (served : Served) : Type 0 where
  pub leaves : EndsOn seen images faults old new up (serve up msg now) served
  pub tells : TellsOf (serve up msg now).outputs (length sent) served
  pub sends : sent' ≡ sent_after sent (serve up msg now) served
  pub waits : waiting' ≡ waiting_after waiting (serve up msg now) (length sent) served
  pub makes : made' ≡ made_after made msg (serve up msg now) (length sent) served

-- a run may have an event more, and a restart ended so: with the server's new store the simulation is what that makes
-- of it
pub record IsRestart {X : Type 0} (seen : X → Contents) (images : X → Image → Type 0) (faults : X → ℕ)
    (old new : SimulationV X) (server : ℕ) (ended : Restarted) : Type 0 where
  pub was : Store X
  pub is : slice_get old.stores server ≡ Some was
  pub down : was.up ≡ None
  pub room : old.count < EVENTS
  pub store : Store X
  pub made : List Made
  pub leaves : RestartsOn seen images faults was store old.moment old.made made ended
  pub after : new ≡ restarted_by old server store made

-- why a restart was refused, by the bytes that the server's disk tells then: damage is what they have
abbrev pub IsRestartFault : {X : Type 0} → (X → Contents) → SimulationV X → ℕ → StoreFault → Type 0
IsRestartFault {X = X} seen new server fault =
    (store : Store X) → slice_get new.stores server ≡ Some store
    → IsRefusal (IsBadAtRestart server new.setup) (seen store.disk 1) fault

-- a message was sent, where there was memory: it stands at the end, and waits there for its server
pub record IsSend (result : Result ℕ AllocError) (sent sent' : List Msg) (waiting waiting' : set.FinSet waiting_cmp)
    (msg : Msg) : Type 0 where
  pub message : IfOk result (λ message. message ≡ length sent)
  pub stands : OnOk result (sent' ≡ sent ++ msg ∷ [])
  pub waits : OnOk result (waiting' ≡ awaiting waiting (server_for (Some msg)) (length sent))
  pub err : OnErr result (sent' ≡ sent)

-- What happens from one moment of an interpreter to another: events, what its simulation shows then, and their text.
use Rattle.std.specs.Prelude.{◌≡◌, ◌⊎◌, ℕ, ◌+◌, ◌<◌, ◌≤◌, ◌&&◌, Bool, true, false, not, is_some, List, [], ◌∷◌, ◌++◌}
use Rattle.std.specs.Prelude.{length, slice_set, Option, Some, None}
use Rattle.std.specs.List.{slice_get}
use Rattle.mds_base.specs.declared.limits.TheConstants.{EVENTS, MOMENTS}
use Rattle.mds_base.specs.declared.setup.Which.{Which}
use Rattle.mds_base.specs.declared.setup.Which.TheVariants as limits
use Rattle.mds_base.specs.declared.store_fault.StoreFault.{StoreFault}
use Rattle.mds_base.specs.declared.store_fault.StoreFault.TheVariants as faults
use Rattle.mds_out.specs.Disk.{Image, Contents}
use Rattle.mds_out.specs.Fused.{Fused}
use Rattle.node_core.specs.Rules.{is_served}
use Rattle.node_store.specs.Store.{Store}
use Rattle.script.specs.declared.line.Line.{Line}
use Rattle.script.specs.declared.line.Line.TheVariants as lines
use Rattle.simulation.specs.Calls.{RepliesTo, IsRequestAt, IsRestartFault}
use Rattle.simulation.specs.Moves.{armed}
use Rattle.simulation.specs.Runs.{RunV, grown}
use Rattle.simulation.specs.Shows.{SimulationV, Shows, StandNear, client_at, is_idle, is_busy, server_for}
use Rattle.simulation.specs.Shows as shown
use Rattle.world.specs.declared.event.Event.{Event}
use Rattle.world.specs.declared.event.Event.TheVariants.{Serve, Tick}
use Rattle.world.specs.Events.{is_up, can_serve, is_for_client}
use Rattle.world.specs.Worlds.{WorldV}
use Rattle.interpreter.specs.declared.interpreter.Halt.{Halt}
use Rattle.interpreter.specs.declared.interpreter.Halt.TheVariants as halts
use Rattle.interpreter.specs.EventText.{events_text}
use Rattle.interpreter.specs.Story.{grown_by, all_may, IsBegun, IsDelivered, IsSentAgain, IsFollowed, sends}

-- whether a line is allowed at its place, by what a simulation holds
abbrev pub allows : {X : Type 0} → SimulationV X → Line → Bool
allows sim lines.Skipped = true
allows sim (lines.Call client call) = is_idle (client_at sim.clients client) && is_served call
allows sim (lines.Issue client call) = is_idle (client_at sim.clients client) && is_served call
allows sim (lines.Retry client) = is_busy (client_at sim.clients client)
allows sim (lines.Deliver message) = is_some (server_for (slice_get sim.sent message))
allows sim (lines.Take client message) = is_for_client client (slice_get sim.sent message)
allows sim lines.Settle = true
allows sim (lines.Tick by) = true
allows sim (lines.Fuse server calls) = true
allows sim (lines.Stop server) = shown.is_up sim server
allows sim (lines.Restart server) = not (shown.is_up sim server)
allows sim line = false

-- ---- lines without an event

-- the disk of this server is armed so, and nothing else changed
abbrev pub IsArmed : {D : Type 0} → SimulationV (Fused D) → SimulationV (Fused D) → ℕ → ℕ → Type 0
IsArmed {D = D} old new server calls =
    (store : Store (Fused D)) → slice_get old.stores server ≡ Some store
    → new ≡ record old { stores = slice_set old.stores server (armed store calls) }

-- a line that arms a fuse arms it with its number, and one that is skipped leaves all as it was
abbrev pub Arms : {D : Type 0} → SimulationV (Fused D) → SimulationV (Fused D) → Line → Type 0
Arms old new lines.Skipped = new ≡ old
Arms old new (lines.Fuse server calls) = IsArmed old new server calls
Arms old new line = Unit {0}

-- ---- what was carried out

-- these events happened, each of which may; the simulation shows the run with them, and their text was put behind what
-- was pending
pub record Goes {X : Type 0} (seen : X → Contents) (images : X → Image → Type 0) (new : SimulationV X)
    (was now : List ℕ) (run : RunV) (events : List Event) : Type 0 where
  pub may : all_may run events ≡ true
  pub shows : Shows seen images new (grown_by run events)
  pub text : now ≡ was ++ events_text run events

-- some events of this kind
pub record GoesBy {X : Type 0} (seen : X → Contents) (images : X → Image → Type 0) (new : SimulationV X)
    (was now : List ℕ) (run : RunV) (P : List Event → Type 0) : Type 0 where
  pub events : List Event
  pub are : P events
  pub goes : Goes seen images new was now run events

-- whatever run the simulation showed before, such events happened in it
abbrev pub Carries : {X : Type 0} → (X → Contents) → (X → Image → Type 0) → SimulationV X → SimulationV X → List ℕ
    → List ℕ → (RunV → List Event → Type 0) → Type 0
Carries seen images old new was now P =
    (run : RunV) → Shows seen images old run → GoesBy seen images new was now run (P run)

abbrev pub IsEvent : Event → RunV → List Event → Type 0
IsEvent event run events = events ≡ event ∷ []

-- the message was delivered, and sent its first message to stand there, or none
abbrev pub SendsFirst : WorldV → Event → Option ℕ → Type 0
SendsFirst w event None = sends w event ≡ false
SendsFirst w event (Some first) = (sends w event ≡ true) × (first ≡ length w.sent)

pub record IsDeliveredTo (message : ℕ) (first : Option ℕ) (run : RunV) (events : List Event) : Type 0 where
  pub event : Event
  pub one : events ≡ event ∷ []
  pub delivered : IsDelivered run.trace.world message event
  pub sends' : SendsFirst run.trace.world event first

-- a client's message was followed to an end; or it was delivered, the reply redirected the client, and its call was
-- sent again, to stand at this place
pub record IsSentOn (client message next : ℕ) (run : RunV) (events : List Event) : Type 0 where
  pub delivered : Event
  pub taken : Event
  pub sent : Event
  pub three : events ≡ delivered ∷ taken ∷ sent ∷ []
  pub again : IsSentAgain run client message delivered taken sent
  pub stands : next ≡ length (grown (grown run delivered) taken).trace.world.sent

abbrev pub IsRound : ℕ → ℕ → Option ℕ → RunV → List Event → Type 0
IsRound client message None run events = IsFollowed run client message events
IsRound client message (Some next) run events = IsSentOn client message next run events

-- the message to follow, where there is one, is a request of the client
abbrev pub IsRequested : {X : Type 0} → SimulationV X → ℕ → Option ℕ → Type 0
IsRequested sim client None = Unit {0}
IsRequested sim client (Some next) = IsRequestAt sim client next

-- a reply, where there is one, is for the client that asked
abbrev pub RepliesAt : {X : Type 0} → SimulationV X → SimulationV X → ℕ → Option ℕ → Type 0
RepliesAt old new message None = Unit {0}
RepliesAt old new message (Some first) = RepliesTo old new message first

-- ---- what is so where a line was not carried out to its end

-- the event would pass the limit
abbrev pub Passes : Which → RunV → Event → Type 0
Passes limits.Events run event = EVENTS ≤ length run.events
Passes limits.Moment run (Tick by) = MOMENTS ≤ run.trace.world.now + by
Passes limits.Directories run (Serve server places how) = (is_up (slice_get run.trace.world.servers server) ≡ true)
    × (can_serve (slice_get run.trace.world.servers server) ≡ false)
Passes which run event = ⊥

-- the order in which the limits are named that one event would pass
abbrev pub rank : Which → ℕ
rank limits.Events = 0
rank limits.Moment = 1
rank limits.Directories = 2
rank limits.Rows = 3
rank limits.Lines = 4

-- the event would pass the limit, and none that is named before it
pub record PassesFirst (which : Which) (run : RunV) (event : Event) : Type 0 where
  pub passes : Passes which run event
  pub first : (other : Which) → rank other < rank which → Passes other run event → ⊥

-- some event that comes next would pass the limit first
pub record IsAtLimit (which : Which) (run : RunV) (P : Event → Type 0) : Type 0 where
  pub next : Event
  pub comes : P next
  pub passes : PassesFirst which run next

-- at a limit the simulation shows the run and the text is whole, and the next event would pass it; no disk of a run
-- that is shown is damaged
abbrev pub HaltsAt : {X : Type 0} → (X → Contents) → (X → Image → Type 0) → SimulationV X → List ℕ → List ℕ → RunV
    → List Event → (List Event → Type 0) → Halt → Type 0
HaltsAt seen images new was now run events P (halts.Limit which) =
    Goes seen images new was now run events × IsAtLimit which (grown_by run events) (λ event. P (events ++ event ∷ []))
HaltsAt seen images new was now run events P (halts.Damaged server file offset damage) = ⊥
HaltsAt seen images new was now run events P halts.OutOfMemory = Unit {0}

-- a front of the text was put behind what was pending
pub record PutsFront (was now text : List ℕ) : Type 0 where
  pub front : List ℕ
  pub rest : List ℕ
  pub whole : text ≡ front ++ rest
  pub pending : now ≡ was ++ front

-- events of this kind happened, each of which may, and no more than a run may have; the servers are those of the run
-- with them, or with one more, which goes on in this kind
pub record HaltsBy {X : Type 0} (seen : X → Contents) (images : X → Image → Type 0) (new : SimulationV X)
    (was now : List ℕ) (run : RunV) (P : List Event → Type 0) (halt : Halt) : Type 0 where
  pub events : List Event
  pub are : P events
  pub may : all_may run events ≡ true
  pub few : length (grown_by run events).events ≤ EVENTS
  pub near : StandNear seen images new.setup new.stores (λ event. P (events ++ event ∷ [])) (grown_by run events)
  pub text : PutsFront was now (events_text run events)
  pub at : HaltsAt seen images new was now run events P halt

-- what a fault of a server's restart comes to, where it is not the device's
abbrev pub halt_of : ℕ → StoreFault → Halt
halt_of server (faults.Damaged file offset damage) = halts.Damaged server file offset damage
halt_of server fault = halts.OutOfMemory

-- no disk was found damaged
abbrev pub TellsNoDamage : Halt → Type 0
TellsNoDamage (halts.Damaged server file offset damage) = ⊥
TellsNoDamage halt = Unit {0}

-- so it was halted, whatever run the simulation showed before
pub record Halts {X : Type 0} (seen : X → Contents) (images : X → Image → Type 0) (old new : SimulationV X)
    (was now : List ℕ) (P : RunV → List Event → Type 0) (halt : Halt) : Type 0 where
  pub runs : (run : RunV) → Shows seen images old run → HaltsBy seen images new was now run (P run) halt
  pub sound : TellsNoDamage halt

-- damage is of the server that the line restarts, and what the log of its disk has
abbrev pub NamesDamage : {X : Type 0} → (X → Contents) → SimulationV X → Line → Halt → Type 0
NamesDamage seen new line (halts.Damaged server file offset damage) =
    (line ≡ lines.Restart server) × IsRestartFault seen new server (faults.Damaged file offset damage)
NamesDamage seen new line halt = Unit {0}

-- so a line was halted
pub record HaltsLine {X : Type 0} (seen : X → Contents) (images : X → Image → Type 0) (old new : SimulationV X)
    (was now : List ℕ) (line : Line) (halt : Halt) : Type 0 where
  pub runs : (run : RunV) → Shows seen images old run
      → HaltsBy seen images new was now run (IsBegun run line) halt
  pub found : NamesDamage seen new line halt

-- no event, or such events
abbrev pub OrNone : (RunV → List Event → Type 0) → RunV → List Event → Type 0
OrNone P run events = (events ≡ []) ⊎ P run events

-- What the lines of a script do, as events. Open is only which Serves and restarts the device stops, and what a restart
-- keeps.
use Rattle.std.specs.Prelude.{◌≡◌, ◌⊎◌, ℕ, ◌≤◌, ◌&&◌, Bool, true, false, not, is_some, nat_lt, List, [], ◌∷◌, length}
use Rattle.std.specs.Prelude.{Option, Some, None}
use Rattle.std.specs.List.{slice_get}
use Rattle.mds_base.specs.declared.setup.Setup.{Setup}
use Rattle.client_core.specs.declared.taken.Taken.{Taken}
use Rattle.client_core.specs.declared.taken.Taken.TheVariants as takes
use Rattle.client_core.specs.Taking as taking
use Rattle.node_core.specs.Rules.{is_served}
use Rattle.records.specs.declared.msg.Msg.{Msg}
use Rattle.script.specs.Grammar.{IsLine}
use Rattle.script.specs.declared.line.Line.{Line}
use Rattle.script.specs.declared.line.Line.TheVariants as lines
use Rattle.simulation.specs.Runs.{RunV, grown, is_named}
use Rattle.simulation.specs.Shows.{server_for}
use Rattle.world.specs.declared.event.Event.{Event}
use Rattle.world.specs.declared.event.Event.TheVariants.{Issue, Resend, Serve, Miss, Take, Stop, Restart, Tick}
use Rattle.world.specs.declared.event.ServeEnd.TheVariants as ends
use Rattle.world.specs.declared.event.StopCause.TheVariants.{Asked, Device}
use Rattle.world.specs.declared.state.ClientState.{ClientState}
use Rattle.world.specs.Events.{enabled, step, seat_at, is_open, is_up, is_for_client}
use Rattle.world.specs.Worlds.{WorldV}

-- the run with these events more
abbrev pub grown_by : RunV → List Event → RunV
grown_by run [] = run
grown_by run (event ∷ events) = grown_by (grown run event) events

-- each of these events may happen at its place
abbrev pub all_may : RunV → List Event → Bool
all_may run [] = true
all_may run (event ∷ events) = enabled run.trace.world event && all_may (grown run event) events

-- ---- which lines are allowed

-- some bytes say the line
abbrev pub IsSaid : Setup → Line → Type 0
IsSaid setup line = (bytes : List ℕ) × IsLine setup bytes line

-- whether a client is there and has no call open, or one
abbrev pub seat_is_idle : Option ClientState → Bool
seat_is_idle None = false
seat_is_idle (Some seat) = not (is_open seat.client.pending)

abbrev pub seat_is_busy : Option ClientState → Bool
seat_is_busy None = false
seat_is_busy (Some seat) = is_open seat.client.pending

-- whether a line is allowed at its place, by the world there; one that is not carried out yet is allowed nowhere
abbrev pub is_allowed : WorldV → Line → Bool
is_allowed w lines.Skipped = true
is_allowed w (lines.Call client call) = seat_is_idle (seat_at w.clients client) && is_served call
is_allowed w (lines.Issue client call) = seat_is_idle (seat_at w.clients client) && is_served call
is_allowed w (lines.Retry client) = seat_is_busy (seat_at w.clients client)
is_allowed w (lines.Deliver message) = is_some (server_for (slice_get w.sent message))
is_allowed w (lines.Take client message) = is_for_client client (slice_get w.sent message)
is_allowed w lines.Settle = true
is_allowed w (lines.Tick by) = true
is_allowed w (lines.Fuse server calls) = true
is_allowed w (lines.Stop server) = is_up (slice_get w.servers server)
is_allowed w (lines.Restart server) = not (is_up (slice_get w.servers server))
is_allowed w line = false

-- ---- what a line does

-- the message is served, however that ends, or the device stops its server first; or its server is down
abbrev pub IsDeliveredAt : ℕ → ℕ → Bool → Event → Type 0
IsDeliveredAt message server true event = (event ≡ Serve server (message ∷ []) ends.Done)
    ⊎ ((event ≡ Serve server (message ∷ []) ends.Stop) ⊎ (event ≡ Stop server Device))
IsDeliveredAt message server false event = event ≡ Miss message

pub record IsDelivered (w : WorldV) (message : ℕ) (event : Event) : Type 0 where
  pub server : ℕ
  pub is : server_for (slice_get w.sent message) ≡ Some server
  pub how : IsDeliveredAt message server (is_up (slice_get w.servers server)) event

-- whether an event sends a message
abbrev pub sends : WorldV → Event → Bool
sends w event = nat_lt (length w.sent) (length (step w event).sent)

-- what a client makes of a message
abbrev pub taken_by : Option ClientState → Option Msg → Option Taken
taken_by (Some seat) (Some msg) = Some (taking.take seat.client msg).taken
taken_by seat msg = None

abbrev pub is_redirected : Option Taken → Bool
is_redirected (Some (takes.Redirected part)) = true
is_redirected taken = false

-- whether a client that takes the message is redirected
abbrev pub redirects : WorldV → ℕ → ℕ → Bool
redirects w client message = is_redirected (taken_by (seat_at w.clients client) (slice_get w.sent message))

-- the message is delivered, and the client takes the reply that this sent
pub record IsAnswered (run : RunV) (client message : ℕ) (delivered taken : Event) : Type 0 where
  pub delivered' : IsDelivered run.trace.world message delivered
  pub sends' : sends run.trace.world delivered ≡ true
  pub taken' : taken ≡ Take client (length run.trace.world.sent)

-- whether that reply redirects the client
abbrev pub is_sent_on : RunV → ℕ → Event → Bool
is_sent_on run client delivered = redirects (grown run delivered).trace.world client (length run.trace.world.sent)

-- it does, and the call is sent again
pub record IsSentAgain (run : RunV) (client message : ℕ) (delivered taken sent : Event) : Type 0 where
  pub answered : IsAnswered run client message delivered taken
  pub redirects' : is_sent_on run client delivered ≡ true
  pub sent' : sent ≡ Resend client

-- A client's message is followed: it is delivered; where that sends a reply the client takes it; and where that
-- redirects it, the call is sent again and that message followed.
abbrev pub IsFollowed : RunV → ℕ → ℕ → List Event → Type 0
IsFollowed run client message [] = ⊥
IsFollowed run client message (delivered ∷ []) =
    IsDelivered run.trace.world message delivered × (sends run.trace.world delivered ≡ false)
IsFollowed run client message (delivered ∷ taken ∷ []) =
    IsAnswered run client message delivered taken × (is_sent_on run client delivered ≡ false)
IsFollowed run client message (delivered ∷ taken ∷ sent ∷ more) =
    IsSentAgain run client message delivered taken sent
    × IsFollowed (grown (grown (grown run delivered) taken) sent) client
    (length (grown (grown run delivered) taken).trace.world.sent) more

-- the message is for a server that is up, and was named in no Serve
abbrev pub up_at : WorldV → Option ℕ → Bool
up_at w None = false
up_at w (Some server) = is_up (slice_get w.servers server)

abbrev pub is_due : RunV → ℕ → Bool
is_due run message =
    up_at run.trace.world (server_for (slice_get run.trace.world.sent message)) && not (is_named run.events message)

pub record IsFirstDue (run : RunV) (message : ℕ) : Type 0 where
  pub due : is_due run message ≡ true
  pub first : (other : ℕ) → is_due run other ≡ true → message ≤ other

-- the first message that is due is delivered
pub record IsServedFirst (run : RunV) (event : Event) : Type 0 where
  pub message : ℕ
  pub first : IsFirstDue run message
  pub delivered : IsDelivered run.trace.world message event

-- the first message that is due is delivered, again and again until none is
abbrev pub IsSettled : RunV → List Event → Type 0
IsSettled run [] = (message : ℕ) → is_due run message ≡ false
IsSettled run (event ∷ events) = IsServedFirst run event × IsSettled (grown run event) events

-- a client's message is sent, and then followed
abbrev pub IsSentAndFollowed : RunV → ℕ → Event → List Event → Type 0
IsSentAndFollowed run client event [] = ⊥
IsSentAndFollowed run client event (sent ∷ more) =
    (sent ≡ event) × IsFollowed (grown run sent) client (length run.trace.world.sent) more

-- the message is delivered
abbrev pub IsDelivery : RunV → ℕ → List Event → Type 0
IsDelivery run message events = (event : Event) × (events ≡ event ∷ []) × IsDelivered run.trace.world message event

abbrev pub IsRestarted : ℕ → List Event → Type 0
IsRestarted server events = ((kept : ℕ) × (events ≡ Restart server kept ∷ [])) ⊎ (events ≡ Stop server Device ∷ [])

-- these are the events of a line
abbrev pub IsDone : RunV → Line → List Event → Type 0
IsDone run lines.Skipped events = events ≡ []
IsDone run (lines.Call client call) events = IsSentAndFollowed run client (Issue client call) events
IsDone run (lines.Issue client call) events = events ≡ Issue client call ∷ []
IsDone run (lines.Retry client) events = IsSentAndFollowed run client (Resend client) events
IsDone run (lines.Deliver message) events = IsDelivery run message events
IsDone run (lines.Take client message) events = events ≡ Take client message ∷ []
IsDone run lines.Settle events = IsSettled run events
IsDone run (lines.Tick by) events = events ≡ Tick by ∷ []
IsDone run (lines.Fuse server calls) events = events ≡ []
IsDone run (lines.Stop server) events = events ≡ Stop server Asked ∷ []
IsDone run (lines.Restart server) events = IsRestarted server events
IsDone run line events = ⊥

-- ---- what a line has done where it is not carried out to its end

abbrev pub IsFollowing : RunV → ℕ → ℕ → List Event → Type 0
IsFollowing run client message [] = Unit {0}
IsFollowing run client message (delivered ∷ []) = IsDelivered run.trace.world message delivered
IsFollowing run client message (delivered ∷ taken ∷ []) = IsAnswered run client message delivered taken
IsFollowing run client message (delivered ∷ taken ∷ sent ∷ more) =
    IsSentAgain run client message delivered taken sent
    × IsFollowing (grown (grown (grown run delivered) taken) sent) client
    (length (grown (grown run delivered) taken).trace.world.sent) more

abbrev pub IsSettling : RunV → List Event → Type 0
IsSettling run [] = Unit {0}
IsSettling run (event ∷ events) = IsServedFirst run event × IsSettling (grown run event) events

abbrev pub IsSending : RunV → ℕ → Event → List Event → Type 0
IsSending run client event [] = Unit {0}
IsSending run client event (sent ∷ more) =
    (sent ≡ event) × IsFollowing (grown run sent) client (length run.trace.world.sent) more

-- these events begin the line
abbrev pub IsBegun : RunV → Line → List Event → Type 0
IsBegun run (lines.Call client call) events = IsSending run client (Issue client call) events
IsBegun run (lines.Retry client) events = IsSending run client (Resend client) events
IsBegun run lines.Settle events = IsSettling run events
IsBegun run line events = (events ≡ []) ⊎ IsDone run line events

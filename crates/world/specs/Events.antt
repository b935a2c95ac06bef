-- When an event is enabled in a world, and the world after it.
use Rattle.std.specs.Prelude.{ℕ, zero, suc, ◌+◌, ◌^◌, ◌&&◌, ◌||◌, ◌==◌, not, Bool, true, false, List, [], ◌∷◌, ◌++◌}
use Rattle.std.specs.Prelude.{length, take, slice_set, Option, Some, None, nat_lt, is_some}
use Rattle.std.specs.List.{slice_get, list_all, list_any}
use Rattle.std.specs.FinSet as set
use Rattle.mds_base.specs.declared.TheConstants.{RADIX}
use Rattle.mds_base.specs.declared.limits.TheConstants.{ATTEMPTS, CALLS, MOMENTS}
use Rattle.mds_base.specs.declared.call.Call.{Call}
use Rattle.mds_base.specs.Calls.{is_well_made}
use Rattle.records.specs.declared.msg.Msg.{Msg}
use Rattle.records.specs.Messages.{server_of_msg, client_of_msg}
use Rattle.bitmap.specs.Bits.{Bits, has}
use Rattle.node_core.specs.Nodes.{NodeAndRows, has_numbers}
use Rattle.node_core.specs.Rules.{is_served}
use Rattle.node_core.specs.Serving.{ServedV, serve_all, replayed_all, restarted}
use Rattle.client_core.specs.declared.client.Pending.{Pending}
use Rattle.client_core.specs.Clients.{ClientV, issued, issue_msg, resent, resend_msg, merged, bits_in}
use Rattle.client_core.specs.Taking as taking
use Rattle.world.specs.declared.event.Event.{Event}
use Rattle.world.specs.declared.event.Event.TheVariants.{Issue, Resend, Serve, Miss, Take, Cached, Hint, Remind, Stop}
use Rattle.world.specs.declared.event.Event.TheVariants.{Restart, Tick, GiveUp, Verdict}
use Rattle.world.specs.declared.event.ServeEnd.{ServeEnd}
use Rattle.world.specs.declared.event.ServeEnd.TheVariants as ends
use Rattle.world.specs.declared.event.StopCause.{StopCause}
use Rattle.world.specs.declared.event.StopCause.TheVariants.{Asked, Device}
use Rattle.world.specs.declared.state.ServerState.{ServerState}
use Rattle.world.specs.declared.state.ClientState.{ClientState}
use Rattle.world.specs.Worlds.{WorldV, store_of, with_store}

-- When an event is enabled

-- a call that is served, each of its numbers within its range
abbrev pub is_call : Call → Bool
is_call call = is_served call && is_well_made call

-- whether a number that may be there is this one
abbrev pub is_one : ℕ → Option ℕ → Bool
is_one number None = false
is_one number (Some other) = other == number

-- a message is for a server, and for a client
abbrev pub is_for_server : ℕ → Option Msg → Bool
is_for_server server None = false
is_for_server server (Some msg) = is_one server (server_of_msg msg)

abbrev pub is_for_client : ℕ → Option Msg → Bool
is_for_client client None = false
is_for_client client (Some msg) = is_one client (client_of_msg msg)

-- the attempts of an open call leave room for further ones
abbrev pub has_room : Option Pending → Bool
has_room None = true
has_room (Some pending) = nat_lt pending.attempt ATTEMPTS

abbrev pub is_open : Option Pending → Bool
is_open None = false
is_open (Some pending) = true

abbrev pub can_issue : Option ClientState → Call → Bool
can_issue None call = false
can_issue (Some seat) call =
    (not seat.quit && not (is_open seat.client.pending)) && (nat_lt seat.client.seq CALLS && is_call call)

abbrev pub can_resend : Option ClientState → Bool
can_resend None = false
can_resend (Some seat) =
    (not seat.quit && is_open seat.client.pending) && (nat_lt seat.client.seq CALLS && has_room seat.client.pending)

abbrev pub can_take : Option ClientState → Bool
can_take None = false
can_take (Some seat) = nat_lt seat.client.seq CALLS && has_room seat.client.pending

abbrev pub can_give_up : Option ClientState → Bool
can_give_up None = false
can_give_up (Some seat) = not seat.quit && is_open seat.client.pending

abbrev pub can_serve : Option ServerState → Bool
can_serve None = false
can_serve (Some server) = server.up && has_numbers server.node

abbrev pub is_up : Option ServerState → Bool
is_up None = false
is_up (Some server) = server.up

abbrev pub is_there : Option ServerState → Bool
is_there None = false
is_there (Some server) = true

-- a server is there and down
abbrev pub is_down_at : List ServerState → Option ℕ → Bool
is_down_at servers None = false
is_down_at servers (Some server) = is_there (slice_get servers server) && not (is_up (slice_get servers server))

-- a message meets a server that is down
abbrev pub misses : List ServerState → Option Msg → Bool
misses servers None = false
misses servers (Some msg) = is_down_at servers (server_of_msg msg)

-- a server that is down may keep none of the records in doubt, or all
abbrev pub can_restart : Option ServerState → ℕ → Bool
can_restart None kept = false
can_restart (Some server) kept = not server.up && ((kept == 0) || (kept == length server.doubt))

-- some client's bitmap of the directory has the partition
abbrev pub is_known : List ClientState → ℕ → ℕ → Bool
is_known clients dir part = list_any (λ seat. has (bits_in seat.client dir) part) clients

-- the client of a number
abbrev pub seat_at : List ClientState → ℕ → Option ClientState
seat_at clients zero = None
seat_at clients (suc k) = slice_get clients k

abbrev pub can_stop : Option ServerState → StopCause → Bool
can_stop server Asked = is_up server
can_stop server Device = is_there server

-- the places are those of one message, which is for the server
abbrev pub serves_at : List Msg → ℕ → List ℕ → Bool
serves_at sent server places = (length places == 1) && list_all (λ k. is_for_server server (slice_get sent k)) places

-- each partition of a bitmap of a directory is known to some client
abbrev pub are_known : List ClientState → ℕ → Bits → Bool
are_known clients dir bits = list_all (is_known clients dir) (set.items bits)

-- each number below n passes a test
unfoldable pub all_below : (ℕ → Bool) → ℕ → Bool
all_below test zero = true
all_below test (suc n) = test n && all_below test n

-- a bitmap is well formed: it has numbers below 2 ^ radix alone, it has 0, and with m + 2 ^ j, where m < 2 ^ (j + 1),
-- it has m, which is that number's parent or the child before it
unfoldable pub is_well_formed : ℕ → Bits → Bool
is_well_formed radix bits =
    list_all (λ i. nat_lt i (2 ^ radix)) (set.items bits)
    && (has bits 0
    && all_below (λ j. all_below (λ m. not (has bits (m + 2 ^ j)) || has bits m) (2 ^ suc j)) radix)

-- a client may merge a bitmap that is well formed and known to clients, whatever it does otherwise
abbrev pub can_hint : List ClientState → ℕ → ℕ → Bits → Bool
can_hint clients client dir bits =
    is_some (seat_at clients client) && (is_well_formed RADIX bits && are_known clients dir bits)

abbrev pub enabled : WorldV → Event → Bool
enabled w (Issue client call) = can_issue (seat_at w.clients client) call
enabled w (Resend client) = can_resend (seat_at w.clients client)
enabled w (Serve server places how) = can_serve (slice_get w.servers server) && serves_at w.sent server places
enabled w (Miss message) = misses w.servers (slice_get w.sent message)
enabled w (Take client message) = can_take (seat_at w.clients client) && is_for_client client (slice_get w.sent message)
enabled w (Cached client call) = false
enabled w (Hint client dir bits) = can_hint w.clients client dir bits
enabled w (Remind server) = is_up (slice_get w.servers server)
enabled w (Stop server cause) = can_stop (slice_get w.servers server) cause
enabled w (Restart server kept) = can_restart (slice_get w.servers server) kept
enabled w (Tick by) = nat_lt (w.now + by) MOMENTS
enabled w (GiveUp client) = can_give_up (seat_at w.clients client)
enabled w (Verdict client verdict) = true

-- The world after an event

abbrev pub set_server : WorldV → ℕ → ServerState → WorldV
set_server w server state = record w { servers = slice_set w.servers server state }

-- the place of a client among the clients
abbrev pub index_of : ℕ → ℕ
index_of zero = zero
index_of (suc k) = k

abbrev pub set_client : WorldV → ℕ → ClientState → WorldV
set_client w client state = record w { clients = slice_set w.clients (index_of client) state }

abbrev pub say : WorldV → List Msg → WorldV
say w msgs = record w { sent = w.sent ++ msgs }

abbrev pub with_client : ClientState → ClientV → ClientState
with_client seat client = record { client = client; quit = seat.quit }

abbrev pub after_issue : WorldV → ℕ → Call → Option ClientState → WorldV
after_issue w client call None = w
after_issue w client call (Some seat) =
    say (set_client w client (with_client seat (issued seat.client call))) (issue_msg seat.client call ∷ [])

abbrev pub after_resend_of : WorldV → ℕ → ClientState → Option Pending → WorldV
after_resend_of w client seat None = w
after_resend_of w client seat (Some pending) =
    say (set_client w client (with_client seat (resent seat.client pending))) (resend_msg seat.client pending ∷ [])

abbrev pub after_resend : WorldV → ℕ → Option ClientState → WorldV
after_resend w client None = w
after_resend w client (Some seat) = after_resend_of w client seat seat.client.pending

-- the messages at some places
abbrev pub onto_msgs : Option Msg → List Msg → List Msg
onto_msgs None msgs = msgs
onto_msgs (Some msg) msgs = msg ∷ msgs

abbrev pub msgs_at : List Msg → List ℕ → List Msg
msgs_at sent [] = []
msgs_at sent (message ∷ places) = onto_msgs (slice_get sent message) (msgs_at sent places)

-- a Serve that is done changes the store and sends its messages; one that stops leaves its records in doubt, and the
-- server down
abbrev pub after_serve_of : WorldV → ℕ → ServerState → ServedV → ServeEnd → WorldV
after_serve_of w server state done ends.Done = say (set_server w server (with_store state done.store)) done.outputs
after_serve_of w server state done ends.Stop =
    set_server w server (record { node = state.node; rows = state.rows; up = false; doubt = done.records })

abbrev pub after_serve : WorldV → ℕ → List ℕ → ServeEnd → Option ServerState → WorldV
after_serve w server places how None = w
after_serve w server places how (Some state) =
    after_serve_of w server state (serve_all (store_of state) (msgs_at w.sent places) w.now) how

abbrev pub after_take_of : WorldV → ℕ → ClientState → Option Msg → WorldV
after_take_of w client seat None = w
after_take_of w client seat (Some msg) = set_client w client (with_client seat (taking.take seat.client msg).client)

abbrev pub after_take : WorldV → ℕ → Option Msg → Option ClientState → WorldV
after_take w client msg None = w
after_take w client msg (Some seat) = after_take_of w client seat msg

abbrev pub after_hint : WorldV → ℕ → ℕ → Bits → Option ClientState → WorldV
after_hint w client dir bits None = w
after_hint w client dir bits (Some seat) = set_client w client (with_client seat (merged seat.client dir bits))

abbrev pub after_stop : WorldV → ℕ → Option ServerState → WorldV
after_stop w server None = w
after_stop w server (Some state) =
    set_server w server (record { node = state.node; rows = state.rows; up = false; doubt = state.doubt })

-- the first `kept` records in doubt are kept, the floors are set, and the server is up
abbrev pub up_with : ServerState → NodeAndRows → ServerState
up_with state store = record { node = store.node; rows = store.rows; up = true; doubt = [] }

abbrev pub after_restart : WorldV → ℕ → ℕ → Option ServerState → WorldV
after_restart w server kept None = w
after_restart w server kept (Some state) =
    set_server w server (up_with state (restarted (replayed_all (store_of state) (take kept state.doubt)) w.now))

abbrev pub after_give_up : WorldV → ℕ → Option ClientState → WorldV
after_give_up w client None = w
after_give_up w client (Some seat) = set_client w client (record { client = seat.client; quit = true })

abbrev pub step : WorldV → Event → WorldV
step w (Issue client call) = after_issue w client call (seat_at w.clients client)
step w (Resend client) = after_resend w client (seat_at w.clients client)
step w (Serve server places how) = after_serve w server places how (slice_get w.servers server)
step w (Miss message) = w
step w (Take client message) = after_take w client (slice_get w.sent message) (seat_at w.clients client)
step w (Cached client call) = w
step w (Hint client dir bits) = after_hint w client dir bits (seat_at w.clients client)
step w (Remind server) = w
step w (Stop server cause) = after_stop w server (slice_get w.servers server)
step w (Restart server kept) = after_restart w server kept (slice_get w.servers server)
step w (Tick by) = record w { now = w.now + by }
step w (GiveUp client) = after_give_up w client (seat_at w.clients client)
step w (Verdict client verdict) = w

-- Whole runs

abbrev pub steps : WorldV → List Event → WorldV
steps w [] = w
steps w (event ∷ events) = steps (step w event) events

abbrev pub all_enabled : WorldV → List Event → Bool
all_enabled w [] = true
all_enabled w (event ∷ events) = enabled w event && all_enabled (step w event) events

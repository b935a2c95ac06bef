-- What an event makes of a simulation: a function of what it was and, where it is an event of a server, of the server's
-- new store.
use Rattle.std.specs.Prelude.{ℕ, ◌+◌, ◌-◌, List, [], ◌∷◌, ◌++◌, length, slice_set, Option, Some, None}
use Rattle.std.specs.List.{slice_get}
use Rattle.std.specs.FinSet as set
use Rattle.std.specs.Ordering.{nat_cmp}
use Rattle.mds_base.specs.declared.call.Call.{Call}
use Rattle.records.specs.declared.msg.Msg.{Msg}
use Rattle.client_core.specs.declared.client.Pending.{Pending}
use Rattle.client_core.specs.declared.taken.Taken.{Taken}
use Rattle.client_core.specs.declared.taken.Taken.TheVariants.{Answer}
use Rattle.client_core.specs.Clients.{ClientV, issued, issue_msg, resent, resend_msg}
use Rattle.client_core.specs.Taking.{Took, take}
use Rattle.mds_out.specs.Fused.{Fused}
use Rattle.node_core.specs.Serving.{ServedV}
use Rattle.node_store.specs.Store.{Store}
use Rattle.message_store.specs.declared.made.Made.{Made}
use Rattle.simulation.specs.declared.servers.Served.{Served}
use Rattle.simulation.specs.declared.servers.Served.TheVariants as serves
use Rattle.simulation.specs.Entries.{changes_of, lookup_of, with_one}
use Rattle.simulation.specs.Shows.{SimulationV, waiting_cmp, client_at, server_for}

-- ---- any event

-- one event more
abbrev pub counted : {X : Type 0} → SimulationV X → SimulationV X
counted sim = record sim { count = sim.count + 1 }

-- by which the moment rose
abbrev pub ticked : {X : Type 0} → SimulationV X → ℕ → SimulationV X
ticked sim by = record sim { moment = sim.moment + by; count = sim.count + 1 }

-- ---- a client

-- the messages that wait once one more was sent to stand at this place
abbrev pub awaiting : set.FinSet waiting_cmp → Option ℕ → ℕ → set.FinSet waiting_cmp
awaiting waiting None message = waiting
awaiting waiting (Some server) message = set.insert waiting (server, message)

-- the messages that wait once these were sent, to stand from this place on
abbrev pub awaiting_all : set.FinSet waiting_cmp → List Msg → ℕ → set.FinSet waiting_cmp
awaiting_all waiting [] place = waiting
awaiting_all waiting (msg ∷ msgs) place =
    awaiting_all (awaiting waiting (server_for (Some msg)) place) msgs (place + 1)

-- the client of a number is this one now, and sent a message: it stands at the end, and waits there for its server
abbrev pub sent_by : {X : Type 0} → SimulationV X → ℕ → ClientV → Msg → SimulationV X
sent_by sim number client msg =
    record sim {
      count = sim.count + 1;
      clients = slice_set sim.clients (number - 1) client;
      sent = sim.sent ++ msg ∷ [];
      waiting = awaiting sim.waiting (server_for (Some msg)) (length sim.sent);
    }

-- a client sent its next call
abbrev pub issued_as : {X : Type 0} → SimulationV X → ℕ → Call → Option ClientV → SimulationV X
issued_as sim number call None = sim
issued_as sim number call (Some client) = sent_by sim number (issued client call) (issue_msg client call)

abbrev pub issued_by : {X : Type 0} → SimulationV X → ℕ → Call → SimulationV X
issued_by sim number call = issued_as sim number call (client_at sim.clients number)

-- or its open call again
abbrev pub resent_open : {X : Type 0} → SimulationV X → ℕ → ClientV → Option Pending → SimulationV X
resent_open sim number client None = sim
resent_open sim number client (Some pending) = sent_by sim number (resent client pending) (resend_msg client pending)

abbrev pub resent_as : {X : Type 0} → SimulationV X → ℕ → Option ClientV → SimulationV X
resent_as sim number None = sim
resent_as sim number (Some client) = resent_open sim number client client.pending

abbrev pub resent_by : {X : Type 0} → SimulationV X → ℕ → SimulationV X
resent_by sim number = resent_as sim number (client_at sim.clients number)

-- the places of the messages that answered a call, once the message of this number was taken
abbrev pub noting : set.FinSet nat_cmp → Taken → ℕ → set.FinSet nat_cmp
noting places (Answer reply) message = set.insert places message
noting places taken message = places

-- a client took the message
abbrev pub took_by : {X : Type 0} → SimulationV X → ℕ → ℕ → Took → SimulationV X
took_by sim number message took =
    record sim {
      count = sim.count + 1;
      clients = slice_set sim.clients (number - 1) took.client;
      taken = noting sim.taken took.taken message;
    }

abbrev pub taken_as : {X : Type 0} → SimulationV X → ℕ → ℕ → Option ClientV → Option Msg → SimulationV X
taken_as sim number message (Some client) (Some msg) = took_by sim number message (take client msg)
taken_as sim number message client msg = sim

abbrev pub taken_by : {X : Type 0} → SimulationV X → ℕ → ℕ → SimulationV X
taken_by sim number message = taken_as sim number message (client_at sim.clients number) (slice_get sim.sent message)

-- ---- a server, with its new store

-- it is stopped
abbrev pub halted_by : {X : Type 0} → SimulationV X → ℕ → Store X → SimulationV X
halted_by sim server store = record sim { count = sim.count + 1; stores = slice_set sim.stores server store }

-- the messages, those that wait, and the entries, once a Serve ended so that gives this; the messages stood up to this
-- place before
abbrev pub sent_after : List Msg → ServedV → Served → List Msg
sent_after sent given serves.Stopped = sent
sent_after sent given served = sent ++ given.outputs

abbrev pub waiting_after : set.FinSet waiting_cmp → ServedV → ℕ → Served → set.FinSet waiting_cmp
waiting_after waiting given place serves.Stopped = waiting
waiting_after waiting given place served = awaiting_all waiting given.outputs place

abbrev pub made_after : List Made → Msg → ServedV → ℕ → Served → List Made
made_after made msg given message serves.Stopped = made
made_after made msg given message served =
    with_one (made ++ changes_of given.records) (lookup_of msg given.outputs message)

-- its Serve of the message ended so
abbrev pub served_by : {X : Type 0} → SimulationV X → ℕ → ℕ → Store X → Msg → ServedV → Served → SimulationV X
served_by sim server message store msg given served =
    record sim {
      count = sim.count + 1;
      stores = slice_set sim.stores server store;
      sent = sent_after sim.sent given served;
      waiting = waiting_after (set.remove sim.waiting (server, message)) given (length sim.sent) served;
      made = made_after sim.made msg given (length sim.sent) served;
    }

-- its restart ended, and these are the entries then
abbrev pub restarted_by : {X : Type 0} → SimulationV X → ℕ → Store X → List Made → SimulationV X
restarted_by sim server store made =
    record sim { count = sim.count + 1; stores = slice_set sim.stores server store; made = made }

-- ---- its store

-- it is stopped
abbrev pub halt : {X : Type 0} → Store X → Store X
halt store = record store { up = None }

-- the next calls of its disk pass, so many, before later ones fail; or its fuse is mended
abbrev pub armed : {D : Type 0} → Store (Fused D) → ℕ → Store (Fused D)
armed store calls = record store { disk = record store.disk { left = Some calls } }

abbrev pub mended : {D : Type 0} → Store (Fused D) → Store (Fused D)
mended store = record store { disk = record store.disk { left = None } }

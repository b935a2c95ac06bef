-- What a simulation tells of the world of the run that it shows.
use Rattle.std.proofs.Common.{◌≡◌, ◌∙◌, sym, ap, subst, refl, ℕ, zero, suc, ◌<◌, ◌&&◌, ◌==◌, not, Bool, true, false, is_some, List, [], ◌∷◌, length, Option, Some, None, arith}
use Rattle.std.specs.List.{slice_get}
use Rattle.std.proofs.lemmas.Bool.{and_parts, and_from, eq-eqb, eqb-true}
use Rattle.std.proofs.lemmas.Option.{same_Some}
use Rattle.mds_out.specs.Disk.{Image, Contents}
use Rattle.client_core.specs.declared.client.Pending.{Pending}
use Rattle.node_core.specs.Nodes.{has_numbers}
use Rattle.node_store.specs.Store.{Store}
use Rattle.node_core.specs.Rules.{is_served}
use Rattle.records.specs.declared.msg.Msg.{Msg}
use Rattle.records.specs.Messages.{server_of_msg}
use Rattle.script.specs.declared.line.Line.{Line}
use Rattle.script.specs.declared.line.Line.TheVariants as lines
use Rattle.world.specs.declared.state.ServerState.{ServerState}
use Rattle.world.specs.declared.state.ClientState.{ClientState}
use Rattle.world.specs.Events.{seat_at, is_one, is_open, is_up, can_serve, is_for_server, is_for_client}
use Rattle.simulation.specs.Calls.{taken_of}
use Rattle.simulation.specs.Runs.{RunV, is_named}
use Rattle.simulation.specs.Shows.{SimulationV, Shows, IsDue, client_at, is_idle, is_busy, server_for, store_is_up, up_has_numbers, store_has_numbers, has_numbers_at}
use Rattle.pasts.specs.Servers.{IsServerAt, IsServer}
use Rattle.simulation.specs.Shows as shown
use Rattle.simulation.proofs.ClientsShown as seats
use Rattle.simulation.proofs.ClientsShown.{client_in}
use Rattle.interpreter.specs.Steps.{allows}
use Rattle.interpreter.specs.Story.{seat_is_idle, seat_is_busy, taken_by, up_at, is_due, is_allowed}

-- ---- clients

pub open_is_some : (pending : Option Pending) → is_some pending ≡ is_open pending
open_is_some None = refl
open_is_some (Some pending) = refl

idle_in : (seat : Option ClientState) → is_idle (client_in seat) ≡ seat_is_idle seat
idle_in None = refl
idle_in (Some seat) = ap not (open_is_some seat.client.pending)

busy_in : (seat : Option ClientState) → is_busy (client_in seat) ≡ seat_is_busy seat
busy_in None = refl
busy_in (Some seat) = open_is_some seat.client.pending

taken_in : (seat : Option ClientState) (msg : Option Msg) → taken_of (client_in seat) msg ≡ taken_by seat msg
taken_in None msg = refl
taken_in (Some seat) None = refl
taken_in (Some seat) (Some msg) = refl

-- ---- servers

abbrev Both : {A B : Type 0} → Option A → Option B → Type 0
Both None None = Unit {0}
Both None (Some y) = ⊥
Both (Some x) None = ⊥
Both (Some x) (Some y) = Unit {0}

less_one : (m n : ℕ) → suc m ≡ suc n → m ≡ n
less_one m n e = omega arith

both_at : {A B : Type 0} (xs : List A) (ys : List B) → length xs ≡ length ys → (k : ℕ) → Both (slice_get xs k) (slice_get ys k)
both_at [] [] e k = tt
both_at [] (y ∷ ys) e k = absurd (omega arith)
both_at (x ∷ xs) [] e k = absurd (omega arith)
both_at (x ∷ xs) (y ∷ ys) e zero = tt
both_at (x ∷ xs) (y ∷ ys) e (suc k) = both_at xs ys (less_one (length xs) (length ys) e) k

module _ {X : Type 0} (seen : X → Contents) (images : X → Image → Type 0) where
  up_is : (store : Store X) (state : ServerState) (up : Bool) → IsServerAt seen images store state up → up ≡ is_some store.up
  up_is store state true at = sym (ap is_some at.0)
  up_is store state false at = sym (ap is_some at.0.down)

  numbers_are : (store : Store X) (state : ServerState) (up : Bool) → IsServerAt seen images store state up → is_some store.up ≡ true → (up && has_numbers state.node) ≡ up_has_numbers store.up
  numbers_are store state true at e = sym (ap up_has_numbers at.0)
  numbers_are store state false at e = sym (ap up_has_numbers at.0.down)

  abbrev Stands : Option (Store X) → Option ServerState → Type 0
  Stands o q = (store : Store X) (state : ServerState) → o ≡ Some store → q ≡ Some state → IsServerAt seen images store state state.up

  up_both : (o : Option (Store X)) (q : Option ServerState) → Both o q → Stands o q → is_up q ≡ store_is_up o
  up_both None None both stands = refl
  up_both None (Some state) both stands = absurd both
  up_both (Some store) None both stands = absurd both
  up_both (Some store) (Some state) both stands = up_is store state state.up (stands store state refl refl)

  numbers_both : (o : Option (Store X)) (q : Option ServerState) → Both o q → Stands o q → store_is_up o ≡ true → can_serve q ≡ store_has_numbers o
  numbers_both None None both stands up = refl
  numbers_both None (Some state) both stands up = absurd both
  numbers_both (Some store) None both stands up = absurd both
  numbers_both (Some store) (Some state) both stands up = numbers_are store state state.up (stands store state refl refl) up

up_below : {X : Type 0} (stores : List (Store X)) (k : ℕ) → store_is_up (slice_get stores k) ≡ true → k < length stores
up_below [] k e = cc
up_below (store ∷ stores) zero e = omega arith
up_below (store ∷ stores) (suc k) e = let h = up_below stores k e in omega (arith, h)

-- ---- messages

for_one : (server : ℕ) (to : Option ℕ) → is_one server to ≡ true → to ≡ Some server
for_one server None e = cc
for_one server (Some to) e = ap (λ s. Some s) (eqb-true to server e)

for_server : (server : ℕ) (msg : Option Msg) → is_for_server server msg ≡ true → server_for msg ≡ Some server
for_server server None e = cc
for_server server (Some msg) e = for_one server (server_of_msg msg) e

itself : (a b : ℕ) → Some a ≡ Some b → (a == b) ≡ true
itself a b e = eq-eqb a b (same_Some a b e)

one_of : (server : ℕ) (to : Option ℕ) → to ≡ Some server → is_one server to ≡ true
one_of server None e = cc
one_of server (Some to) e = itself to server e

server_of : (server : ℕ) (msg : Option Msg) → server_for msg ≡ Some server → is_for_server server msg ≡ true
server_of server None e = cc
server_of server (Some msg) e = one_of server (server_of_msg msg) e

-- ---- the simulation and the world

module _ {X : Type 0} (seen : X → Contents) (images : X → Image → Type 0) (sim : SimulationV X) (run : RunV) (shows : Shows seen images sim run) where
  pub client_is : (number : ℕ) → client_at sim.clients number ≡ client_in (seat_at run.trace.world.clients number)
  client_is number = seats.client_is run.trace.world.clients sim.clients number shows.clients

  pub seen_idle : (number : ℕ) → is_idle (client_at sim.clients number) ≡ seat_is_idle (seat_at run.trace.world.clients number)
  seen_idle number = ap is_idle (client_is number) ∙ idle_in (seat_at run.trace.world.clients number)

  pub seen_busy : (number : ℕ) → is_busy (client_at sim.clients number) ≡ seat_is_busy (seat_at run.trace.world.clients number)
  seen_busy number = ap is_busy (client_is number) ∙ busy_in (seat_at run.trace.world.clients number)

  pub seen_msg : (message : ℕ) → slice_get sim.sent message ≡ slice_get run.trace.world.sent message
  seen_msg message = ap (λ l. slice_get l message) (sym shows.sent)

  pub seen_taken : (number message : ℕ) → taken_of (client_at sim.clients number) (slice_get sim.sent message) ≡ taken_by (seat_at run.trace.world.clients number) (slice_get run.trace.world.sent message)
  seen_taken number message =
      ap (λ o. taken_of o (slice_get sim.sent message)) (client_is number) ∙ ap (taken_of (client_in (seat_at run.trace.world.clients number))) (seen_msg message)
      ∙ taken_in (seat_at run.trace.world.clients number) (slice_get run.trace.world.sent message)

  servers_both : (server : ℕ) → Both (slice_get sim.stores server) (slice_get run.trace.world.servers server)
  servers_both server = both_at sim.stores run.trace.world.servers shows.servers.count server

  servers_stand : (server : ℕ) → Stands seen images (slice_get sim.stores server) (slice_get run.trace.world.servers server)
  servers_stand server store state is is' = (shows.servers.each.at server state is' store is).at

  pub seen_up : (server : ℕ) → is_up (slice_get run.trace.world.servers server) ≡ shown.is_up sim server
  seen_up server = up_both seen images (slice_get sim.stores server) (slice_get run.trace.world.servers server) (servers_both server) (servers_stand server)

  pub seen_numbers : (server : ℕ) → shown.is_up sim server ≡ true → can_serve (slice_get run.trace.world.servers server) ≡ has_numbers_at sim server
  seen_numbers server up = numbers_both seen images (slice_get sim.stores server) (slice_get run.trace.world.servers server) (servers_both server) (servers_stand server) up

  -- a line is allowed on the simulation where it is in the world
  pub allows_seen : (line : Line) → allows sim line ≡ is_allowed run.trace.world line
  allows_seen lines.Skipped = refl
  allows_seen (lines.Call client call) = ap (λ idle. idle && is_served call) (seen_idle client)
  allows_seen (lines.Issue client call) = ap (λ idle. idle && is_served call) (seen_idle client)
  allows_seen (lines.Retry client) = seen_busy client
  allows_seen (lines.Deliver message) = ap (λ m. is_some (server_for m)) (seen_msg message)
  allows_seen (lines.Take client message) = ap (is_for_client client) (seen_msg message)
  allows_seen lines.Settle = refl
  allows_seen (lines.Tick by) = refl
  allows_seen (lines.Fuse server calls) = refl
  allows_seen (lines.Stop server) = sym (seen_up server)
  allows_seen (lines.Restart server) = ap not (sym (seen_up server))
  allows_seen (lines.Batch server places) = refl
  allows_seen (lines.Remind server) = refl
  allows_seen (lines.Walk client path) = refl
  allows_seen (lines.Bulk client dir name json) = refl
  allows_seen (lines.Rmdir client dir name) = refl
  allows_seen (lines.Feed server) = refl
  allows_seen (lines.Promote server) = refl

  -- what waits for a server that is up is due
  pub due_seen : (servers message : ℕ) → IsDue sim servers message → is_due run message ≡ true
  due_seen servers message due =
      let both = and_parts (is_for_server due.server (slice_get sim.sent message)) (not (is_named run.events message)) (sym (shows.waiting due.server message) ∙ due.waits) in
      let for : server_for (slice_get run.trace.world.sent message) ≡ Some due.server = ap server_for (sym (seen_msg message)) ∙ for_server due.server (slice_get sim.sent message) both.0 in
      and_from (up_at run.trace.world (server_for (slice_get run.trace.world.sent message))) (not (is_named run.events message)) (ap (up_at run.trace.world) for ∙ seen_up due.server ∙ due.up) both.1

  due_of : (message : ℕ) (o : Option ℕ) → server_for (slice_get run.trace.world.sent message) ≡ o → up_at run.trace.world o ≡ true → not (is_named run.events message) ≡ true → IsDue sim (length sim.stores) message
  due_of message None for up unnamed = cc
  due_of message (Some server) for up unnamed =
      let is_up' : shown.is_up sim server ≡ true = sym (seen_up server) ∙ up in
      let meant : is_for_server server (slice_get sim.sent message) ≡ true = server_of server (slice_get sim.sent message) (ap server_for (seen_msg message) ∙ for) in
      record {
        server = server;
        among = up_below sim.stores server is_up';
        up = is_up';
        waits = shows.waiting server message ∙ and_from (is_for_server server (slice_get sim.sent message)) (not (is_named run.events message)) meant unnamed;
      }

  pub due_waits : length sim.stores ≡ sim.setup.servers → (message : ℕ) → is_due run message ≡ true → IsDue sim sim.setup.servers message
  due_waits stores message due =
      let both = and_parts (up_at run.trace.world (server_for (slice_get run.trace.world.sent message))) (not (is_named run.events message)) due in
      subst (λ n. IsDue sim n message) stores (due_of message (server_for (slice_get run.trace.world.sent message)) refl both.0 both.1)

-- What the code of an event reads and writes is what the event's definition says.
use Rattle.std.proofs.Common.{◌≡◌, ◌∙◌, sym, ap, subst, refl, ℕ, zero, suc, ◌+◌, ◌-◌, ◌<◌, ◌≤◌, ◌==◌, ◌&&◌, Bool, true, false, List, [], ◌∷◌, ◌++◌, length, get_or, take, Option, Some, None, arith}
use Rattle.std.specs.Prelude.{slice_set, is_some}
use Rattle.std.specs.List.{slice_get, list_all}
use Rattle.std.proofs.lemmas.Bool.{and_parts}
use Rattle.std.proofs.lemmas.List.{append-nil, take_more}
use Rattle.mds_base.specs.declared.call.Call.{Call}
use Rattle.records.specs.declared.msg.Msg.{Msg}
use Rattle.records.specs.declared.record.Record.{Record}
use Rattle.node_core.specs.Nodes.{NodeAndRows}
use Rattle.node_core.specs.Serving.{serve, serve_all, replayed, replayed_all}
use Rattle.client_core.specs.declared.client.Pending.{Pending}
use Rattle.bitmap.specs.Bits.{Bits}
use Rattle.client_core.specs.Clients.{ClientV, issued, issue_msg, resent, resend_msg, merged, SendsAgain}
use Rattle.client_core.specs.Taking as taking
use Rattle.world.specs.declared.state.ClientState.{ClientState}
use Rattle.world.specs.declared.state.ServerState.{ServerState}
use Rattle.world.specs.declared.event.ServeEnd.{ServeEnd}
use Rattle.world.specs.declared.event.ServeEnd.TheVariants as ends
use Rattle.world.specs.Worlds.{WorldV, store_of, with_store}
use Rattle.world.specs.Events.{seat_at, index_of, is_for_server, serves_at, can_issue, can_resend, can_take, can_serve, onto_msgs, after_issue, after_hint, after_resend, after_resend_of, after_take, after_take_of, after_serve, after_serve_of}
use Rattle.std.proofs.Math.Bool.{and-true}
use Rattle.mds_base.proofs.Lists.{item_is}
use Rattle.world.proofs.Choices.{two_places}

pub index_is : (client : ℕ) → index_of client ≡ client - 1
index_is zero = refl
index_is (suc k) = omega arith

pub seat_is : (f : Option ClientState → Bool) → f None ≡ false → (clients : List ClientState) (client : ℕ) → f (seat_at clients client) ≡ true → (seat : ClientState) → seat ≡ get_or clients (client - 1) seat
    → seat_at clients client ≡ Some seat
seat_is f none clients zero can seat read = cc
seat_is f none clients (suc k) can seat read =
    let less : suc k - 1 ≡ k = omega arith in
    item_is f none clients k can seat (read ∙ ap (λ j. get_or clients j seat) less)

pub seat_place : (f : Option ClientState → Bool) → f None ≡ false → (clients : List ClientState) (client : ℕ) → f (seat_at clients client) ≡ true → (seat : ClientState) → seat ≡ get_or clients (client - 1) seat
    → slice_get clients (client - 1) ≡ Some seat
seat_place f none clients zero can seat read = cc
seat_place f none clients (suc k) can seat read =
    let less : suc k - 1 ≡ k = omega arith in
    ap (slice_get clients) less ∙ item_is f none clients k can seat (read ∙ ap (λ j. get_or clients j seat) less)

-- the place that a Serve names, where it is enabled
pub record IsServedAt (sent : List Msg) (server : ℕ) (places : List ℕ) : Type 0 where
  pub place : ℕ
  pub only : places ≡ place ∷ []
  pub is_for : is_for_server server (slice_get sent place) ≡ true

pub served_at : (sent : List Msg) (server : ℕ) (places : List ℕ) → serves_at sent server places ≡ true → IsServedAt sent server places
served_at sent server [] can = cc
served_at sent server (place ∷ other ∷ places) can =
    absurd (two_places (length places) (and_parts (length (place ∷ other ∷ places) == 1) (list_all (λ k. is_for_server server (slice_get sent k)) (place ∷ other ∷ places)) can).0)
served_at sent server (place ∷ []) can = record {
  place = place;
  only = refl;
  is_for = (and_parts (is_for_server server (slice_get sent place)) true (and_parts (length (place ∷ []) == 1) (is_for_server server (slice_get sent place) && true) can).1).0;
}

pub serves_one : (sent : List Msg) (server : ℕ) (places list : List ℕ) → list ≡ places → 1 ≤ length list → length list < 2 → serves_at sent server places ≡ is_for_server server (slice_get sent (get_or list 0 0))
serves_one sent server places list same from to =
    subst (λ xs. serves_at sent server xs ≡ is_for_server server (slice_get sent (get_or list 0 0))) same (one list from to)
  where
    one : (xs : List ℕ) → 1 ≤ length xs → length xs < 2 → serves_at sent server xs ≡ is_for_server server (slice_get sent (get_or xs 0 0))
    one [] from to = absurd (omega arith)
    one (place ∷ other ∷ places) from to = absurd (omega arith)
    one (place ∷ []) from to = and-true (is_for_server server (slice_get sent place))

pub served_first : (sent : List Msg) (server : ℕ) (places list : List ℕ) → list ≡ places → serves_at sent server places ≡ true → is_for_server server (slice_get sent (get_or list 0 0)) ≡ true
served_first sent server places list same can =
    let s = served_at sent server places can in
    subst (λ xs. is_for_server server (slice_get sent (get_or xs 0 0)) ≡ true) (sym (same ∙ s.only)) s.is_for

pub served_only : (sent : List Msg) (server : ℕ) (places list : List ℕ) → list ≡ places → serves_at sent server places ≡ true → places ≡ get_or list 0 0 ∷ []
served_only sent server places list same can =
    let s = served_at sent server places can in
    s.only ∙ sym (ap (λ xs. get_or xs 0 0 ∷ []) (same ∙ s.only))

-- one record more is replayed
pub replayed_more : (items : List Record) (store : NodeAndRows) (item : Record) → replayed_all store (items ++ item ∷ []) ≡ replayed (replayed_all store items) item
replayed_more [] store item = refl
replayed_more (first ∷ items) store item = replayed_more items (replayed store first) item

pub replay_step : (items : List Record) (k : ℕ) (start now : NodeAndRows) (item : Record) → k < length items → item ≡ get_or items k item → now.node ≡ (replayed_all start (take k items)).node → now.rows ≡ (replayed_all start (take k items)).rows
    → replayed now item ≡ replayed_all start (take (k + 1) items)
replay_step items k start now item below is node rows =
    let same : now ≡ replayed_all start (take k items) = λ i. record { node = node i; rows = rows i } in
    let more : take (k + 1) items ≡ take k items ++ item ∷ [] = take_more items k item below ∙ ap (λ x. take k items ++ x ∷ []) (sym is) in
    ap (λ s. replayed s item) same ∙ sym (replayed_more (take k items) start item) ∙ ap (replayed_all start) (sym more)

-- Clients

module _ (i w : WorldV) (same : i ≡ w) (client : ℕ) (seat : ClientState) (read : seat ≡ get_or i.clients (client - 1) seat) where
  abbrev with_client_at : ClientV → List Msg → WorldV
  with_client_at new sent = record { setup = i.setup; now = i.now; servers = i.servers; clients = slice_set i.clients (client - 1) (record { client = new; quit = seat.quit }); sent = sent }

  seat_in : (f : Option ClientState → Bool) → f None ≡ false → f (seat_at w.clients client) ≡ true → seat_at w.clients client ≡ Some seat
  seat_in f none can =
      subst (λ (x : WorldV). f (seat_at x.clients client) ≡ true → seat_at x.clients client ≡ Some seat) same (λ can'. seat_is f none i.clients client can' seat read) can

  pub issue_is : (call : Call) → can_issue (seat_at w.clients client) call ≡ true → (new : ClientV) (msg : Msg) (sent : List Msg) → msg ≡ issue_msg seat.client call → new ≡ issued seat.client call → sent ≡ i.sent ++ msg ∷ []
      → with_client_at new sent ≡ after_issue w client call (seat_at w.clients client)
  issue_is call can new msg sent msg_is new_is sent_is =
      let index = index_is client in
      let first : with_client_at new sent ≡ after_issue i client call (Some seat) = cc in
      first ∙ ap (λ x. after_issue x client call (Some seat)) same ∙ ap (after_issue w client call) (sym (seat_in (λ o. can_issue o call) refl can))

  pub hint_is : (dir : ℕ) (bits : Bits) → is_some (seat_at w.clients client) ≡ true → (new : ClientV) → new ≡ merged seat.client dir bits → with_client_at new i.sent ≡ after_hint w client dir bits (seat_at w.clients client)
  hint_is dir bits can new new_is =
      let index = index_is client in
      let first : with_client_at new i.sent ≡ after_hint i client dir bits (Some seat) = cc in
      first ∙ ap (λ x. after_hint x client dir bits (Some seat)) same ∙ ap (after_hint w client dir bits) (sym (seat_in is_some refl can))

  resend_of : (p : Option Pending) (new : ClientV) (msg : Msg) (sent : List Msg) → SendsAgain seat.client new msg p → sent ≡ i.sent ++ msg ∷ [] → with_client_at new sent ≡ after_resend_of i client seat p
  resend_of None new msg sent sends sent_is = absurd sends
  resend_of (Some pending) new msg sent sends sent_is =
      let index = index_is client in
      let msg_is : msg ≡ resend_msg seat.client pending = sends.0 in
      let new_is : new ≡ resent seat.client pending = sends.1 in
      cc

  pub resend_is : can_resend (seat_at w.clients client) ≡ true → (new : ClientV) (msg : Msg) (sent : List Msg) → SendsAgain seat.client new msg seat.client.pending → sent ≡ i.sent ++ msg ∷ []
      → with_client_at new sent ≡ after_resend w client (seat_at w.clients client)
  resend_is can new msg sent sends sent_is =
      resend_of seat.client.pending new msg sent sends sent_is ∙ ap (λ x. after_resend_of x client seat seat.client.pending) same ∙ ap (after_resend w client) (sym (seat_in can_resend refl can))

  pub take_is : (place : ℕ) → can_take (seat_at w.clients client) ≡ true → (msg : Msg) → slice_get i.sent place ≡ Some msg
      → (new : ClientV) → new ≡ (taking.take seat.client msg).client → with_client_at new i.sent ≡ after_take w client (slice_get w.sent place) (seat_at w.clients client)
  take_is place can msg read_at new new_is =
      let index = index_is client in
      let at : slice_get w.sent place ≡ Some msg = ap (λ (x : WorldV). slice_get x.sent place) (sym same) ∙ read_at in
      let first : with_client_at new i.sent ≡ after_take_of i client seat (Some msg) = cc in
      first ∙ ap (λ x. after_take_of x client seat (Some msg)) same ∙ ap (λ o. after_take w client o (Some seat)) (sym at) ∙ ap (after_take w client (slice_get w.sent place)) (sym (seat_in can_take refl can))

-- Servers

module _ (i w : WorldV) (same : i ≡ w) (server : ℕ) (state : ServerState) (read : state ≡ get_or i.servers server state) (place : ℕ) (msg : Msg) (read_at : slice_get i.sent place ≡ Some msg) where
  abbrev with_state_at : ServerState → List Msg → WorldV
  with_state_at new sent = record { setup = i.setup; now = i.now; servers = slice_set i.servers server new; clients = i.clients; sent = sent }

  served_with : (how : ServeEnd) → can_serve (slice_get w.servers server) ≡ true
      → after_serve_of i server state (serve_all (store_of state) (msg ∷ []) i.now) how ≡ after_serve w server (place ∷ []) how (slice_get w.servers server)
  served_with how can =
      let there : slice_get w.servers server ≡ Some state = item_is can_serve refl w.servers server can state (read ∙ ap (λ (x : WorldV). get_or x.servers server state) same) in
      let at : slice_get w.sent place ≡ Some msg = ap (λ (x : WorldV). slice_get x.sent place) (sym same) ∙ read_at in
      ap (λ (x : WorldV). after_serve_of x server state (serve_all (store_of state) (msg ∷ []) x.now) how) same
      ∙ ap (λ o. after_serve_of w server state (serve_all (store_of state) (onto_msgs o []) w.now) how) (sym at)
      ∙ ap (after_serve w server (place ∷ []) how) (sym there)

  pub done_is : can_serve (slice_get w.servers server) ≡ true
      → (new : ServerState) (outputs all : List Msg) → outputs ≡ (serve (store_of state) msg i.now).outputs → new ≡ with_store state (serve (store_of state) msg i.now).store → all ≡ i.sent ++ outputs
      → with_state_at new all ≡ after_serve w server (place ∷ []) ends.Done (slice_get w.servers server)
  done_is can new outputs all outputs_are new_is all_is =
      let whole = append-nil (serve (store_of state) msg i.now).outputs in
      let first : with_state_at new all ≡ after_serve_of i server state (serve_all (store_of state) (msg ∷ []) i.now) ends.Done = cc in
      first ∙ served_with ends.Done can

  pub stopped_is : can_serve (slice_get w.servers server) ≡ true
      → (new : ServerState) → new ≡ record { node = state.node; rows = state.rows; up = false; doubt = (serve (store_of state) msg i.now).records }
      → with_state_at new i.sent ≡ after_serve w server (place ∷ []) ends.Stop (slice_get w.servers server)
  stopped_is can new new_is =
      let whole = append-nil (serve (store_of state) msg i.now).records in
      let first : with_state_at new i.sent ≡ after_serve_of i server state (serve_all (store_of state) (msg ∷ []) i.now) ends.Stop = cc in
      first ∙ served_with ends.Stop can

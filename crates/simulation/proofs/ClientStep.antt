-- What the events of a client say of a simulation.
use Rattle.std.proofs.Common.{◌≡◌, ◌∙◌, sym, ap, subst, refl, ℕ, zero, suc, ◌+◌, ◌-◌, ◌<◌, ◌≤◌, ◌^◌, Bool, true, false, not, is_some, List, [], ◌∷◌, ◌++◌, length, get_or, Option, Some, None, MatchOption, Result, Ok, Err, IfOk, OnOk, arith}
use Rattle.std.specs.Prelude.{slice_set}
use Rattle.std.specs.List.{slice_get}
use Rattle.std.specs.FinSet as set
use Rattle.std.specs.Ordering.{nat_cmp}
use Rattle.std.specs.declared.alloc.AllocError.{AllocError}
use Rattle.std.proofs.lemmas.List.{length-append}
use Rattle.std.proofs.lemmas.Bool.{eq-eqb, true≢false}
use Rattle.mds_base.specs.declared.limits.TheConstants.{CALLS, EVENTS}
use Rattle.mds_base.specs.declared.call.Call.{Call}
use Rattle.mds_out.specs.Disk.{Image, Contents}
use Rattle.records.specs.declared.msg.Msg.{Msg}
use Rattle.message_store.specs.declared.made.Made.{Made}
use Rattle.client_core.specs.declared.client.Pending.{Pending}
use Rattle.client_core.specs.declared.taken.Taken.{Taken}
use Rattle.client_core.specs.Clients.{ClientV, HasPending, HasRoom, SendsAgain, request_of, issued, issue_msg, resent, resend_msg}
use Rattle.client_core.specs.Taking as taking
use Rattle.node_core.proofs.Calls.{well_made_fits}
use Rattle.node_store.specs.Serve.{IsWellMade}
use Rattle.world.specs.declared.event.Event.{Event}
use Rattle.world.specs.Events.{is_for_client}
use Rattle.mds_base.proofs.Grow.{get_last, within}
use Rattle.simulation.specs.Calls.{IsRequestAt, IsSend, taken_of}
use Rattle.simulation.specs.Moves.{sent_by, issued_as, issued_by, resent_open, resent_as, resent_by, noting, taken_as, taken_by}
use Rattle.simulation.specs.Ranges.{IsOpenCall, IsOpen, IsSeat, IsSent, IsRanged, InRange}
use Rattle.simulation.specs.Shows.{SimulationV, Happens, waiting_cmp, client_at, server_for, is_request_of, is_idle, is_busy}
use Rattle.simulation.proofs.RangesKept.{seat_more, issued_seat, resent_seat, taken_seat, request_sent, calls_left, ranged_client, ranged_sent, room_in, in_range}
use Rattle.simulation.proofs.IssueRun.{HasNumbers}
use Rattle.simulation.proofs.ServersShown.{at_place, read_at}

-- ---- the client of a number

-- a call reads this client, which passes its test
pub record IsCalled {X : Type 0} (test : Option ClientV → Bool) (sim : SimulationV X) (number : ℕ) (client : ClientV) : Type 0 where
  pub ranges : InRange sim
  pub room : sim.count < EVENTS
  pub from_one : 1 ≤ number
  pub is : client_at sim.clients number ≡ Some client
  pub place : slice_get sim.clients (number - 1) ≡ Some client
  pub passes : test (Some client) ≡ true

found : {X : Type 0} (test : Option ClientV → Bool) (sim : SimulationV X) (number : ℕ) (client : ClientV) → InRange sim → sim.count < EVENTS → test None ≡ false → test (client_at sim.clients number) ≡ true → client ≡ get_or sim.clients (number - 1) client
    → IsCalled test sim number client
found test sim zero client ranges room none passes read = absurd (true≢false (sym passes ∙ none))
found test sim (suc k) client ranges room none passes read =
    let e : suc k - 1 ≡ k = omega arith in
    let r = read_at test sim.clients k client none passes (subst (λ i. client ≡ get_or sim.clients i client) e read) in
    record { ranges = ranges; room = room; from_one = omega arith; is = r.0; place = subst (λ i. slice_get sim.clients i ≡ Some client) (sym e) r.0; passes = r.1 }

pub called : {X : Type 0} {was old : SimulationV X} → was ≡ old → (test : Option ClientV → Bool) (number : ℕ) (client : ClientV) → InRange was → old.count < EVENTS → test None ≡ false → test (client_at old.clients number) ≡ true → client ≡ get_or was.clients (number - 1) client
    → IsCalled test was number client
called {X = X} {was = was} same test number client ranges room none passes read =
    found test was number client ranges (room_in same room) none (subst (λ (v : SimulationV X). test (client_at v.clients number) ≡ true) (sym same) passes) read

-- a client that passes a test that no absent one passes stands within the list
pub seat_below : {X : Type 0} {was old : SimulationV X} → was ≡ old → (test : Option ClientV → Bool) (number : ℕ) → test None ≡ false → test (client_at old.clients number) ≡ true → number - 1 < length was.clients
seat_below {X = X} {was = was} same test number none passes =
    by was.clients number (client_at was.clients number) refl (subst (λ (v : SimulationV X). test (client_at v.clients number) ≡ true) (sym same) passes)
  where
    by : (clients : List ClientV) (number : ℕ) (o : Option ClientV) → client_at clients number ≡ o → test o ≡ true → number - 1 < length clients
    by clients number None is e = absurd (true≢false (sym e ∙ none))
    by clients zero (Some client) is e = cc
    by clients (suc k) (Some client) is e = let low : k < length clients = within clients k client is in omega (arith, low)

some_at : (clients : List ClientV) (number : ℕ) → 1 ≤ number → number ≤ length clients → is_some (client_at clients number) ≡ true
some_at clients zero from to = absurd (omega (arith, from))
some_at clients (suc k) from to = let r = at_place clients k (omega (arith, to)) in ap is_some r.is

pub is_numbered : {X : Type 0} {was old : SimulationV X} → was ≡ old → (number : ℕ) → (1 ≤ number) × (number ≤ old.setup.clients) → InRange was → is_some (client_at old.clients number) ≡ true
is_numbered {X = X} {old = old} same number within ranges =
    let r = in_range same ranges in
    let all = r.all in
    let to = within.1 in
    some_at old.clients number within.0 (omega (arith, all, to))

-- the numbers of the client of a number leave room
has_numbers : {X : Type 0} (sim : SimulationV X) → InRange sim → (k : ℕ) (o : Option ClientV) → slice_get sim.clients k ≡ o → HasNumbers o
has_numbers sim r k None is = tt
has_numbers sim r k (Some client) is = calls_left r.events (r.ranges.seats'.at k client is)

pub numbers_at : {X : Type 0} (sim : SimulationV X) → InRange sim → (number : ℕ) → HasNumbers (client_at sim.clients number)
numbers_at sim r zero = tt
numbers_at sim r (suc k) = has_numbers sim r k (slice_get sim.clients k) refl

module _ {X : Type 0} {test : Option ClientV → Bool} {sim : SimulationV X} {number : ℕ} {client : ClientV} (at : IsCalled test sim number client) where
  seat : IsSeat sim.setup sim.count (number - 1) client
  seat = at.ranges.ranges.seats'.at (number - 1) client at.place

  pub left : (client.seq < CALLS) × HasRoom client.pending
  left = calls_left at.ranges.events seat

  open_call : (pending : Pending) → client.pending ≡ Some pending → IsOpenCall sim.count client.seq pending
  open_call pending busy = let s = seat in subst (IsOpen sim.count client.seq) busy s.pending

  pub has_pending : (pending : Pending) → client.pending ≡ Some pending → HasPending client.pending
  has_pending pending busy = let o = open_call pending busy in subst HasPending (sym busy) (well_made_fits pending.call o.made.made, subst HasRoom busy left.1)

  -- the client stayed as it was
  pub stayed_ranged : (next : ClientV) → next ≡ client → IsRanged sim.setup sim.moment (sim.count + 1) sim.stores (slice_set sim.clients (number - 1) next) sim.sent
  stayed_ranged next same = ranged_client at.ranges at.room (number - 1) next (subst (IsSeat sim.setup (sim.count + 1) (number - 1)) (sym same) (seat_more sim.setup sim.count (number - 1) client seat))

-- ---- a client sends a message

-- the message is a request of the client, which is this one then
pub record IsSending {X : Type 0} (sim : SimulationV X) (number : ℕ) (next : ClientV) (msg : Msg) : Type 0 where
  pub ranges : InRange sim
  pub room : sim.count < EVENTS
  pub seat' : IsSeat sim.setup (sim.count + 1) (number - 1) next
  pub good : IsSent sim.setup.servers msg
  pub asks : is_request_of number (Some msg) ≡ true
  pub server : ℕ
  pub is : server_for (Some msg) ≡ Some server

module _ {X : Type 0} {test : Option ClientV → Bool} {sim : SimulationV X} {number : ℕ} {client : ClientV} (at : IsCalled test sim number client) where
  sends : (next : ClientV) (seq attempt : ℕ) (call : Call) → IsSeat sim.setup (sim.count + 1) (number - 1) next → 1 ≤ seq → seq < 2 ^ 64 → IsWellMade call → IsSending sim number next (request_of client seq attempt call)
  sends next seq attempt call s from below made =
      let there = within sim.clients (number - 1) client at.place in
      let all = at.ranges.all in
      let e = (seat at).number in
      let f = at.from_one in
      record {
        ranges = at.ranges;
        room = at.room;
        seat' = s;
        good = request_sent sim.setup sim.count (number - 1) client seq attempt call at.ranges.ranges.setup' (omega (arith, there, all)) (seat at) from below made;
        asks = eq-eqb client.number number (omega (arith, e, f));
        server = _;
        is = refl;
      }

  pub issuing : (call : Call) (next : ClientV) (msg : Msg) → IsWellMade call → next ≡ issued client call → msg ≡ issue_msg client call → IsSending sim number next msg
  issuing call next msg made after request =
      let s = seat at in
      let below = s.seq in
      let room = at.room in
      subst (λ n. IsSending sim number n msg) (sym after)
      (subst (IsSending sim number (issued client call)) (sym request)
      (sends (issued client call) (client.seq + 1) 1 call (issued_seat sim.setup sim.count (number - 1) client call s made) (omega arith) (omega (arith, below, room)) made))

  pub issued_is : (call : Call) (next : ClientV) (msg : Msg) → next ≡ issued client call → msg ≡ issue_msg client call → sent_by sim number next msg ≡ issued_by sim number call
  issued_is call next msg after request =
      ap (λ c. sent_by sim number c msg) after ∙ ap (sent_by sim number (issued client call)) request ∙ sym (ap (issued_as sim number call) at.is)

  pub resending : (pending : Pending) (next : ClientV) (msg : Msg) → client.pending ≡ Some pending → (msg ≡ resend_msg client pending) × (next ≡ resent client pending) → IsSending sim number next msg
  resending pending next msg busy again =
      let s = seat at in
      let o = open_call at pending busy in
      let below = s.seq in
      let room = at.room in
      subst (λ n. IsSending sim number n msg) (sym again.1)
      (subst (IsSending sim number (resent client pending)) (sym again.0)
      (sends (resent client pending) client.seq (pending.attempt + 1) pending.call (resent_seat sim.setup sim.count (number - 1) client pending s busy) o.numbered (omega (arith, below, room)) o.made))

  pub resent_is : (pending : Pending) (next : ClientV) (msg : Msg) → client.pending ≡ Some pending → (msg ≡ resend_msg client pending) × (next ≡ resent client pending) → sent_by sim number next msg ≡ resent_by sim number
  resent_is pending next msg busy again =
      ap (λ c. sent_by sim number c msg) again.1 ∙ ap (sent_by sim number (resent client pending)) again.0 ∙ sym (ap (resent_as sim number) at.is ∙ ap (resent_open sim number client) busy)

no_pending : (p : Option Pending) → not (is_some p) ≡ true → p ≡ None
no_pending None e = refl
no_pending (Some pending) e = cc

some_pending : (p : Option Pending) → is_some p ≡ true → (pending : Pending) × (p ≡ Some pending)
some_pending None e = cc
some_pending (Some pending) e = (pending, refl)

pub idle : {X : Type 0} {sim : SimulationV X} {number : ℕ} {client : ClientV} → IsCalled is_idle sim number client → client.pending ≡ None
idle {client = client} at = no_pending client.pending at.passes

pub busy : {X : Type 0} {sim : SimulationV X} {number : ℕ} {client : ClientV} → IsCalled is_busy sim number client → (pending : Pending) × (client.pending ≡ Some pending)
busy {client = client} at = some_pending client.pending at.passes

pub again : {client next : ClientV} {msg : Msg} (pending : Pending) → client.pending ≡ Some pending → SendsAgain client next msg client.pending → (msg ≡ resend_msg client pending) × (next ≡ resent client pending)
again {client = client} {next = next} {msg = msg} pending busy sends = subst (SendsAgain client next msg) busy sends

-- the simulation then, whatever the send gave
abbrev pub with_sent : {X : Type 0} → SimulationV X → ℕ → ClientV → List Msg → set.FinSet waiting_cmp → List Made → SimulationV X
with_sent was number next sent waiting made = record was { count = was.count + 1; clients = slice_set was.clients (number - 1) next; sent = sent; waiting = waiting; made = made }

module _ {X : Type 0} {was old : SimulationV X} (same : was ≡ old) {number : ℕ} {next : ClientV} {msg : Msg} (s : IsSending was number next msg) where
  pub send_ranged : (result : Result ℕ AllocError) (sent' : List Msg) (waiting' : set.FinSet waiting_cmp) → IsSend result was.sent sent' was.waiting waiting' msg
      → IsRanged was.setup was.moment (was.count + 1) was.stores (slice_set was.clients (number - 1) next) sent'
  send_ranged (Ok message) sent' waiting' did = subst (IsRanged was.setup was.moment (was.count + 1) was.stores (slice_set was.clients (number - 1) next)) (sym did.stands) (ranged_sent s.ranges s.room (number - 1) next msg s.seat' s.good)
  send_ranged (Err e) sent' waiting' did = subst (IsRanged was.setup was.moment (was.count + 1) was.stores (slice_set was.clients (number - 1) next)) (sym did.err) (ranged_client s.ranges s.room (number - 1) next s.seat')

  pub send_place : (result : Result ℕ AllocError) (sent' : List Msg) (waiting' : set.FinSet waiting_cmp) → IsSend result was.sent sent' was.waiting waiting' msg
      → IfOk result (λ message. (message ≡ length old.sent) × (length sent' ≡ message + 1))
  send_place (Ok message) sent' waiting' did = (
    did.message ∙ ap (λ (v : SimulationV X). length v.sent) same,
    ap length did.stands ∙ length-append was.sent (msg ∷ []) ∙ ap (λ n. n + 1) (sym did.message),
  )
  send_place (Err e) sent' waiting' did = tt

  pub send_request : (result : Result ℕ AllocError) (sent' : List Msg) (waiting' : set.FinSet waiting_cmp) (made' : List Made) → IsSend result was.sent sent' was.waiting waiting' msg
      → IfOk result (λ message. IsRequestAt (with_sent was number next sent' waiting' made') number message)
  send_request (Ok message) sent' waiting' made' did =
      let here : slice_get sent' message ≡ Some msg = ap (λ l. slice_get l message) did.stands ∙ ap (slice_get (was.sent ++ msg ∷ [])) did.message ∙ get_last was.sent msg in
      record {
        asks = ap (is_request_of number) here ∙ s.asks;
        server = s.server;
        is = ap server_for here ∙ s.is;
        there = subst (λ o. MatchOption o (Unit {0}) (λ server. server < was.setup.servers)) s.is s.good.there;
      }
  send_request (Err e) sent' waiting' made' did = tt

  pub send_after : (result : Result ℕ AllocError) (sent' : List Msg) (waiting' : set.FinSet waiting_cmp) (made' : List Made) → IsSend result was.sent sent' was.waiting waiting' msg → made' ≡ was.made
      → (f : SimulationV X → SimulationV X) → sent_by was number next msg ≡ f was → OnOk result (with_sent was number next sent' waiting' made' ≡ f old)
  send_after (Ok message) sent' waiting' made' did kept f is =
      ap (with_sent was number next sent' waiting') kept ∙ ap (λ l. with_sent was number next l waiting' was.made) did.stands ∙ ap (λ w. with_sent was number next (was.sent ++ msg ∷ []) w was.made) did.waits ∙ is ∙ ap f same
  send_after (Err e) sent' waiting' made' did kept f is = tt

-- what a call that was answered says, by the function that it is
pub happens_after : {X : Type 0} {T E : Type 0} (seen : X → Contents) (images : X → Image → Type 0) (old new next : SimulationV X) (event : Event) (result : Result T E) → OnOk result (new ≡ next) → Happens seen images old next event → OnOk result (Happens seen images old new event)
happens_after seen images old new next event (Ok x) after happens = subst (λ n. Happens seen images old n event) (sym after) happens
happens_after seen images old new next event (Err e) after happens = tt

-- ---- a client takes a message

for_client : (o : Option Msg) (client : ℕ) → is_for_client client o ≡ true → (msg : Msg) × (o ≡ Some msg)
for_client None client meant = cc
for_client (Some msg) client meant = (msg, refl)

-- the message that is for a client was sent
pub message_for : {X : Type 0} {was old : SimulationV X} → was ≡ old → (client message : ℕ) → is_for_client client (slice_get old.sent message) ≡ true → (msg : Msg) × (slice_get was.sent message ≡ Some msg)
message_for {X = X} {was = was} same client message meant =
    for_client (slice_get was.sent message) client (subst (λ (v : SimulationV X). is_for_client client (slice_get v.sent message) ≡ true) (sym same) meant)

-- the simulation then
abbrev pub with_taken : {X : Type 0} → SimulationV X → ℕ → ClientV → set.FinSet nat_cmp → SimulationV X
with_taken was number next places = record was { count = was.count + 1; clients = slice_set was.clients (number - 1) next; taken = places }

module _ {X : Type 0} {was old : SimulationV X} (same : was ≡ old) {number : ℕ} {client : ClientV} (at : IsCalled is_some was number client) (message : ℕ) (msg : Msg) (there : slice_get was.sent message ≡ Some msg) (next : ClientV) (taken : Taken) (took : taking.IsTaken (taking.take client msg) taken next) where
  pub took_ranged : IsRanged was.setup was.moment (was.count + 1) was.stores (slice_set was.clients (number - 1) next) was.sent
  took_ranged = ranged_client at.ranges at.room (number - 1) next (subst (IsSeat was.setup (was.count + 1) (number - 1)) (sym took.client') (taken_seat was.setup was.count (number - 1) client (seat at) msg))

  pub took_said : taken_of (client_at old.clients number) (slice_get old.sent message) ≡ Some taken
  took_said =
      subst (λ (v : SimulationV X). taken_of (client_at v.clients number) (slice_get v.sent message) ≡ Some taken) same
      (ap (λ o. taken_of o (slice_get was.sent message)) at.is ∙ ap (taken_of (Some client)) there ∙ ap Some (sym took.taken'))

  pub took_after : (places : set.FinSet nat_cmp) → places ≡ noting was.taken taken message → with_taken was number next places ≡ taken_by old number message
  took_after places noted =
      ap (with_taken was number next) (noted ∙ ap (λ t. noting was.taken t message) took.taken')
      ∙ ap (λ c. with_taken was number c (noting was.taken (taking.take client msg).taken message)) took.client'
      ∙ sym (ap (λ o. taken_as was number message o (slice_get was.sent message)) at.is ∙ ap (taken_as was number message (Some client)) there)
      ∙ ap (λ v. taken_by v number message) same

-- The ranges of a simulation's numbers are kept.
use Rattle.std.proofs.Common.{◌≡◌, ◌∙◌, sym, ap, subst, refl, ℕ, ◌+◌, ◌<◌, ◌≤◌, ◌^◌, ◌%◌, Bool, true, false, List, [], ◌∷◌, ◌++◌, Option, Some, None, arith}
use Rattle.std.specs.Prelude.{slice_set}
use Rattle.std.specs.List.{slice_get}
use Rattle.std.proofs.lemmas.Nat.{mod_below}
use Rattle.mds_base.specs.declared.limits.TheConstants.{CALLS, EVENTS, MOMENTS}
use Rattle.mds_base.specs.declared.call.Call.{Call}
use Rattle.mds_base.specs.declared.reply.Reply.{Reply}
use Rattle.mds_base.specs.declared.setup.Setup.{Setup}
use Rattle.records.specs.declared.msg.Msg.{Msg}
use Rattle.records.specs.declared.msg.Msg.TheVariants.{Request, Redirect, Answer, Busy, Held, Page, Closed, Transfer, Installed}
use Rattle.bitmap.specs.Bits.{Bits}
use Rattle.client_core.specs.declared.client.Pending.{Pending}
use Rattle.client_core.specs.Clients.{ClientV, HasRoom, target_of, issued, resent, merged, request_of}
use Rattle.mds_base.specs.Calls.{dir_of}
use Rattle.client_core.specs.Taking.{take, take_at, take_pending, answered_if, redirected_if, busy_if, held_if}
use Rattle.node_core.specs.Nodes.{NodeAndRows}
use Rattle.node_core.specs.Serving.{serve}
use Rattle.node_core.proofs.ToldOutputs.{outputs_sent}
use Rattle.node_store.specs.Serve.{IsWellMade}
use Rattle.node_store.specs.Store.{Store}
use Rattle.mds_base.proofs.Grow.{each_set, length_set}
use Rattle.world.specs.Ranges.{AreRanges}
use Rattle.world.proofs.Ranges.{seat_set, seats_mapped, msg_sent, msgs_sent, later}
use Rattle.mds_base.specs.Setups.{IsSetup}
use Rattle.simulation.specs.declared.servers.Served.{Served}
use Rattle.simulation.specs.declared.servers.Served.TheVariants as serves
use Rattle.simulation.specs.Moves.{sent_after}
use Rattle.simulation.specs.Ranges.{IsOpenCall, IsOpen, IsSeat, IsSent, AreStores, IsRanged, InRange}
use Rattle.simulation.specs.Shows.{SimulationV}

-- Clients

open_more : (count seq : ℕ) (pending : Option Pending) → IsOpen count seq pending → IsOpen (count + 1) seq pending
open_more count seq None o = tt
open_more count seq (Some pending) o = record { numbered = o.numbered; made = o.made; attempts = (let h = o.attempts in omega (arith, h)) }

pub seat_more : (setup : Setup) (count k : ℕ) (client : ClientV) → IsSeat setup count k client → IsSeat setup (count + 1) k client
seat_more setup count k client s = record {
  number = s.number;
  setup' = s.setup';
  seq = (let h = s.seq in omega (arith, h));
  pending = open_more count client.seq client.pending s.pending;
}

pub issued_seat : (setup : Setup) (count k : ℕ) (client : ClientV) (call : Call) → IsSeat setup count k client → IsWellMade call → IsSeat setup (count + 1) k (issued client call)
issued_seat setup count k client call s made = record {
  number = s.number;
  setup' = s.setup';
  seq = (let h = s.seq in omega (arith, h));
  pending = record { numbered = omega arith; made = made; attempts = omega arith };
}

pub resent_seat : (setup : Setup) (count k : ℕ) (client : ClientV) (pending : Pending) → IsSeat setup count k client → client.pending ≡ Some pending → IsSeat setup (count + 1) k (resent client pending)
resent_seat setup count k client pending s busy =
    let o : IsOpenCall count client.seq pending = subst (IsOpen count client.seq) busy s.pending in
    record {
      number = s.number;
      setup' = s.setup';
      seq = (let h = s.seq in omega (arith, h));
      pending = record { numbered = o.numbered; made = o.made; attempts = (let h = o.attempts in omega (arith, h)) };
    }

module _ (setup : Setup) (count k : ℕ) (client : ClientV) (s : IsSeat setup count k client) where
  answered_seat : (reply : Reply) (b : Bool) → IsSeat setup (count + 1) k (answered_if client reply b).client
  answered_seat reply true = record { number = s.number; setup' = s.setup'; seq = (let h = s.seq in omega (arith, h)); pending = tt }
  answered_seat reply false = seat_more setup count k client s

  redirected_seat : (pending : Pending) (dir : ℕ) (bits : Bits) (b : Bool) → client.pending ≡ Some pending → IsSeat setup (count + 1) k (redirected_if client pending dir bits b).client
  redirected_seat pending dir bits true busy =
      resent_seat setup count k (merged client dir bits) pending (record { number = s.number; setup' = s.setup'; seq = s.seq; pending = s.pending }) busy
  redirected_seat pending dir bits false busy = seat_more setup count k client s

  busy_seat : (part : ℕ) (b : Bool) → IsSeat setup (count + 1) k (busy_if client part b).client
  busy_seat part true = seat_more setup count k client s
  busy_seat part false = seat_more setup count k client s

  held_seat : (until : ℕ) (b : Bool) → IsSeat setup (count + 1) k (held_if client until b).client
  held_seat until true = seat_more setup count k client s
  held_seat until false = seat_more setup count k client s

  pending_seat : (pending : Pending) (msg : Msg) → client.pending ≡ Some pending → IsSeat setup (count + 1) k (take_pending client pending msg).client
  pending_seat pending (Answer to seq attempt reply) busy = answered_seat reply _
  pending_seat pending (Redirect to seq attempt dir bits) busy = redirected_seat pending dir bits _ busy
  pending_seat pending (Busy to seq attempt part depth) busy = busy_seat part _
  pending_seat pending (Held to seq attempt until) busy = held_seat until _
  pending_seat pending (Page to seq attempt rows next) busy = seat_more setup count k client s
  pending_seat pending (Closed to seq attempt part epoch) busy = seat_more setup count k client s
  pending_seat pending (Request to ask cursor) busy = seat_more setup count k client s
  pending_seat pending (Transfer to dir part depth index pieces bits sessions top rows) busy = seat_more setup count k client s
  pending_seat pending (Installed to dir part child) busy = seat_more setup count k client s

  seat_at_pending : (pending : Option Pending) (msg : Msg) → client.pending ≡ pending → IsSeat setup (count + 1) k (take_at client pending msg).client
  seat_at_pending None msg e = seat_more setup count k client s
  seat_at_pending (Some pending) msg e = pending_seat pending msg e

  pub taken_seat : (msg : Msg) → IsSeat setup (count + 1) k (take client msg).client
  taken_seat msg = seat_at_pending client.pending msg refl

-- what a client sends is well made, and for a server that is there
pub request_sent : (setup : Setup) (count k : ℕ) (client : ClientV) (seq attempt : ℕ) (call : Call) → IsSetup setup → k < setup.clients → IsSeat setup count k client → 1 ≤ seq → seq < 2 ^ 64 → IsWellMade call
    → IsSent setup.servers (request_of client seq attempt call)
request_sent setup count k client seq attempt call ranges there s from below made = record {
  there = (let e = ap (λ (x : Setup). x.servers) s.setup' in let some = ranges.some_server in
      subst (λ n. (dir_of call + target_of client call) % n < setup.servers) (sym e) (mod_below (dir_of call + target_of client call) setup.servers (omega (arith, some))));
  made = record {
    some_client = (let e = s.number in omega (arith, e));
    few_clients = (let e = s.number in let few = ranges.few_clients in omega (arith, e, few, there));
    from_one = from;
    fits = below;
    made = made;
  };
}

-- the number of a client's call, and that of its attempt, leave room
pub calls_left : {setup : Setup} {count k : ℕ} {client : ClientV} → count ≤ EVENTS → IsSeat setup count k client → (client.seq < CALLS) × HasRoom client.pending
calls_left {count = count} {client = client} few s = (omega (arith, few, s.seq), room_in_call client.pending s.pending)
  where
    room_in_call : (p : Option Pending) → IsOpen count client.seq p → HasRoom p
    room_in_call None o = tt
    room_in_call (Some pending) o = omega (arith, few, o.attempts)

-- Messages that a server sends

module _ {setup : Setup} {now count : ℕ} {clients : List ClientV} {sent : List Msg} (r : AreRanges setup now (IsSeat setup count) clients (IsSent setup.servers) sent) where
  pub same_sent : (sent' : List Msg) → sent' ≡ sent → AreRanges setup now (IsSeat setup count) clients (IsSent setup.servers) sent'
  same_sent sent' is = subst (AreRanges setup now (IsSeat setup count) clients (IsSent setup.servers)) (sym is) r

  after_sent : (store : NodeAndRows) (msg : Msg) (at : ℕ) (served : Served) → AreRanges setup now (IsSeat setup count) clients (IsSent setup.servers) (sent_after sent (serve store msg at) served)
  after_sent store msg at serves.Stopped = r
  after_sent store msg at serves.Silent = msgs_sent r _ (outputs_sent setup.servers store msg at)
  after_sent store msg at (serves.Answered message) = msgs_sent r _ (outputs_sent setup.servers store msg at)

  pub served_sent : (store : NodeAndRows) (msg : Msg) (at : ℕ) (served : Served) (sent' : List Msg) → sent' ≡ sent_after sent (serve store msg at) served → AreRanges setup now (IsSeat setup count) clients (IsSent setup.servers) sent'
  served_sent store msg at served sent' is = subst (AreRanges setup now (IsSeat setup count) clients (IsSent setup.servers)) (sym is) (after_sent store msg at served)

-- One part changed

pub stores_set : {X : Type 0} {setup : Setup} {stores : List (Store X)} (k : ℕ) (store new : Store X) → AreStores setup stores → slice_get stores k ≡ Some store → (new.server ≡ store.server) × (new.setup ≡ store.setup) → AreStores setup (slice_set stores k new)
stores_set {stores = stores} k store new are is same = record {
  all = length_set stores k new ∙ are.all;
  each = each_set k new are.each (same.0 ∙ (are.each.at k store is).0, same.1 ∙ (are.each.at k store is).1);
}

module _ {X : Type 0} {setup : Setup} {now count : ℕ} {stores : List (Store X)} {clients : List ClientV} {sent : List Msg} (r : IsRanged setup now count stores clients sent) where
  -- no event more
  pub ranged_still : (stores' : List (Store X)) (sent' : List Msg) → AreStores setup stores' → AreRanges setup now (IsSeat setup count) clients (IsSent setup.servers) sent' → IsRanged setup now count stores' clients sent'
  ranged_still stores' sent' are ranges = record { ranges = ranges; all = r.all; events = r.events; stores' = are }

  module _ (room : count < EVENTS) where
    -- one event more, of a server
    pub ranged_event : (stores' : List (Store X)) (sent' : List Msg) → AreStores setup stores' → AreRanges setup now (IsSeat setup count) clients (IsSent setup.servers) sent' → IsRanged setup now (count + 1) stores' clients sent'
    ranged_event stores' sent' are ranges = record { ranges = seats_mapped ranges (IsSeat setup (count + 1)) (seat_more setup count); all = r.all; events = omega (arith, room); stores' = are }

    -- of no one
    pub ranged_count : IsRanged setup now (count + 1) stores clients sent
    ranged_count = ranged_event stores sent r.stores' r.ranges

    pub ranged_moment : (by : ℕ) → now + by < MOMENTS → IsRanged setup (now + by) (count + 1) stores clients sent
    ranged_moment by below = let c = ranged_count in record { ranges = later c.ranges (now + by) below; all = r.all; events = c.events; stores' = r.stores' }

    -- of a client, which sent a message or none
    pub ranged_client : (k : ℕ) (client : ClientV) → IsSeat setup (count + 1) k client → IsRanged setup now (count + 1) stores (slice_set clients k client) sent
    ranged_client k client s = let c = ranged_count in record { ranges = seat_set c.ranges k client s; all = length_set clients k client ∙ r.all; events = c.events; stores' = r.stores' }

    pub ranged_sent : (k : ℕ) (client : ClientV) (msg : Msg) → IsSeat setup (count + 1) k client → IsSent setup.servers msg → IsRanged setup now (count + 1) stores (slice_set clients k client) (sent ++ msg ∷ [])
    ranged_sent k client msg s good = let c = ranged_client k client s in record { ranges = msg_sent c.ranges msg good; all = c.all; events = c.events; stores' = r.stores' }

-- there is room for an event, and the ranges are those of the value
pub room_in : {X : Type 0} {was old : SimulationV X} → was ≡ old → old.count < EVENTS → was.count < EVENTS
room_in {X = X} same room = subst (λ (v : SimulationV X). v.count < EVENTS) (sym same) room

pub in_range : {X : Type 0} {was old : SimulationV X} → was ≡ old → InRange was → InRange old
in_range {X = X} same ranges = subst (λ (v : SimulationV X). InRange v) same ranges

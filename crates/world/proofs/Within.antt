-- Events keep the ranges of a world's numbers.
use Rattle.std.proofs.Common.{◌≡◌, ◌∙◌, sym, ap, subst, refl, ℕ, ◌+◌, ◌-◌, ◌<◌, ◌&&◌, not, Bool, true, false, List, [], ◌∷◌, ◌++◌, get_or, Option, Some, None, Result, Ok, Err, OnOk, OnErr, arith}
use Rattle.std.specs.Prelude.{slice_set, nat_lt, is_some}
use Rattle.std.specs.Prelude.{map as list_map}
use Rattle.std.specs.List.{slice_get, range_with_len}
use Rattle.std.proofs.lemmas.Bool.{and_parts, ltb-true}
use Rattle.std.proofs.lemmas.List.FromFn.{map-range_with_len_more}
use Rattle.mds_base.specs.declared.limits.TheConstants.{CALLS, DIRECTORIES}
use Rattle.mds_base.specs.declared.setup.Setup.{Setup}
use Rattle.mds_base.specs.declared.call.Call.{Call}
use Rattle.records.specs.declared.msg.Msg.{Msg}
use Rattle.records.specs.declared.msg.Msg.TheVariants.{Request, Redirect, Answer, Busy, Held, Page, Closed, Transfer, Installed}
use Rattle.node_core.specs.Rules.{is_served}
use Rattle.node_core.specs.Serving.{serve}
use Rattle.node_core.specs.Ranges.{DirFits, RecordFits}
use Rattle.client_core.specs.declared.client.Pending.{Pending}
use Rattle.bitmap.specs.Bits.{Bits}
use Rattle.client_core.specs.Clients.{ClientV, issued, issue_msg, merged, SendsAgain}
use Rattle.mds_base.specs.Calls.{dir_of, is_well_made}
use Rattle.client_core.specs.Taking.{take, take_at, answered_if, busy_if, held_if, redirected_if}
use Rattle.client_core.specs.Taking as taking
use Rattle.world.specs.declared.state.ServerState.{ServerState}
use Rattle.world.specs.declared.state.ClientState.{ClientState}
use Rattle.mds_base.specs.Lists.{Each}
use Rattle.mds_base.specs.Setups.{IsSetup}
use Rattle.world.specs.Ranges.{IsRanged, PendingFits, SeatFits, DoubtFits}
use Rattle.world.specs.Worlds.{WorldV, store_of, new_server, new_seat}
use Rattle.world.specs.Events.{is_call, is_open, seat_at, can_issue, can_resend, can_take, can_serve}
use Rattle.mds_base.proofs.Grow.{each_set}
use Rattle.node_core.proofs.Calls.{well_made_fits}
use Rattle.node_core.proofs.ToldOutputs.{outputs_fit}
use Rattle.node_core.proofs.ToldRecords.{records_fit}
use Rattle.world.proofs.Ranges.{seat_set, msg_sent, msgs_sent}
use Rattle.mds_base.proofs.Lists.{each_none, item_is, ranged}
use Rattle.world.proofs.Stepped.{seat_is, seat_place}

-- Directories

pub call_fits : (call : Call) → is_call call ≡ true → dir_of call < DIRECTORIES
call_fits call e = well_made_fits call (and_parts (is_served call) (is_well_made call) e).1

-- What taking leaves

answered_fits : (client : ClientV) (reply : _) (b : Bool) → PendingFits client.pending → PendingFits (answered_if client reply b).client.pending
answered_fits client reply true fits = tt
answered_fits client reply false fits = fits

busy_fits : (client : ClientV) (part : ℕ) (b : Bool) → PendingFits client.pending → PendingFits (busy_if client part b).client.pending
busy_fits client part true fits = fits
busy_fits client part false fits = fits

held_fits : (client : ClientV) (until : ℕ) (b : Bool) → PendingFits client.pending → PendingFits (held_if client until b).client.pending
held_fits client until true fits = fits
held_fits client until false fits = fits

redirected_fits : (client : ClientV) (pending : Pending) (dir : ℕ) (bits : _) (b : Bool) → PendingFits client.pending → PendingFits (Some pending) → PendingFits (redirected_if client pending dir bits b).client.pending
redirected_fits client pending dir bits true all fits = fits
redirected_fits client pending dir bits false all fits = all

take_pending_fits : (client : ClientV) (pending : Pending) (msg : Msg) → PendingFits client.pending → PendingFits (Some pending) → PendingFits (taking.take_pending client pending msg).client.pending
take_pending_fits client pending (Answer to seq attempt reply) all fits = answered_fits client reply _ all
take_pending_fits client pending (Redirect to seq attempt dir bits) all fits = redirected_fits client pending dir bits _ all fits
take_pending_fits client pending (Busy to seq attempt part depth) all fits = busy_fits client part _ all
take_pending_fits client pending (Held to seq attempt until) all fits = held_fits client until _ all
take_pending_fits client pending (Request to ask cursor) all fits = all
take_pending_fits client pending (Page to seq attempt rows next) all fits = all
take_pending_fits client pending (Closed to seq attempt part epoch) all fits = all
take_pending_fits client pending (Transfer to dir part depth index pieces bits sessions top rows) all fits = all
take_pending_fits client pending (Installed to dir part child) all fits = all

take_fits_at : (client : ClientV) (p : Option Pending) (msg : Msg) → PendingFits client.pending → PendingFits p → PendingFits (take_at client p msg).client.pending
take_fits_at client None msg all fits = all
take_fits_at client (Some pending) msg all fits = take_pending_fits client pending msg all fits

pub take_fits : (client : ClientV) (msg : Msg) → PendingFits client.pending → PendingFits (take client msg).client.pending
take_fits client msg fits = take_fits_at client client.pending msg fits fits

-- The ranges of a new world

-- one element more of a list by numbers
pub one_more : {X : Type 0} (f : ℕ → X) (a n j : ℕ) → a + n ≡ j → (xs : List X) → xs ≡ list_map f (range_with_len a n) → (x : X) → x ≡ f j → (ys : List X) → ys ≡ xs ++ x ∷ [] → ys ≡ list_map f (range_with_len a (n + 1))
one_more f a n j sum xs xs_are x x_is ys ys_are = let more = map-range_with_len_more f a n j sum in cc

pub new_ranges : (setup : Setup) → IsSetup setup → (servers : List ServerState) (clients : List ClientState) → servers ≡ list_map (new_server setup) (range_with_len 0 setup.servers) → clients ≡ list_map (new_seat setup) (range_with_len 1 setup.clients)
    → IsRanged setup 0 servers clients []
new_ranges setup is servers clients servers_are clients_are = record {
  ranges = record {
    setup' = is;
    moment = omega arith;
    seats' = record {
      at = λ k seat at.
          subst (SeatFits k) (ranged (new_seat setup) 1 setup.clients k seat (ap (λ xs. slice_get xs k) (sym clients_are) ∙ at)) tt;
    };
    sent' = each_none;
  };
  doubts = record {
    at = λ k state at.
        subst (DoubtFits k) (ranged (new_server setup) 0 setup.servers k state (ap (λ xs. slice_get xs k) (sym servers_are) ∙ at)) each_none;
  };
}

-- The ranges of a world of which one part was changed

module _ {setup : Setup} {now : ℕ} {servers : List ServerState} {clients : List ClientState} {sent : List Msg} (r : IsRanged setup now servers clients sent) where
  pub with_seat : (k : ℕ) (seat : ClientState) → PendingFits seat.client.pending → IsRanged setup now servers (slice_set clients k seat) sent
  with_seat k seat fits = record { ranges = seat_set r.ranges k seat fits; doubts = r.doubts }

  pub with_msg : (msg : Msg) → DirFits msg → IsRanged setup now servers clients (sent ++ msg ∷ [])
  with_msg msg fits = record { ranges = msg_sent r.ranges msg fits; doubts = r.doubts }

  pub with_msgs : (msgs : List Msg) → Each msgs (λ k m. DirFits m) → IsRanged setup now servers clients (sent ++ msgs)
  with_msgs msgs fit = record { ranges = msgs_sent r.ranges msgs fit; doubts = r.doubts }

  pub with_server : (s : ℕ) (state : ServerState) → Each state.doubt (λ k item. RecordFits item) → IsRanged setup now (slice_set servers s state) clients sent
  with_server s state fit = record { ranges = r.ranges; doubts = each_set s state r.doubts fit }

-- What code reads is within its range, and so is what it writes

issue_fits : (o : Option ClientState) (call : Call) → can_issue o call ≡ true → dir_of call < DIRECTORIES
issue_fits None call can = cc
issue_fits (Some seat) call can = call_fits call (and_parts _ (is_call call) (and_parts (not seat.quit && not (is_open seat.client.pending)) _ can).1).1

pub issued_dir : (o : Option ClientState) (call call' : Call) → can_issue o call ≡ true → call' ≡ call → dir_of call' < DIRECTORIES
issued_dir o call call' can call_is = subst (λ (x : Call). dir_of x < DIRECTORIES) (sym call_is) (issue_fits o call can)

pub issued_room : (i w : WorldV) → i ≡ w → (client : ℕ) (seat : ClientState) → seat ≡ get_or i.clients (client - 1) seat → (call : Call) → can_issue (seat_at w.clients client) call ≡ true → seat.client.seq < CALLS
issued_room i w same client seat read call can =
    let can' : can_issue (seat_at i.clients client) call ≡ true = subst (λ (x : WorldV). can_issue (seat_at x.clients client) call ≡ true) (sym same) can in
    let here : can_issue (Some seat) call ≡ true = sym (ap (λ o. can_issue o call) (seat_is (λ o. can_issue o call) refl i.clients client can' seat read)) ∙ can' in
    ltb-true seat.client.seq CALLS (and_parts (nat_lt seat.client.seq CALLS) (is_call call) (and_parts (not seat.quit && not (is_open seat.client.pending)) _ here).1).0

sends_fit : (client new : ClientV) (msg : Msg) (p : Option Pending) → SendsAgain client new msg p → PendingFits p → PendingFits new.pending × DirFits msg
sends_fit client new msg None sends fits = absurd sends
sends_fit client new msg (Some pending) sends fits = (subst (λ (x : ClientV). PendingFits x.pending) (sym sends.1) fits, subst DirFits (sym sends.0) fits)

module _ (i w : WorldV) (same : i ≡ w) (r : IsRanged i.setup i.now i.servers i.clients i.sent) where
  module _ (client : ℕ) (seat : ClientState) (read : seat ≡ get_or i.clients (client - 1) seat) where
    seat_fits : (f : Option ClientState → Bool) → f None ≡ false → f (seat_at w.clients client) ≡ true → PendingFits seat.client.pending
    seat_fits f none can =
        r.ranges.seats'.at (client - 1) seat (seat_place f none i.clients client (subst (λ (x : WorldV). f (seat_at x.clients client) ≡ true) (sym same) can) seat read)

    pub issued_fits : (call call' : Call) → can_issue (seat_at w.clients client) call ≡ true → call' ≡ call → (new : ClientV) → new ≡ issued seat.client call' → PendingFits new.pending
    issued_fits call call' can call_is new new_is =
        subst (λ (x : ClientV). PendingFits x.pending) (sym new_is) (subst (λ x. dir_of x < DIRECTORIES) (sym call_is) (issue_fits (seat_at w.clients client) call can))

    pub issued_ranges : (call call' : Call) → can_issue (seat_at w.clients client) call ≡ true → call' ≡ call → (new : ClientV) → new ≡ issued seat.client call' → (msg : Msg) → msg ≡ issue_msg seat.client call' → (sent : List Msg) → sent ≡ i.sent ++ msg ∷ []
        → IsRanged i.setup i.now i.servers (slice_set i.clients (client - 1) (record { client = new; quit = seat.quit })) sent
    issued_ranges call call' can call_is new new_is msg msg_is sent sent_is =
        let fits : dir_of call' < DIRECTORIES = subst (λ x. dir_of x < DIRECTORIES) (sym call_is) (issue_fits (seat_at w.clients client) call can) in
        subst (λ xs. IsRanged i.setup i.now i.servers (slice_set i.clients (client - 1) (record { client = new; quit = seat.quit })) xs) (sym sent_is)
        (with_msg (with_seat r (client - 1) (record { client = new; quit = seat.quit }) (issued_fits call call' can call_is new new_is)) msg
        (subst DirFits (sym msg_is) fits))

    pub resent_fits : can_resend (seat_at w.clients client) ≡ true → (new : ClientV) (msg : Msg) → SendsAgain seat.client new msg seat.client.pending → PendingFits new.pending
    resent_fits can new msg sends = (sends_fit seat.client new msg seat.client.pending sends (seat_fits can_resend refl can)).0

    pub resent_ranges : can_resend (seat_at w.clients client) ≡ true → (new : ClientV) (msg : Msg) → SendsAgain seat.client new msg seat.client.pending → (sent : List Msg) → sent ≡ i.sent ++ msg ∷ []
        → IsRanged i.setup i.now i.servers (slice_set i.clients (client - 1) (record { client = new; quit = seat.quit })) sent
    resent_ranges can new msg sends sent sent_is =
        let fits = sends_fit seat.client new msg seat.client.pending sends (seat_fits can_resend refl can) in
        subst (λ xs. IsRanged i.setup i.now i.servers (slice_set i.clients (client - 1) (record { client = new; quit = seat.quit })) xs) (sym sent_is)
        (with_msg (with_seat r (client - 1) (record { client = new; quit = seat.quit }) fits.0) msg fits.1)

    pub hinted_fits : {T E : Type 0} → is_some (seat_at w.clients client) ≡ true → (dir : ℕ) (bits : Bits) (result : Result T E) (new : ClientV) → OnOk result (new ≡ merged seat.client dir bits) → OnErr result (new ≡ seat.client) → PendingFits new.pending
    hinted_fits can dir bits (Ok x) new ok err = subst (λ (x : ClientV). PendingFits x.pending) (sym ok) (seat_fits is_some refl can)
    hinted_fits can dir bits (Err e) new ok err = subst (λ (x : ClientV). PendingFits x.pending) (sym err) (seat_fits is_some refl can)

    pub taken_fits : can_take (seat_at w.clients client) ≡ true → (msg : Msg) (new : ClientV) → new ≡ (take seat.client msg).client → PendingFits new.pending
    taken_fits can msg new new_is = subst (λ (x : ClientV). PendingFits x.pending) (sym new_is) (take_fits seat.client msg (seat_fits can_take refl can))

  module _ (server : ℕ) (state : ServerState) (read : state ≡ get_or i.servers server state) (can : can_serve (slice_get w.servers server) ≡ true) where
    state_fits : Each state.doubt (λ k item. RecordFits item)
    state_fits = r.doubts.at server state (item_is can_serve refl i.servers server (subst (λ (x : WorldV). can_serve (slice_get x.servers server) ≡ true) (sym same) can) state read)

    pub done_ranges : (new : ServerState) → new.doubt ≡ state.doubt → (msg : Msg) (outputs all : List Msg) → outputs ≡ (serve (store_of state) msg i.now).outputs → all ≡ i.sent ++ outputs
        → IsRanged i.setup i.now (slice_set i.servers server new) i.clients all
    done_ranges new doubt msg outputs all outputs_are all_is =
        subst (λ xs. IsRanged i.setup i.now (slice_set i.servers server new) i.clients xs) (sym (all_is ∙ ap (λ o. i.sent ++ o) outputs_are))
        (with_msgs (with_server r server new (subst (λ d. Each d (λ k item. RecordFits item)) (sym doubt) state_fits)) (serve (store_of state) msg i.now).outputs (outputs_fit (store_of state) msg i.now))

    pub stopped_ranges : (place : ℕ) (msg : Msg) → slice_get i.sent place ≡ Some msg
        → (new : ServerState) → new ≡ record { node = state.node; rows = state.rows; up = false; doubt = (serve (store_of state) msg i.now).records } → IsRanged i.setup i.now (slice_set i.servers server new) i.clients i.sent
    stopped_ranges place msg at new new_is =
        let fits : DirFits msg = r.ranges.sent'.at place msg at in
        with_server r server new (subst (λ (x : ServerState). Each x.doubt (λ k item. RecordFits item)) (sym new_is) (records_fit (store_of state) msg i.now fits))

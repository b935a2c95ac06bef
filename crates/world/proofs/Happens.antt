-- Each enabled event is a list of micro-steps, and so it keeps the invariant.
use Rattle.std.proofs.Common.{◌≡◌, ◌∙◌, sym, ap, subst, refl, ℕ, zero, suc, ◌+◌, ◌==◌, ◌&&◌, not, Bool, true, false, nat_lt, List, [], ◌∷◌, Option, Some, None}
use Rattle.std.specs.Prelude.{is_some}
use Rattle.std.specs.List.{slice_get}
use Rattle.mds_base.specs.declared.ask.Ask.{Ask}
use Rattle.mds_base.specs.declared.call.Call.{Call}
use Rattle.mds_base.specs.declared.reply.Reply.{Reply}
use Rattle.records.specs.declared.msg.Msg.{Msg}
use Rattle.records.specs.declared.msg.Msg.TheVariants.{Request, Redirect, Answer, Busy, Held, Page, Closed, Transfer, Installed}
use Rattle.bitmap.specs.Bits.{Bits, has}
use Rattle.placement.specs.Placement.{server_of}
use Rattle.std.proofs.lemmas.Bool.{and_parts, eqb-true}
use Rattle.client_core.specs.declared.client.Pending.{Pending}
use Rattle.client_core.specs.Clients.{resent, merged, bits_in, target_of, cursor_of}
use Rattle.mds_base.specs.Calls.{dir_of}
use Rattle.client_core.specs.Taking as taking
use Rattle.client_core.specs.Taking.{is_present, fits, take_at}
use Rattle.world.specs.declared.event.Event.{Event}
use Rattle.world.specs.declared.event.Event.TheVariants.{Issue, Resend, Serve, Miss, Take, Cached, Hint, Remind, Stop, Restart, Verdict}
use Rattle.world.specs.declared.event.Event.TheVariants as variants
use Rattle.world.specs.declared.state.ServerState.{ServerState}
use Rattle.world.specs.declared.state.ClientState.{ClientState}
use Rattle.mds_base.specs.Lists.{Among}
use Rattle.world.specs.Events as events
use Rattle.world.specs.Events.{enabled, is_call, can_issue, can_resend, can_take, can_give_up, is_for_client, is_known, are_known, is_well_formed, set_client, with_client}
use Rattle.world.specs.Histories as past
use Rattle.world.specs.Histories.{Trace, happens, weighed, run}
use Rattle.mds_base.proofs.Grow.{set_here, set_twice, set_same, among_last, among_map}
use Rattle.mds_base.specs.declared.TheConstants.{RADIX}
use Rattle.mds_base.specs.declared.limits.TheConstants.{CALLS}
use Rattle.mds_base.proofs.Filters.{any_true}
use Rattle.world.proofs.Known.{each_item}
use Rattle.world.proofs.Keepers.{keepers, IsKept}
use Rattle.world.proofs.Invariant.{Inv, IsIssueOf}
use Rattle.world.proofs.Steps.{Send, Open, Bump, Merge, Close, Quit, Down, Tick, open_at}
use Rattle.world.proofs.Reaches.{Reaches, step, over, reaches_keeps}
use Rattle.world.proofs.Targets.{target_kept}
use Rattle.world.proofs.Serves.{serve_event}
use Rattle.world.proofs.Restarts.{restart_event}

-- Clients

no_pending : (p : Option Pending) → not (events.is_open p) ≡ true → p ≡ None
no_pending None e = refl
no_pending (Some pending) e = cc

issue_event : (t : Trace) → Inv t → (k : ℕ) (call : Call) (o : Option ClientState) → slice_get t.world.clients k ≡ o → can_issue o call ≡ true
    → Reaches t (record { world = events.after_issue t.world (suc k) call o; past = weighed 1 (past.after_issue t.past (suc k) call o) })
issue_event t inv k call None is can = cc
issue_event t inv k call (Some seat) is can =
    let idle : seat.client.pending ≡ None = no_pending seat.client.pending (and_parts (not seat.quit) (not (events.is_open seat.client.pending)) (and_parts _ _ can).0).1 in
    let served : is_call call ≡ true = (and_parts (nat_lt seat.client.seq CALLS) (is_call call) (and_parts _ _ can).1).1 in
    let sizes = inv.sizes.clients_are.at k seat is in
    let to : ℕ = server_of (dir_of call) (target_of seat.client call) seat.client.setup.servers in
    let ask : Ask = record { client = seat.client.number; seq = seat.client.seq + 1; attempt = 1; call = call } in
    let issue : Among (open_at t k seat call).past.issued (λ j i. IsIssueOf i seat.client.number (seat.client.seq + 1) call) =
    among_last t.past.issued (record { client = suc k; seq = seat.client.seq + 1; call = call; at = t.past.count }) (record { client' = sym sizes.number; seq' = refl; call' = refl; served = served }) in
    step (Open k seat call) (record { is = is; idle = idle; served = served })
    (step (Send to ask (cursor_of call)) (record {
      issue = issue;
      part = target_of seat.client call;
      kept = target_kept seat.client call served (inv.bits.bits_kept.at k seat is);
      there = ap (λ x. server_of (dir_of call) (target_of seat.client call) x.servers) sizes.setup';
    }) (over 1))

resend_of : (t : Trace) → Inv t → (k : ℕ) (seat : ClientState) → slice_get t.world.clients k ≡ Some seat → (p : Option Pending) → seat.client.pending ≡ p → events.is_open p ≡ true
    → Reaches t (record { world = events.after_resend_of t.world (suc k) seat p; past = weighed 1 t.past })
resend_of t inv k seat is None busy open_now = cc
resend_of t inv k seat is (Some pending) busy open_now =
    let sizes = inv.sizes.clients_are.at k seat is in
    let to : ℕ = server_of (dir_of pending.call) (target_of seat.client pending.call) seat.client.setup.servers in
    let ask : Ask = record { client = seat.client.number; seq = seat.client.seq; attempt = pending.attempt + 1; call = pending.call } in
    let issue : Among t.past.issued (λ j i. IsIssueOf i seat.client.number seat.client.seq pending.call) =
    among_map (inv.calls.open_issued k seat pending is busy) (λ j i h. record { client' = h.client' ∙ sym sizes.number; seq' = h.seq'; call' = h.call'; served = h.served }) in
    step (Bump k seat pending) (record { is = is; busy = busy })
    (step (Send to ask (cursor_of pending.call)) (record {
      issue = issue;
      part = target_of seat.client pending.call;
      kept = target_kept seat.client pending.call (sym (ap is_call issue.good.call') ∙ issue.good.served) (inv.bits.bits_kept.at k seat is);
      there = ap (λ x. server_of (dir_of pending.call) (target_of seat.client pending.call) x.servers) sizes.setup';
    }) (over 1))

resend_event : (t : Trace) → Inv t → (k : ℕ) (o : Option ClientState) → slice_get t.world.clients k ≡ o → can_resend o ≡ true
    → Reaches t (record { world = events.after_resend t.world (suc k) o; past = weighed 1 t.past })
resend_event t inv k None is can = cc
resend_event t inv k (Some seat) is can =
    resend_of t inv k seat is seat.client.pending refl (and_parts (not seat.quit) (events.is_open seat.client.pending) (and_parts _ _ can).0).1

-- the run once a client took a message
abbrev after_taking : Trace → ℕ → ClientState → ℕ → Msg → Option Pending → Trace
after_taking t k seat place msg p = record {
  world = set_client t.world (suc k) (with_client seat (take_at seat.client p msg).client);
  past = weighed 1 (past.after_take_of t.past (suc k) seat.client place msg p);
}

-- a message that is ignored, or tells nothing, changes nothing
stays : (t : Trace) (k : ℕ) (seat : ClientState) → slice_get t.world.clients k ≡ Some seat → Reaches t (record { world = set_client t.world (suc k) (with_client seat seat.client); past = weighed 1 t.past })
stays t k seat is =
    subst (λ clients. Reaches t (record { world = record t.world { clients = clients }; past = weighed 1 t.past })) (sym (set_same t.world.clients k seat is)) (over 1)

module _ (t : Trace) (inv : Inv t) (k : ℕ) (seat : ClientState) (is : slice_get t.world.clients k ≡ Some seat) (pending : Pending) (busy : seat.client.pending ≡ Some pending) (place : ℕ) where
  answer_taken : (seq attempt : ℕ) (reply : Reply) → slice_get t.world.sent place ≡ Some (Answer (suc k) seq attempt reply)
      → (b : Bool) → (is_present seat.client pending seq attempt && fits pending.call reply) ≡ b
      → Reaches t (record {
        world = set_client t.world (suc k) (with_client seat (taking.answered_if seat.client reply b).client);
        past = weighed 1 (past.after_answer t.past (suc k) seat.client pending place (taking.answered_if seat.client reply b).taken);
      })
  answer_taken seq attempt reply msg false e = stays t k seat is
  answer_taken seq attempt reply msg true e =
      let present = and_parts (is_present seat.client pending seq attempt) (fits pending.call reply) e in
      let same : seq ≡ seat.client.seq = eqb-true seq seat.client.seq (and_parts (seq == seat.client.seq) (attempt == pending.attempt) present.0).0 in
      step (Close k seat pending attempt reply place) (record { is = is; busy = busy; msg = msg ∙ ap (λ q. Some (Answer (suc k) q attempt reply)) same }) (over 1)

  busy_taken : (part : ℕ) (b : Bool) → Reaches t (record {
    world = set_client t.world (suc k) (with_client seat (taking.busy_if seat.client part b).client);
    past = weighed 1 (past.after_answer t.past (suc k) seat.client pending place (taking.busy_if seat.client part b).taken);
  })
  busy_taken part true = stays t k seat is
  busy_taken part false = stays t k seat is

  held_taken : (until : ℕ) (b : Bool) → Reaches t (record {
    world = set_client t.world (suc k) (with_client seat (taking.held_if seat.client until b).client);
    past = weighed 1 (past.after_answer t.past (suc k) seat.client pending place (taking.held_if seat.client until b).taken);
  })
  held_taken until true = stays t k seat is
  held_taken until false = stays t k seat is

  redirect_taken : (dir : ℕ) (bits : Bits) → ((part : ℕ) → has bits part ≡ true → IsKept keepers dir part) → (b : Bool) → Reaches t (record {
    world = set_client t.world (suc k) (with_client seat (taking.redirected_if seat.client pending dir bits b).client);
    past = weighed 1 (past.after_answer t.past (suc k) seat.client pending place (taking.redirected_if seat.client pending dir bits b).taken);
  })
  redirect_taken dir bits kept false = stays t k seat is
  redirect_taken dir bits kept true =
      let met : ClientState = record { client = merged seat.client dir bits; quit = seat.quit } in
      let last : ClientState = record { client = resent (merged seat.client dir bits) pending; quit = seat.quit } in
      subst (λ clients. Reaches t (record { world = record t.world { clients = clients }; past = weighed 1 t.past })) (set_twice t.world.clients k met last)
      (step (Merge k seat dir bits) (record { is = is; kept = kept }) (step (Bump k met pending) (record { is = set_here t.world.clients k seat met is; busy = busy }) (over 1)))

  take_of : (msg : Msg) → slice_get t.world.sent place ≡ Some msg → is_for_client (suc k) (Some msg) ≡ true → Reaches t (after_taking t k seat place msg (Some pending))
  take_of (Answer to seq attempt reply) at is_for =
      let own : to ≡ suc k = eqb-true to (suc k) is_for in
      answer_taken seq attempt reply (at ∙ ap (λ c. Some (Answer c seq attempt reply)) own) (is_present seat.client pending seq attempt && fits pending.call reply) refl
  take_of (Busy to seq attempt part depth) at is_for = busy_taken part (is_present seat.client pending seq attempt)
  take_of (Held to seq attempt until) at is_for = held_taken until (is_present seat.client pending seq attempt)
  take_of (Redirect to seq attempt dir bits) at is_for =
      redirect_taken dir bits (inv.bits.sent_kept.at place (Redirect to seq attempt dir bits) at) (is_present seat.client pending seq attempt && (dir == dir_of pending.call))
  take_of (Page to seq attempt rows next) at is_for = stays t k seat is
  take_of (Closed to seq attempt part epoch) at is_for = stays t k seat is
  take_of (Transfer to dir part depth index pieces bits sessions top rows) at is_for = cc
  take_of (Request to ask cursor) at is_for = cc
  take_of (Installed to dir part child) at is_for = cc

take_seat : (t : Trace) → Inv t → (k : ℕ) (seat : ClientState) → slice_get t.world.clients k ≡ Some seat → (p : Option Pending) → seat.client.pending ≡ p → (place : ℕ) (msg : Msg) → slice_get t.world.sent place ≡ Some msg
    → is_for_client (suc k) (Some msg) ≡ true → Reaches t (after_taking t k seat place msg p)
take_seat t inv k seat is None idle place msg at is_for = stays t k seat is
take_seat t inv k seat is (Some pending) busy place msg at is_for = take_of t inv k seat is pending busy place msg at is_for

take_event : (t : Trace) → Inv t → (k place : ℕ) (m : Option Msg) (o : Option ClientState) → slice_get t.world.sent place ≡ m → slice_get t.world.clients k ≡ o → can_take o ≡ true → is_for_client (suc k) m ≡ true
    → Reaches t (record { world = events.after_take t.world (suc k) m o; past = weighed 1 (past.after_take t.past (suc k) place m o) })
take_event t inv k place None o at is can is_for = cc
take_event t inv k place (Some msg) None at is can is_for = cc
take_event t inv k place (Some msg) (Some seat) at is can is_for = take_seat t inv k seat is seat.client.pending refl place msg at is_for

-- a bitmap whose numbers clients know has numbers of kept partitions alone
known_kept : (t : Trace) → Inv t → (dir : ℕ) (bits : Bits) → are_known t.world.clients dir bits ≡ true → (part : ℕ) → has bits part ≡ true → IsKept keepers dir part
known_kept t inv dir bits known part e =
    let c = any_true (λ (seat : ClientState). has (bits_in seat.client dir) part) t.world.clients (each_item (is_known t.world.clients dir) bits known part e) in
    (inv.bits.bits_kept.at c.place c.item c.is) dir part c.good

hint_event : (t : Trace) → Inv t → (k dir : ℕ) (bits : Bits) (o : Option ClientState) → slice_get t.world.clients k ≡ o → is_some o ≡ true → are_known t.world.clients dir bits ≡ true
    → Reaches t (record { world = events.after_hint t.world (suc k) dir bits o; past = weighed 1 t.past })
hint_event t inv k dir bits None is can known = cc
hint_event t inv k dir bits (Some seat) is can known = step (Merge k seat dir bits) (record { is = is; kept = known_kept t inv dir bits known }) (over 1)

give_up_event : (t : Trace) (k : ℕ) (o : Option ClientState) → slice_get t.world.clients k ≡ o → can_give_up o ≡ true
    → Reaches t (record { world = events.after_give_up t.world (suc k) o; past = weighed 1 t.past })
give_up_event t k None is can = cc
give_up_event t k (Some seat) is can = step (Quit k seat) is (over 1)

-- Servers

stop_event : (t : Trace) → Inv t → (s : ℕ) (o : Option ServerState) → slice_get t.world.servers s ≡ o → Reaches t (record { world = events.after_stop t.world s o; past = weighed 1 t.past })
stop_event t inv s None is = over 1
stop_event t inv s (Some state) is = step (Down s state state.doubt) (record { is = is; follows = inv.doubt.doubt_follows.at s state is }) (over 1)

-- Each enabled event is a list of micro-steps
pub event_reaches : (t : Trace) → Inv t → (event : Event) → enabled t.world event ≡ true → Reaches t (happens t event)
event_reaches t inv (Issue zero call) can = cc
event_reaches t inv (Issue (suc k) call) can = issue_event t inv k call (slice_get t.world.clients k) refl can
event_reaches t inv (Resend zero) can = cc
event_reaches t inv (Resend (suc k)) can = resend_event t inv k (slice_get t.world.clients k) refl can
event_reaches t inv (Serve s places how) can = let c = and_parts _ _ can in serve_event t inv s places how (slice_get t.world.servers s) refl c.0 c.1
event_reaches t inv (Miss place) can = over 1
event_reaches t inv (Take zero place) can = cc
event_reaches t inv (Take (suc k) place) can =
    let c = and_parts _ _ can in take_event t inv k place (slice_get t.world.sent place) (slice_get t.world.clients k) refl refl c.0 c.1
event_reaches t inv (Cached client call) can = cc
event_reaches t inv (Hint zero dir bits) can = cc
event_reaches t inv (Hint (suc k) dir bits) can =
    let c = and_parts _ _ can in
    let known = and_parts (is_well_formed RADIX bits) (are_known t.world.clients dir bits) c.1 in
    hint_event t inv k dir bits (slice_get t.world.clients k) refl c.0 known.1
event_reaches t inv (Remind s) can = over 1
event_reaches t inv (Stop s cause) can = stop_event t inv s (slice_get t.world.servers s) refl
event_reaches t inv (Restart s kept) can = restart_event t inv s kept (slice_get t.world.servers s) refl can
event_reaches t inv (variants.Tick by) can = step (Tick by) tt (over 1)
event_reaches t inv (variants.GiveUp zero) can = cc
event_reaches t inv (variants.GiveUp (suc k)) can = give_up_event t k (slice_get t.world.clients k) refl can
event_reaches t inv (Verdict client verdict) can = over 1

-- so it keeps the invariant, and so do runs
pub run_keeps : (events' : List Event) (t : Trace) → Inv t → events.all_enabled t.world events' ≡ true → Inv (run t events')
run_keeps [] t inv can = inv
run_keeps (event ∷ more) t inv can = let c = and_parts _ _ can in run_keeps more (happens t event) (reaches_keeps (event_reaches t inv event c.0) inv) c.1

-- A client that takes a message: the line of that, and that a client that is redirected has its call open.
use Rattle.std.proofs.Common.{◌≡◌, ◌∙◌, sym, ap, refl, ℕ, zero, suc, ◌&&◌, ◌==◌, Bool, true, false, is_some, List, [], ◌∷◌, Option, Some, None}
use Rattle.std.specs.Prelude.{slice_set}
use Rattle.std.specs.List.{slice_get}
use Rattle.std.proofs.lemmas.Bool.{true≢false}
use Rattle.std.proofs.lemmas.Option.{same_Some}
use Rattle.mds_out.specs.Disk.{Image, Contents}
use Rattle.mds_base.specs.declared.reply.Reply.{Reply}
use Rattle.client_core.specs.declared.client.Pending.{Pending}
use Rattle.client_core.specs.declared.taken.Taken.{Taken}
use Rattle.client_core.specs.Clients.{ClientV}
use Rattle.mds_base.specs.Calls.{dir_of}
use Rattle.client_core.specs.Taking as taking
use Rattle.records.specs.declared.msg.Msg.{Msg}
use Rattle.records.specs.declared.msg.Msg.TheVariants as msgs
use Rattle.simulation.specs.Calls.{taken_of}
use Rattle.simulation.specs.Runs.{RunV, grown}
use Rattle.simulation.specs.Shows.{SimulationV, Shows, client_at, is_busy}
use Rattle.simulation.specs.Shows as shown
use Rattle.world.specs.declared.event.Event.TheVariants.{Take}
use Rattle.world.specs.declared.state.ClientState.{ClientState}
use Rattle.world.specs.Events as events
use Rattle.world.specs.Events.{seat_at, index_of, with_client}
use Rattle.world.specs.Worlds.{WorldV}
use Rattle.interpreter.specs.EventText.{take_text, event_text}
use Rattle.interpreter.specs.Story.{taken_by, is_redirected, redirects, seat_is_busy}
use Rattle.interpreter.specs.Text.{taken_line}
use Rattle.simulation.proofs.ClientsShown.{client_in}
use Rattle.interpreter.proofs.WorldSeen.{open_is_some, client_is, seen_busy, seen_taken}

-- ---- the line

line_in : (number : ℕ) (seat : Option ClientState) (msg : Option Msg) (client : ClientV) (taken : Taken) → taken_by seat msg ≡ Some taken → ((s : ClientState) → seat ≡ Some s → s.client.seq ≡ client.seq) → take_text number seat msg ≡ taken_line number client.seq taken
line_in number None msg client taken is same = cc
line_in number (Some seat) None client taken is same = cc
line_in number (Some seat) (Some msg) client taken is same =
    ap (taken_line number seat.client.seq) (same_Some (taking.take seat.client msg).taken taken is) ∙ ap (λ n. taken_line number n taken) (same seat refl)

-- ---- a client that is redirected

answered_not : (client : ClientV) (reply : Reply) (b : Bool) → is_redirected (Some (taking.answered_if client reply b).taken) ≡ false
answered_not client reply true = refl
answered_not client reply false = refl

busy_not : (client : ClientV) (part : ℕ) (b : Bool) → is_redirected (Some (taking.busy_if client part b).taken) ≡ false
busy_not client part true = refl
busy_not client part false = refl

held_not : (client : ClientV) (until : ℕ) (b : Bool) → is_redirected (Some (taking.held_if client until b).taken) ≡ false
held_not client until true = refl
held_not client until false = refl

redirected_open : (client : ClientV) (pending : Pending) (msg : Msg) → is_redirected (Some (taking.take_pending client pending msg).taken) ≡ true → is_some (taking.take_pending client pending msg).client.pending ≡ true
redirected_open client pending (msgs.Answer to seq attempt reply) e = absurd (true≢false (sym e ∙ answered_not client reply _))
redirected_open client pending (msgs.Redirect to seq attempt dir bits) e = by (taking.is_present client pending seq attempt && (dir == dir_of pending.call)) e
  where
    by : (b : Bool) → is_redirected (Some (taking.redirected_if client pending dir bits b).taken) ≡ true → is_some (taking.redirected_if client pending dir bits b).client.pending ≡ true
    by true e = refl
    by false e = cc
redirected_open client pending (msgs.Busy to seq attempt part depth) e = absurd (true≢false (sym e ∙ busy_not client part _))
redirected_open client pending (msgs.Held to seq attempt until) e = absurd (true≢false (sym e ∙ held_not client until _))
redirected_open client pending (msgs.Page to seq attempt rows next) e = cc
redirected_open client pending (msgs.Closed to seq attempt part epoch) e = cc
redirected_open client pending (msgs.Request server ask cursor) e = cc
redirected_open client pending (msgs.Transfer server dir part depth index pieces bits sessions top rows) e = cc
redirected_open client pending (msgs.Installed server dir part child) e = cc

redirected_at_open : (client : ClientV) (open_call : Option Pending) (msg : Msg) → is_redirected (Some (taking.take_at client open_call msg).taken) ≡ true → is_some (taking.take_at client open_call msg).client.pending ≡ true
redirected_at_open client None msg e = cc
redirected_at_open client (Some pending) msg e = redirected_open client pending msg e

-- the seat of a client, once it was set

set_here : (seats : List ClientState) (k : ℕ) (seat next : ClientState) → slice_get seats k ≡ Some seat → slice_get (slice_set seats k next) k ≡ Some next
set_here [] k seat next e = cc
set_here (x ∷ seats) zero seat next e = refl
set_here (x ∷ seats) (suc k) seat next e = set_here seats k seat next e

seat_here : (seats : List ClientState) (number : ℕ) (seat next : ClientState) → seat_at seats number ≡ Some seat → seat_at (slice_set seats (index_of number) next) number ≡ Some next
seat_here seats zero seat next e = cc
seat_here seats (suc k) seat next e = set_here seats k seat next e

-- a client that took a message which redirected it has a call open in the world then
busy_then : (seats : List ClientState) (number : ℕ) (seat : ClientState) (msg : Msg) → seat_at seats number ≡ Some seat → is_redirected (Some (taking.take seat.client msg).taken) ≡ true
    → seat_is_busy (seat_at (slice_set seats (index_of number) (with_client seat (taking.take seat.client msg).client)) number) ≡ true
busy_then seats number seat msg is e =
    ap seat_is_busy (seat_here seats number seat (with_client seat (taking.take seat.client msg).client) is)
    ∙ sym (open_is_some (taking.take seat.client msg).client.pending) ∙ redirected_at_open seat.client seat.client.pending msg e

-- .. by what the world was
busy_by : (run : RunV) (number message : ℕ) (seat : Option ClientState) (msg : Option Msg) → seat_at run.trace.world.clients number ≡ seat → slice_get run.trace.world.sent message ≡ msg → is_redirected (taken_by seat msg) ≡ true
    → seat_is_busy (seat_at (grown run (Take number message)).trace.world.clients number) ≡ true
busy_by run number message None msg is there e = cc
busy_by run number message (Some seat) None is there e = cc
busy_by run number message (Some seat) (Some msg) is there e =
    ap (λ (w : WorldV). seat_is_busy (seat_at w.clients number))
    (ap (events.after_take run.trace.world number (slice_get run.trace.world.sent message)) is ∙ ap (events.after_take_of run.trace.world number seat) there)
    ∙ busy_then run.trace.world.clients number seat msg is e

and_same : (busy redirected : Bool) → (redirected ≡ true → busy ≡ true) → (busy && redirected) ≡ redirected
and_same true true holds = refl
and_same true false holds = refl
and_same false true holds = holds refl
and_same false false holds = refl

module _ {X : Type 0} (seen : X → Contents) (images : X → Image → Type 0) (old new : SimulationV X) (number message : ℕ) where
  -- the line of a client that took a message
  pub take_line : (client : ClientV) (taken : Taken) → client_at old.clients number ≡ Some client → taken_of (client_at old.clients number) (slice_get old.sent message) ≡ Some taken
      → (run : RunV) → Shows seen images old run → event_text run.trace.world (Take number message) ≡ taken_line number client.seq taken
  take_line client taken is took run shows =
      line_in number (seat_at run.trace.world.clients number) (slice_get run.trace.world.sent message) client taken (sym (seen_taken seen images old run shows number message) ∙ took)
      (λ s e. ap (λ (c : ClientV). c.seq) (same_Some s.client client (sym (ap client_in e) ∙ sym (client_is seen images old run shows number) ∙ is)))

  -- whether the client is redirected, by whether it has a call open afterwards
  pub take_redirects : (taken : Taken) (busy : Bool) → taken_of (client_at old.clients number) (slice_get old.sent message) ≡ Some taken → is_busy (client_at new.clients number) ≡ busy → shown.Happens seen images old new (Take number message)
      → (run : RunV) → Shows seen images old run → (busy && is_redirected (Some taken)) ≡ redirects run.trace.world number message
  take_redirects taken busy took is happens run shows =
      let same : is_redirected (Some taken) ≡ redirects run.trace.world number message = ap is_redirected (sym took ∙ seen_taken seen images old run shows number message) in
      and_same busy (is_redirected (Some taken))
      (λ e. sym is ∙ seen_busy seen images new (grown run (Take number message)) (happens run shows).then number ∙ busy_by run number message _ _ refl refl (sym same ∙ e))
      ∙ same

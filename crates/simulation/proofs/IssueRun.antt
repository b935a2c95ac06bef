-- A client sends its call, for the first time or again.
use Rattle.std.proofs.Common.{◌≡◌, ◌∙◌, sym, ap, subst, refl, ℕ, ◌<◌, not, is_some, true, false, [], ◌∷◌, ◌++◌, length, Option, Some, None}
use Rattle.std.specs.Prelude.{map as list_map}
use Rattle.std.specs.FinSet as set
use Rattle.std.proofs.lemmas.Bool.{and_from, lt-ltb}
use Rattle.mds_base.specs.declared.limits.TheConstants.{ATTEMPTS, CALLS, EVENTS}
use Rattle.mds_base.specs.declared.call.Call.{Call}
use Rattle.mds_out.specs.Disk.{Image, Contents}
use Rattle.records.specs.declared.msg.Msg.{Msg}
use Rattle.client_core.specs.declared.client.Pending.{Pending}
use Rattle.client_core.specs.Clients.{ClientV, HasRoom, issued, issue_msg, resent, resend_msg}
use Rattle.world.specs.declared.event.Event.{Event}
use Rattle.world.specs.declared.event.Event.TheVariants.{Issue, Resend}
use Rattle.world.specs.declared.state.ClientState.{ClientState}
use Rattle.world.specs.Events as events
use Rattle.world.specs.Events.{seat_at, index_of, set_client, say, with_client, can_issue, can_resend, has_room, is_open, is_call}
use Rattle.world.specs.Histories as past
use Rattle.world.specs.Histories.{History, is_taken}
use Rattle.mds_base.proofs.Grow.{each_set}
use Rattle.simulation.specs.Runs.{RunV, GoesOn, names}
use Rattle.simulation.specs.Shows.{SimulationV, Shows, Happens, client_at, server_for, is_idle, is_busy, made_of}
use Rattle.simulation.specs.Moves.{awaiting, sent_by, issued_as, issued_by, resent_open, resent_as, resent_by}
use Rattle.simulation.proofs.MessagesNamed.{await_more, named_more}
use Rattle.simulation.proofs.ClientsShown.{client_in, client_is, seats_moved, seat_place}
use Rattle.simulation.proofs.EventRun.{stepped, goes_on, one_longer, still_few}

-- the numbers of a client's call and of its attempt leave room, where the client is there
abbrev pub HasNumbers : Option ClientV → Type 0
HasNumbers None = Unit {0}
HasNumbers (Some client) = (client.seq < CALLS) × HasRoom client.pending

closed : (p : Option Pending) → not (is_some p) ≡ true → not (is_open p) ≡ true
closed None e = refl
closed (Some pending) e = e

may_issue : (seat : ClientState) (call : Call) → seat.quit ≡ false → is_idle (Some seat.client) ≡ true → seat.client.seq < CALLS → is_call call ≡ true → can_issue (Some seat) call ≡ true
may_issue seat call going idle few served = and_from _ _ (and_from _ _ (ap not going) (closed seat.client.pending idle)) (and_from _ _ (lt-ltb seat.client.seq CALLS few) served)

may_resend : (seat : ClientState) (pending : Pending) → seat.quit ≡ false → seat.client.pending ≡ Some pending → seat.client.seq < CALLS → HasRoom seat.client.pending → can_resend (Some seat) ≡ true
may_resend seat pending going busy few room =
    and_from _ _ (and_from _ _ (ap not going) (ap is_open busy)) (and_from _ _ (lt-ltb seat.client.seq CALLS few) (ap has_room busy ∙ lt-ltb pending.attempt ATTEMPTS (subst HasRoom busy room)))

module _ {X : Type 0} (seen : X → Contents) (images : X → Image → Type 0) (old : SimulationV X) (run : RunV) (shows : Shows seen images old run) where
  pub seat_going : (number : ℕ) (seat : ClientState) → seat_at run.trace.world.clients number ≡ Some seat → seat.quit ≡ false
  seat_going number seat is = shows.going_on.at (index_of number) seat (seat_place run.trace.world.clients number seat is)

module _ {X : Type 0} (seen : X → Contents) (images : X → Image → Type 0) (old : SimulationV X) (run : RunV) (shows : Shows seen images old run) (room : old.count < EVENTS) where
  -- the run with an event by which a client changed and sent a request
  sent_shows : (event : Event) (number : ℕ) (seat : ClientState) (client : ClientV) (msg : Msg) (server : ℕ) (h : History) → ((p : ℕ) → names p event ≡ false) → server_for (Some msg) ≡ Some server → seat.quit ≡ false
      → list_map made_of h.made ≡ list_map made_of run.trace.past.made → h.answered ≡ run.trace.past.answered
      → Shows seen images (sent_by old number client msg) (stepped run event (say (set_client run.trace.world number (with_client seat client)) (msg ∷ [])) h)
  sent_shows event number seat client msg server h unnamed is going made answered = record {
    setup = shows.setup;
    moment = shows.moment;
    count = one_longer run.events event old.count shows.count;
    few = still_few run.events event old.count shows.count room;
    servers = shows.servers;
    clients = seats_moved run.trace.world.clients old.clients number (with_client seat client) shows.clients;
    going_on = each_set (index_of number) (with_client seat client) shows.going_on going;
    sent = ap (λ l. l ++ msg ∷ []) shows.sent;
    named = named_more old.waiting old.sent run.events shows.waiting shows.named event msg unnamed;
    waiting = λ s k. ap (λ o. set.contains (awaiting old.waiting o (length old.sent)) (s, k)) is
        ∙ await_more old.waiting old.sent run.events shows.waiting shows.named event msg server unnamed is s k;
    made = made ∙ shows.made;
    taken = λ message. shows.taken message ∙ ap (λ a. is_taken a message) (sym answered);
  }

  issued_at : (number : ℕ) (call : Call) (o : Option ClientState) → seat_at run.trace.world.clients number ≡ o → is_idle (client_in o) ≡ true → HasNumbers (client_in o) → is_call call ≡ true → GoesOn run (Issue number call) (Shows seen images (issued_as old number call (client_in o)))
  issued_at number call None is idle few served = cc
  issued_at number call (Some seat) is idle few served =
      goes_on run (Issue number call)
      (say (set_client run.trace.world number (with_client seat (issued seat.client call))) (issue_msg seat.client call ∷ []))
      (past.after_issue run.trace.past number call (Some seat))
      (Shows seen images (issued_as old number call (Some seat.client)))
      (ap (λ o. can_issue o call) is ∙ may_issue seat call (seat_going seen images old run shows number seat is) idle few.0 served)
      (ap (events.after_issue run.trace.world number call) is)
      (ap (past.after_issue run.trace.past number call) is)
      (sent_shows (Issue number call) number seat (issued seat.client call) (issue_msg seat.client call) _ (past.after_issue run.trace.past number call (Some seat)) (λ p. refl) refl (seat_going seen images old run shows number seat is) refl refl)

  resent_open_at : (number : ℕ) (seat : ClientState) (p : Option Pending) → seat_at run.trace.world.clients number ≡ Some seat → seat.client.pending ≡ p → is_some p ≡ true → HasNumbers (Some seat.client) → GoesOn run (Resend number) (Shows seen images (resent_open old number seat.client p))
  resent_open_at number seat None is busy some few = cc
  resent_open_at number seat (Some pending) is busy some few =
      goes_on run (Resend number)
      (say (set_client run.trace.world number (with_client seat (resent seat.client pending))) (resend_msg seat.client pending ∷ []))
      run.trace.past
      (Shows seen images (resent_open old number seat.client (Some pending)))
      (ap can_resend is ∙ may_resend seat pending (seat_going seen images old run shows number seat is) busy few.0 few.1)
      (ap (events.after_resend run.trace.world number) is ∙ ap (events.after_resend_of run.trace.world number seat) busy)
      refl
      (sent_shows (Resend number) number seat (resent seat.client pending) (resend_msg seat.client pending) _ run.trace.past (λ p. refl) refl (seat_going seen images old run shows number seat is) refl refl)

  resent_at : (number : ℕ) (o : Option ClientState) → seat_at run.trace.world.clients number ≡ o → is_busy (client_in o) ≡ true → HasNumbers (client_in o) → GoesOn run (Resend number) (Shows seen images (resent_as old number (client_in o)))
  resent_at number None is busy few = cc
  resent_at number (Some seat) is busy few = resent_open_at number seat seat.client.pending is refl busy few

module _ {X : Type 0} (seen : X → Contents) (images : X → Image → Type 0) (old : SimulationV X) (room : old.count < EVENTS) (number : ℕ) (few : HasNumbers (client_at old.clients number)) where
  pub issued_happens : (call : Call) → is_idle (client_at old.clients number) ≡ true → is_call call ≡ true → Happens seen images old (issued_by old number call) (Issue number call)
  issued_happens call idle served run shows =
      let e = client_is run.trace.world.clients old.clients number shows.clients in
      subst (λ o. GoesOn run (Issue number call) (Shows seen images (issued_as old number call o))) (sym e)
      (issued_at seen images old run shows room number call (seat_at run.trace.world.clients number) refl (subst (λ o. is_idle o ≡ true) e idle) (subst HasNumbers e few) served)

  pub resent_happens : is_busy (client_at old.clients number) ≡ true → Happens seen images old (resent_by old number) (Resend number)
  resent_happens busy run shows =
      let e = client_is run.trace.world.clients old.clients number shows.clients in
      subst (λ o. GoesOn run (Resend number) (Shows seen images (resent_as old number o))) (sym e)
      (resent_at seen images old run shows room number (seat_at run.trace.world.clients number) refl (subst (λ o. is_busy o ≡ true) e busy) (subst HasNumbers e few))

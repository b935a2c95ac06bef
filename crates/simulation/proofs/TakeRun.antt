-- A client takes a message.
use Rattle.std.proofs.Common.{◌≡◌, ◌∙◌, sym, ap, subst, refl, ℕ, ◌==◌, Bool, true, false, is_some, List, [], ◌∷◌, ◌++◌, Option, Some, None, inl, inr, ◌<◌}
use Rattle.std.specs.Prelude.{◌||◌}
use Rattle.std.specs.Prelude.{map as list_map}
use Rattle.std.specs.List.{slice_get}
use Rattle.std.specs.Cmp.{nat_cmp_total}
use Rattle.std.specs.FinSet as set
use Rattle.std.specs.Ordering.{nat_cmp}
use Rattle.std.proofs.lemmas.Bool.{and_from, eq-eqb, ne_eqb, lt-ltb}
use Rattle.std.proofs.lemmas.List.Folds.{list_any-append}
use Rattle.std.proofs.lemmas.Map.Lookups.{exact_unsigned}
use Rattle.mds_base.specs.declared.limits.TheConstants.{ATTEMPTS, CALLS, EVENTS}
use Rattle.mds_out.specs.Disk.{Image, Contents}
use Rattle.records.specs.declared.msg.Msg.{Msg}
use Rattle.client_core.specs.declared.client.Pending.{Pending}
use Rattle.client_core.specs.declared.taken.Taken.{Taken}
use Rattle.client_core.specs.declared.taken.Taken.TheVariants.{Ignored, Answer, Paged, Redirected, Busy, Held}
use Rattle.client_core.specs.Clients.{ClientV, HasRoom}
use Rattle.client_core.specs.Taking as taking
use Rattle.world.specs.declared.event.Event.TheVariants.{Take}
use Rattle.world.specs.declared.state.ClientState.{ClientState}
use Rattle.world.specs.Events as events
use Rattle.world.specs.Events.{seat_at, index_of, set_client, with_client, can_take, has_room, is_for_client}
use Rattle.world.specs.Histories as past
use Rattle.world.specs.Histories.{History, AnsweredV, is_taken}
use Rattle.mds_base.proofs.Grow.{each_set}
use Rattle.simulation.specs.Runs.{RunV, GoesOn}
use Rattle.simulation.specs.Shows.{SimulationV, Shows, Happens, client_at, made_of}
use Rattle.simulation.specs.Moves.{noting, took_by, taken_as, taken_by}
use Rattle.simulation.proofs.MessagesNamed.{await_same, still_named}
use Rattle.simulation.proofs.ClientsShown.{client_in, client_is, seats_moved}
use Rattle.simulation.proofs.IssueRun.{HasNumbers, seat_going}
use Rattle.simulation.proofs.KeySets.{insert_here, insert_apart, number_or_apart}
use Rattle.simulation.proofs.EventRun.{goes_on, one_longer, still_few}

-- the history once a client took a message

answer_made : (h : History) (number : ℕ) (client : ClientV) (pending : Pending) (message : ℕ) (taken : Taken) → (past.after_answer h number client pending message taken).made ≡ h.made
answer_made h number client pending message Ignored = refl
answer_made h number client pending message (Answer reply) = refl
answer_made h number client pending message Paged = refl
answer_made h number client pending message (Redirected part) = refl
answer_made h number client pending message (Busy part) = refl
answer_made h number client pending message (Held until) = refl

take_made : (h : History) (number : ℕ) (client : ClientV) (message : ℕ) (msg : Msg) (pending : Option Pending) → (past.after_take_of h number client message msg pending).made ≡ h.made
take_made h number client message msg None = refl
take_made h number client message msg (Some pending) = answer_made h number client pending message (taking.take_pending client pending msg).taken

-- the places that a simulation noted are those of a history
abbrev Notes : set.FinSet nat_cmp → List AnsweredV → Type 0
Notes places answered = (q : ℕ) → set.contains places q ≡ is_taken answered q

or_true : (a b : Bool) → b ≡ true → true ≡ (a || (b || false))
or_true true b e = refl
or_true false b e = ap (λ x. x || false) (sym e)

or_false : (a b : Bool) → b ≡ false → a ≡ (a || (b || false))
or_false true b e = refl
or_false false b e = ap (λ x. x || false) (sym e)

noted_one : (places : set.FinSet nat_cmp) (answered : List AnsweredV) (a : AnsweredV) → Notes places answered → Notes (set.insert places a.message) (answered ++ a ∷ [])
noted_one places answered a notes q = elim (number_or_apart q a.message) [
  | inl same ↦ subst (λ n. set.contains (set.insert places a.message) n ≡ is_taken (answered ++ a ∷ []) n) (sym same)
      (insert_here nat_cmp_total exact_unsigned places a.message ∙ or_true (is_taken answered a.message) (a.message == a.message) (eq-eqb a.message a.message refl)
      ∙ sym (list_any-append (λ (b : AnsweredV). b.message == a.message) answered (a ∷ [])))
  | inr differ ↦ insert_apart nat_cmp_total exact_unsigned places a.message q differ ∙ notes q ∙ or_false (is_taken answered q) (a.message == q) (ne_eqb a.message q (λ e. differ (sym e)))
      ∙ sym (list_any-append (λ (b : AnsweredV). b.message == q) answered (a ∷ []))
]

noted_answer : (h : History) (number : ℕ) (client : ClientV) (pending : Pending) (message : ℕ) (taken : Taken) (places : set.FinSet nat_cmp) → Notes places h.answered
    → Notes (noting places taken message) (past.after_answer h number client pending message taken).answered
noted_answer h number client pending message (Answer reply) places notes =
    noted_one places h.answered (record { client = number; seq = client.seq; call = pending.call; reply = reply; message = message; at = h.count }) notes
noted_answer h number client pending message Ignored places notes = notes
noted_answer h number client pending message Paged places notes = notes
noted_answer h number client pending message (Redirected part) places notes = notes
noted_answer h number client pending message (Busy part) places notes = notes
noted_answer h number client pending message (Held until) places notes = notes

noted_take : (h : History) (number : ℕ) (client : ClientV) (message : ℕ) (msg : Msg) (pending : Option Pending) (places : set.FinSet nat_cmp) → Notes places h.answered
    → Notes (noting places (taking.take_at client pending msg).taken message) (past.after_take_of h number client message msg pending).answered
noted_take h number client message msg None places notes = notes
noted_take h number client message msg (Some pending) places notes = noted_answer h number client pending message (taking.take_pending client pending msg).taken places notes

has_room_of : (p : Option Pending) → HasRoom p → has_room p ≡ true
has_room_of None room = refl
has_room_of (Some pending) room = lt-ltb pending.attempt ATTEMPTS room

module _ {X : Type 0} (seen : X → Contents) (images : X → Image → Type 0) (old : SimulationV X) (run : RunV) (shows : Shows seen images old run) (room : old.count < EVENTS) where
  taken_at : (number message : ℕ) (o : Option ClientState) (m : Option Msg) → seat_at run.trace.world.clients number ≡ o → slice_get run.trace.world.sent message ≡ m → is_some (client_in o) ≡ true → is_for_client number m ≡ true → HasNumbers (client_in o)
      → GoesOn run (Take number message) (Shows seen images (taken_as old number message (client_in o) m))
  taken_at number message None m is sent there meant few = cc
  taken_at number message (Some seat) None is sent there meant few = cc
  taken_at number message (Some seat) (Some msg) is sent there meant few =
      goes_on run (Take number message)
      (set_client run.trace.world number (with_client seat (taking.take seat.client msg).client))
      (past.after_take_of run.trace.past number seat.client message msg seat.client.pending)
      (Shows seen images (took_by old number message (taking.take seat.client msg)))
      (and_from _ _ (ap can_take is ∙ and_from _ _ (lt-ltb seat.client.seq CALLS few.0) (has_room_of seat.client.pending few.1)) (ap (is_for_client number) sent ∙ meant))
      (ap (events.after_take run.trace.world number (slice_get run.trace.world.sent message)) is ∙ ap (events.after_take_of run.trace.world number seat) sent)
      (ap (λ m. past.after_take run.trace.past number message m (seat_at run.trace.world.clients number)) sent ∙ ap (past.after_take run.trace.past number message (Some msg)) is)
      (record {
        setup = shows.setup;
        moment = shows.moment;
        count = one_longer run.events (Take number message) old.count shows.count;
        few = still_few run.events (Take number message) old.count shows.count room;
        servers = shows.servers;
        clients = seats_moved run.trace.world.clients old.clients number (with_client seat (taking.take seat.client msg).client) shows.clients;
        going_on = each_set (index_of number) (with_client seat (taking.take seat.client msg).client) shows.going_on (seat_going seen images old run shows number seat is);
        sent = shows.sent;
        named = still_named old.waiting old.sent run.events shows.waiting shows.named (Take number message) (λ k. refl);
        waiting = await_same old.waiting old.sent run.events shows.waiting shows.named (Take number message) (λ k. refl);
        made = ap (list_map made_of) (take_made run.trace.past number seat.client message msg seat.client.pending) ∙ shows.made;
        taken = noted_take run.trace.past number seat.client message msg seat.client.pending old.taken shows.taken;
      })

pub taken_happens : {X : Type 0} (seen : X → Contents) (images : X → Image → Type 0) (old : SimulationV X) → old.count < EVENTS → (number : ℕ) → HasNumbers (client_at old.clients number) → (message : ℕ) → is_some (client_at old.clients number) ≡ true → is_for_client number (slice_get old.sent message) ≡ true
    → Happens seen images old (taken_by old number message) (Take number message)
taken_happens seen images old room number few message there meant run shows =
    let e = client_is run.trace.world.clients old.clients number shows.clients in
    let m : slice_get old.sent message ≡ slice_get run.trace.world.sent message = ap (λ l. slice_get l message) (sym shows.sent) in
    subst (λ o. GoesOn run (Take number message) (Shows seen images (taken_as old number message o (slice_get old.sent message)))) (sym e)
    (subst (λ o. GoesOn run (Take number message) (Shows seen images (taken_as old number message (client_in (seat_at run.trace.world.clients number)) o))) (sym m)
    (taken_at seen images old run shows room number message (seat_at run.trace.world.clients number) (slice_get run.trace.world.sent message) refl refl (subst (λ o. is_some o ≡ true) e there) (subst (λ o. is_for_client number o ≡ true) m meant) (subst HasNumbers e few)))

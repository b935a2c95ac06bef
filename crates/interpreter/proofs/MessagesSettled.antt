-- What waits is delivered, the first message first, until nothing is due.
use Rattle.std.proofs.Common.{◌≡◌, ◌∙◌, sym, ap, subst, refl, ℕ, ◌+◌, ◌<◌, ◌≤◌, Bool, true, false, ◌&&◌, is_some, List, [], ◌++◌, length, Option, Some, None, inl, inr, arith}
use Rattle.std.specs.List.{slice_get}
use Rattle.mds_base.specs.declared.limits.TheConstants.{EVENTS}
use Rattle.mds_base.specs.declared.setup.Which.TheVariants as limits
use Rattle.mds_out.specs.Disk.{Image, Contents}
use Rattle.simulation.specs.Runs.{RunV}
use Rattle.simulation.specs.Shows.{SimulationV, Shows, IsDue, IsFirst, server_for}
use Rattle.world.specs.declared.event.Event.{Event}
use Rattle.interpreter.specs.declared.interpreter.Halt.{Halt}
use Rattle.interpreter.specs.declared.interpreter.Halt.TheVariants as halts
use Rattle.interpreter.specs.Steps.{Carries, Halts, IsDeliveredTo, OrNone}
use Rattle.interpreter.specs.Story.{grown_by, up_at, is_due, IsFirstDue, IsDelivery, IsSettled, IsSettling}
use Rattle.interpreter.proofs.EventHappens.{is_false}
use Rattle.interpreter.proofs.RoundsLooped.{SoFar, so_far_none, so_far_more, so_far_ends, so_far_halts, so_far_crowded}
use Rattle.interpreter.proofs.WorldSeen.{seen_msg, due_seen, due_waits}
use Rattle.interpreter.proofs.EventsText.{grown_length, goes_none, halts_kind}

-- what is due has a server
due_server : (o up : Bool) → (o && up) ≡ true → o ≡ true
due_server true up e = refl
due_server false up e = e

has_server : {X : Type 0} (sim : SimulationV X) (run : RunV) (o : Option ℕ) → up_at run.trace.world o ≡ true → is_some o ≡ true
has_server sim run None e = e
has_server sim run (Some server) e = refl

module _ {X : Type 0} (seen : X → Contents) (images : X → Image → Type 0) where
  -- the first message that waits is the first one due
  first_seen : (sim : SimulationV X) (run : RunV) → Shows seen images sim run → length sim.stores ≡ sim.setup.servers → (message : ℕ) → IsFirst (IsDue sim sim.setup.servers) (Some message) → IsFirstDue run message
  first_seen sim run shows stores message first = record {
    due = due_seen seen images sim run shows sim.setup.servers message first.0;
    first = λ other due. first.1 other (due_waits seen images sim run shows stores other due);
  }

  none_seen : (sim : SimulationV X) (run : RunV) → Shows seen images sim run → length sim.stores ≡ sim.setup.servers → IsFirst (IsDue sim sim.setup.servers) None → IsSettled run []
  none_seen sim run shows stores first message = is_false (is_due run message) (λ due. first message (due_waits seen images sim run shows stores message due))

  -- the message that is due is for a server
  for_some : (sim : SimulationV X) (run : RunV) → Shows seen images sim run → (message : ℕ) → is_due run message ≡ true → is_some (server_for (slice_get sim.sent message)) ≡ true
  for_some sim run shows message due =
      let up = due_server (up_at run.trace.world (server_for (slice_get run.trace.world.sent message))) _ due in
      ap (λ m. is_some (server_for m)) (seen_msg seen images sim run shows message) ∙ has_server sim run (server_for (slice_get run.trace.world.sent message)) up

  some_one : (message : ℕ) (first : Option ℕ) (run : RunV) (events : List Event) → IsDeliveredTo message first run events → 1 ≤ length events
  some_one message first run events d = subst (λ (es : List Event). 1 ≤ length es) (sym d.one) (omega arith)

  settles_one : (run : RunV) (message : ℕ) (first : Option ℕ) (events more : List Event) → IsFirstDue run message → IsDeliveredTo message first run events → IsSettled (grown_by run events) more → IsSettled run (events ++ more)
  settles_one run message first events more due d is =
      subst (λ es. IsSettled run (es ++ more)) (sym d.one) (record { message = message; first = due; delivered = d.delivered }, subst (λ es. IsSettled (grown_by run es) more) d.one is)

  settling_one : (run : RunV) (message : ℕ) (first : Option ℕ) (events more : List Event) → IsFirstDue run message → IsDeliveredTo message first run events → IsSettling (grown_by run events) more → IsSettling run (events ++ more)
  settling_one run message first events more due d is =
      subst (λ es. IsSettling run (es ++ more)) (sym d.one) (record { message = message; first = due; delivered = d.delivered }, subst (λ es. IsSettling (grown_by run es) more) d.one is)

  -- the settling so far: after a round there are no more events than a run may have
  pub record Settles (old new : SimulationV X) (was now : List ℕ) (rounds : ℕ) : Type 0 where
    pub setup : new.setup ≡ old.setup
    pub so_far : (run : RunV) → Shows seen images old run → SoFar seen images new was now run rounds (IsSettled run) (IsSettling run) IsSettled IsSettling
    pub few : (run : RunV) → Shows seen images old run → 1 ≤ rounds → new.count ≤ EVENTS

  pub settles_none : (sim : SimulationV X) (pending : List ℕ) → Settles sim sim pending pending 0
  settles_none sim pending = record {
    setup = refl;
    so_far = λ run shows. so_far_none seen images sim pending run IsSettled IsSettling shows;
    few = λ run shows some. absurd (omega arith);
  }

  one_more : (a b c m n : ℕ) → a ≡ m → b ≡ a + c → c ≡ 1 → b ≡ n → m < EVENTS → n ≤ EVENTS
  one_more a b c m n e f g h few = omega arith

  pub settles_more : (old mid new : SimulationV X) (was at now : List ℕ) (rounds message : ℕ) (first : Option ℕ) → Settles old mid was at rounds → new.setup ≡ mid.setup → length mid.stores ≡ mid.setup.servers → IsFirst (IsDue mid mid.setup.servers) (Some message)
      → (is_some (server_for (slice_get mid.sent message)) ≡ true → Carries seen images mid new at now (IsDeliveredTo message first)) → (is_some (server_for (slice_get mid.sent message)) ≡ true → mid.count < EVENTS)
      → Settles old new was now (rounds + 1)
  settles_more old mid new was at now rounds message first s setup stores due carries few = record {
    setup = setup ∙ s.setup;
    so_far = λ run shows.
        let f = s.so_far run shows in
        let there = first_seen mid (grown_by run f.events) f.goes.shows stores message due in
        let d = carries (for_some mid (grown_by run f.events) f.goes.shows message there.due) (grown_by run f.events) f.goes.shows in
        so_far_more seen images mid new was at now run rounds (IsSettled run) (IsSettling run) IsSettled IsSettling IsSettled IsSettling f
        (record {
          events = d.events;
          goes = d.goes;
          some = some_one message first (grown_by run f.events) d.events d.are;
          ends = λ more is. settles_one (grown_by run f.events) message first d.events more there d.are is;
          begins = λ more is. settling_one (grown_by run f.events) message first d.events more there d.are is;
        });
    few = λ run shows some.
        let f = s.so_far run shows in
        let there = first_seen mid (grown_by run f.events) f.goes.shows stores message due in
        let for = for_some mid (grown_by run f.events) f.goes.shows message there.due in
        let d = carries for (grown_by run f.events) f.goes.shows in
        one_more (length (grown_by run f.events).events) (length (grown_by (grown_by run f.events) d.events).events) (length d.events) mid.count new.count
        f.goes.shows.count (grown_length (grown_by run f.events) d.events) (ap length d.are.one) d.goes.shows.count (few for);
  }

  pub settles_ends : (old new : SimulationV X) (was now : List ℕ) (rounds : ℕ) → Settles old new was now rounds → length new.stores ≡ new.setup.servers → IsFirst (IsDue new new.setup.servers) None → Carries seen images old new was now IsSettled
  settles_ends old new was now rounds s stores none run shows =
      let f = s.so_far run shows in
      so_far_ends seen images new new was now now run rounds (IsSettled run) (IsSettling run) IsSettled IsSettling f
      (record { events = []; are = none_seen new (grown_by run f.events) f.goes.shows stores none; goes = goes_none seen images new now now (grown_by run f.events) f.goes.shows refl })

  settling_delivery : (run : RunV) (message : ℕ) (events : List Event) → IsFirstDue run message → OrNone (λ r. IsDelivery r message) run events → IsSettling run events
  settling_delivery run message events due (inl none) = subst (IsSettling run) (sym none) tt
  settling_delivery run message events due (inr d) = subst (IsSettling run) (sym d.1) (record { message = message; first = due; delivered = d.2 }, tt)

  pub settles_halts : (old mid new : SimulationV X) (was at now : List ℕ) (rounds message : ℕ) (halt : Halt) → Settles old mid was at rounds → length mid.stores ≡ mid.setup.servers → IsFirst (IsDue mid mid.setup.servers) (Some message)
      → Halts seen images mid new at now (OrNone (λ run. IsDelivery run message)) halt → Halts seen images old new was now IsSettling halt
  settles_halts old mid new was at now rounds message halt s stores due h = record {
    sound = h.sound;
    runs = λ run shows.
        let f = s.so_far run shows in
        let there = first_seen mid (grown_by run f.events) f.goes.shows stores message due in
        so_far_halts seen images mid new was at now run rounds (IsSettled run) (IsSettling run) IsSettled IsSettling halt f
        (halts_kind seen images new at now (grown_by run f.events) (OrNone (λ r. IsDelivery r message) (grown_by run f.events)) (IsSettling (grown_by run f.events)) halt
        (λ es is. settling_delivery (grown_by run f.events) message es there is) (h.runs (grown_by run f.events) f.goes.shows));
  }

  pub settles_full : (old sim : SimulationV X) (was now : List ℕ) (rounds : ℕ) → EVENTS < rounds → Settles old sim was now rounds → Halts seen images old sim was now IsSettling (halts.Limit limits.Events)
  settles_full old sim was now rounds enough s = record {
    sound = tt;
    runs = λ run shows.
        absurd (so_far_crowded seen images sim was now run rounds (IsSettled run) (IsSettling run) IsSettled IsSettling enough (s.few run shows (omega arith)) (s.so_far run shows));
  }

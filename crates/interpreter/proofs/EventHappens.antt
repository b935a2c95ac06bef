-- One event: what was carried out, or why not.
use Rattle.std.proofs.Common.{◌≡◌, ◌∙◌, sym, ap, subst, refl, ℕ, ◌+◌, ◌<◌, ◌≤◌, Bool, true, false, List, [], ◌∷◌, ◌++◌, length, Option, Some, None, Result, Ok, Err, inl, inr, arith}
use Rattle.std.specs.Prelude.{OnOk, IfErr, nat_lt, codes}
use Rattle.std.specs.List.{slice_get}
use Rattle.std.proofs.lemmas.Bool.Decides.{nat_tests}
use Rattle.std.proofs.lemmas.List.{append-nil}
use Rattle.mds_base.specs.declared.limits.TheConstants.{EVENTS, MOMENTS}
use Rattle.mds_base.specs.declared.setup.Which.{Which}
use Rattle.mds_base.specs.declared.setup.Which.TheVariants as limits
use Rattle.mds_base.specs.declared.store_fault.StoreFault.{StoreFault}
use Rattle.mds_base.specs.declared.store_fault.StoreFault.TheVariants as faults
use Rattle.mds_out.specs.Disk.{Image, Contents}
use Rattle.script.specs.declared.line.Line.{Line}
use Rattle.script.specs.declared.line.Line.TheVariants as lines
use Rattle.simulation.specs.Calls.{Serves, Restarts, IsRestartFault}
use Rattle.simulation.specs.declared.servers.Served.TheVariants as serves
use Rattle.simulation.specs.declared.servers.Restarted.TheVariants as restarts
use Rattle.simulation.specs.Runs.{RunV, GoesOn}
use Rattle.simulation.specs.Shows.{SimulationV, Shows, StandNear, StaysNear, IsServeAt, IsRestartOf, server_for, client_at, has_numbers_at}
use Rattle.simulation.specs.Shows as shown
use Rattle.world.specs.declared.event.Event.{Event}
use Rattle.world.specs.declared.event.Event.TheVariants.{Serve, Miss, Stop, Restart, Tick}
use Rattle.world.specs.declared.event.ServeEnd.TheVariants as ends
use Rattle.world.specs.declared.event.StopCause.TheVariants.{Device}
use Rattle.simulation.proofs.EventRun.{near_kind}
use Rattle.interpreter.specs.declared.interpreter.Halt.{Halt}
use Rattle.interpreter.specs.declared.interpreter.Halt.TheVariants as halts
use Rattle.interpreter.specs.EventText.{event_text, down_text}
use Rattle.interpreter.specs.Steps.{Carries, Halts, HaltsBy, HaltsLine, NamesDamage, TellsNoDamage, IsDeliveredTo, SendsFirst, PassesFirst, OrNone, IsEvent, halt_of}
use Rattle.interpreter.specs.Story.{IsBegun, IsDelivered, IsDeliveredAt, IsDelivery, IsRestarted}
use Rattle.interpreter.specs.Text.{server_line}
use Rattle.interpreter.proofs.WorldSeen.{seen_up, seen_numbers, seen_msg}
use Rattle.interpreter.proofs.EventsText.{events_first, moment_first, numbers_first, goes_one, halts_limit, halts_near, halts_unprinted}

-- what a result says may be weakened
pub on_ok : {T E P Q : Type 0} (r : Result T E) → OnOk r P → (P → Q) → OnOk r Q
on_ok (Ok x) p f = f p
on_ok (Err e) p f = tt

-- what holds in any case
pub on_any : {T E P : Type 0} (r : Result T E) → P → OnOk r P
on_any (Ok x) p = p
on_any (Err e) p = tt

pub on_err : {T E : Type 0} (P Q : E → Type 0) (r : Result T E) → IfErr r P → ((e : E) → P e → Q e) → IfErr r Q
on_err P Q (Ok x) p f = tt
on_err P Q (Err e) p f = f e p

pub is_false : (b : Bool) → (b ≡ true → ⊥) → b ≡ false
is_false true no_way = absurd (no_way refl)
is_false false no_way = refl

-- an event of this kind happened, whose line is this
pub record Did {X : Type 0} (seen : X → Contents) (images : X → Image → Type 0) (new : SimulationV X) (run : RunV) (P : List Event → Type 0) (text : List ℕ) : Type 0 where
  pub event : Event
  pub are : P (event ∷ [])
  pub goes : GoesOn run event (Shows seen images new)
  pub prints : event_text run.trace.world event ≡ text

abbrev pub Does : {X : Type 0} → (X → Contents) → (X → Image → Type 0) → SimulationV X → SimulationV X → (RunV → List Event → Type 0) → List ℕ → Type 0
Does seen images old new P text = (run : RunV) → Shows seen images old run → Did seen images new run (P run) text

-- some event of this kind comes next, and passes the limit
pub record Comes (which : Which) (run : RunV) (P : List Event → Type 0) : Type 0 where
  pub next : Event
  pub are : P (next ∷ [])
  pub passes : PassesFirst which run next

module _ {X : Type 0} (seen : X → Contents) (images : X → Image → Type 0) where
  -- ---- the ends of a call

  pub done : (old new : SimulationV X) (was now text : List ℕ) (P : RunV → List Event → Type 0) → Does seen images old new P text → now ≡ was ++ text → Carries seen images old new was now P
  done old new was now text P does is run shows =
      let d = does run shows in
      record { events = d.event ∷ []; are = d.are; goes = goes_one seen images new was now run d.event d.goes (is ∙ ap (λ l. was ++ l) (sym d.prints)) }

  pub done_silently : (old new : SimulationV X) (was now : List ℕ) (P : RunV → List Event → Type 0) → Does seen images old new P [] → now ≡ was → Carries seen images old new was now P
  done_silently old new was now P does is = done old new was now [] P does (is ∙ sym (append-nil was))

  -- .. where the line was printed behind the event, or there was no memory for it
  pub done_printed : (old mid new : SimulationV X) (was now text : List ℕ) (P : RunV → List Event → Type 0) → new ≡ mid → Does seen images old mid P text → now ≡ was ++ text → Carries seen images old new was now P
  done_printed old mid new was now text P same does is = subst (λ s. Carries seen images old s was now P) (sym same) (done old mid was now text P does is)

  unprinted : (old new : SimulationV X) (was now text : List ℕ) (P : RunV → List Event → Type 0) → Does seen images old new P text → now ≡ was → Halts seen images old new was now (OrNone P) halts.OutOfMemory
  unprinted old new was now text P does same = record {
    sound = tt;
    runs = λ run shows.
        let d = does run shows in
        halts_unprinted seen images new was now run (OrNone P run) d.event d.goes same (inr d.are);
  }

  pub not_printed : (old mid new : SimulationV X) (was now text : List ℕ) (P : RunV → List Event → Type 0) → new ≡ mid → Does seen images old mid P text → now ≡ was → Halts seen images old new was now (OrNone P) halts.OutOfMemory
  not_printed old mid new was now text P same does is = subst (λ s. Halts seen images old s was now (OrNone P) halts.OutOfMemory) (sym same) (unprinted old mid was now text P does is)

  pub refused : (old new : SimulationV X) (was now : List ℕ) (P : RunV → List Event → Type 0) (R : Event → Type 0) → StaysNear seen images old new R → ((run : RunV) → Shows seen images old run → (event : Event) → R event → P run (event ∷ []))
      → new.setup ≡ old.setup → now ≡ was → Halts seen images old new was now (OrNone P) halts.OutOfMemory
  refused old new was now P R near lift setup same = record {
    sound = tt;
    runs = λ run shows.
        halts_near seen images new was now run (OrNone P run) halts.OutOfMemory shows.few
        (subst (λ s. StandNear seen images s new.stores (λ e. OrNone P run (e ∷ [])) run) (sym setup)
        (near_kind seen images old.setup new.stores R (λ e. OrNone P run (e ∷ [])) run (λ e may is. inr (lift run shows e is)) (near run shows))) same (inl refl) tt;
  }

  pub limited : (sim : SimulationV X) (pending : List ℕ) (P : RunV → List Event → Type 0) (which : Which) → ((run : RunV) → Shows seen images sim run → Comes which run (P run)) → Halts seen images sim sim pending pending (OrNone P) (halts.Limit which)
  limited sim pending P which comes = record {
    sound = tt;
    runs = λ run shows.
        let next = comes run shows in
        halts_limit seen images sim pending pending run (OrNone P run) which next.next shows refl (inl refl) (inr next.are) next.passes;
  }

  -- the limit of events, where each run that is shown has some event that comes next
  pub full : (sim : SimulationV X) (pending : List ℕ) (P : RunV → List Event → Type 0) (halt : Halt) → (halt ≡ halts.Limit limits.Events) × (EVENTS ≤ sim.count) → ((run : RunV) → Shows seen images sim run → (event : Event) × P run (event ∷ []))
      → Halts seen images sim sim pending pending (OrNone P) halt
  full sim pending P halt is next =
      subst (Halts seen images sim sim pending pending (OrNone P)) (sym is.0)
      (limited sim pending P limits.Events (λ run shows. record { next = (next run shows).0; are = (next run shows).1; passes = events_first run (next run shows).0 (subst (λ n. EVENTS ≤ n) (sym shows.count) is.1) }))

  pub full_event : (sim : SimulationV X) (pending : List ℕ) (event : Event) (halt : Halt) → (halt ≡ halts.Limit limits.Events) × (EVENTS ≤ sim.count) → Halts seen images sim sim pending pending (OrNone (IsEvent event)) halt
  full_event sim pending event halt is = full sim pending (IsEvent event) halt is (λ run shows. (event, refl))

  -- ---- what events happened

  pub does_event : (old new : SimulationV X) (event : Event) (text : List ℕ) → shown.Happens seen images old new event → ((run : RunV) → Shows seen images old run → event_text run.trace.world event ≡ text) → Does seen images old new (IsEvent event) text
  does_event old new event text happens prints run shows = record { event = event; are = refl; goes = happens run shows; prints = prints run shows }

  is_more : (a b m n : ℕ) → a ≡ m → b ≡ n → m < n → nat_lt a b ≡ true
  is_more a b m n e f lt = grind (arith, nat_tests)

  no_more : (a b m : ℕ) → a ≡ m → b ≡ m → nat_lt a b ≡ false
  no_more a b m e f = grind (arith, nat_tests)

  module _ (old new : SimulationV X) (server message : ℕ) (run : RunV) (shows : Shows seen images old run) (for : server_for (slice_get old.sent message) ≡ Some server) where
    for_world : server_for (slice_get run.trace.world.sent message) ≡ Some server
    for_world = ap server_for (sym (seen_msg seen images old run shows message)) ∙ for

    delivered_as : (up : Bool) (event : Event) → shown.is_up old server ≡ up → IsDeliveredAt message server up event → IsDelivered run.trace.world message event
    delivered_as up event is how = record { server = server; is = for_world; how = subst (λ b. IsDeliveredAt message server b event) (sym (seen_up seen images old run shows server ∙ is)) how }

    sends_some : (event : Event) → GoesOn run event (Shows seen images new) → length old.sent + 1 ≤ length new.sent → (first : ℕ) → first ≡ length old.sent → SendsFirst run.trace.world event (Some first)
    sends_some event goes more first is =
        (is_more _ _ (length old.sent) (length new.sent) (ap length shows.sent) (ap length goes.then.sent) (omega (arith, more)), is ∙ ap length (sym shows.sent))

    sends_none : (event : Event) → GoesOn run event (Shows seen images new) → new.sent ≡ old.sent → SendsFirst run.trace.world event None
    sends_none event goes same = no_more _ _ (length old.sent) (ap length shows.sent) (ap length goes.then.sent ∙ ap length same)

    delivers : (up : Bool) (event : Event) (first : Option ℕ) (text : List ℕ) → shown.is_up old server ≡ up → IsDeliveredAt message server up event → GoesOn run event (Shows seen images new) → SendsFirst run.trace.world event first → event_text run.trace.world event ≡ text
        → Did seen images new run (IsDeliveredTo message first run) text
    delivers up event first text is how goes sent prints =
        record { event = event; are = record { event = event; one = refl; delivered = delivered_as up event is how; sends' = sent }; goes = goes; prints = prints }

    serve_delivery : shown.is_up old server ≡ true → IsDelivery run message (Serve server (message ∷ []) ends.Done ∷ [])
    serve_delivery up = (Serve server (message ∷ []) ends.Done, refl, delivered_as true (Serve server (message ∷ []) ends.Done) up (inl refl))

    next_serve : shown.is_up old server ≡ true → (event : Event) × IsDelivery run message (event ∷ [])
    next_serve up = (Serve server (message ∷ []) ends.Done, serve_delivery up)

    next_miss : shown.is_up old server ≡ false → (event : Event) × IsDelivery run message (event ∷ [])
    next_miss down = (Miss message, (Miss message, refl, delivered_as false (Miss message) down refl))

    few_numbers : old.count < EVENTS → shown.is_up old server ≡ true → has_numbers_at old server ≡ false → Comes limits.Directories run (IsDelivery run message)
    few_numbers room up few = record {
      next = Serve server (message ∷ []) ends.Done;
      are = serve_delivery up;
      passes = numbers_first run (subst (λ n. n < EVENTS) (sym shows.count) room) server (message ∷ []) ends.Done
          (seen_up seen images old run shows server ∙ up, seen_numbers seen images old run shows server up ∙ few);
    }

    miss_text : event_text run.trace.world (Miss message) ≡ server_line (codes "down ") server
    miss_text = ap down_text for_world

  module _ (old new : SimulationV X) (server message : ℕ) (for : server_for (slice_get old.sent message) ≡ Some server) where
    pub answered_does : (first : ℕ) → shown.is_up old server ≡ true → Serves seen images old new server message (serves.Answered first) → Does seen images old new (IsDeliveredTo message (Some first)) []
    answered_does first up s run shows =
        delivers old new server message run shows for true (Serve server (message ∷ []) ends.Done) (Some first) [] up (inl refl) (s.0 run shows)
        (sends_some old new server message run shows for (Serve server (message ∷ []) ends.Done) (s.0 run shows) s.2 first s.1) refl

    pub silent_does : shown.is_up old server ≡ true → Serves seen images old new server message serves.Silent → Does seen images old new (IsDeliveredTo message None) []
    silent_does up s run shows =
        delivers old new server message run shows for true (Serve server (message ∷ []) ends.Done) None [] up (inl refl) (s.0 run shows)
        (sends_none old new server message run shows for (Serve server (message ∷ []) ends.Done) (s.0 run shows) s.1) refl

    pub stopped_does : shown.is_up old server ≡ true → Serves seen images old new server message serves.Stopped → Does seen images old new (IsDeliveredTo message None) (server_line (codes "stopped ") server)
    stopped_does up s run shows =
        delivers old new server message run shows for true (Serve server (message ∷ []) ends.Stop) None (server_line (codes "stopped ") server) up (inr (inl refl)) (s.0 run shows)
        (sends_none old new server message run shows for (Serve server (message ∷ []) ends.Stop) (s.0 run shows) s.1) refl

    pub missed_does : (shown.is_up old server ≡ true → ⊥) → shown.Happens seen images old new (Miss message) → new ≡ record old { count = old.count + 1 } → Does seen images old new (IsDeliveredTo message None) (server_line (codes "down ") server)
    missed_does down happens after run shows =
        delivers old new server message run shows for false (Miss message) None (server_line (codes "down ") server) (is_false (shown.is_up old server) down) refl (happens run shows)
        (sends_none old new server message run shows for (Miss message) (happens run shows) (ap (λ (s : SimulationV X). s.sent) after)) (miss_text old new server message run shows for)

  -- the one event more of a Serve or a restart that was refused for want of memory is of its kind
  pub serve_kind : (sim : SimulationV X) (server message : ℕ) → server_for (slice_get sim.sent message) ≡ Some server → shown.is_up sim server ≡ true
      → (run : RunV) → Shows seen images sim run → (event : Event) → IsServeAt server message event → IsDelivery run message (event ∷ [])
  serve_kind sim server message for up run shows event is = (event, refl, delivered_as sim sim server message run shows for true event up (how is))
    where
      how : IsServeAt server message event → IsDeliveredAt message server true event
      how (inl done) = inl done
      how (inr stopped) = inr (inl stopped)

  pub restart_kind : (sim : SimulationV X) (server : ℕ) (run : RunV) → Shows seen images sim run → (event : Event) → IsRestartOf server event → IsRestarted server (event ∷ [])
  restart_kind sim server run shows event is = inl (is.0, ap (λ e. e ∷ []) is.1)

  pub delivery : (old new : SimulationV X) (message : ℕ) (first : Option ℕ) (text : List ℕ) → Does seen images old new (IsDeliveredTo message first) text → Does seen images old new (λ run. IsDelivery run message) text
  delivery old new message first text does run shows =
      let d = does run shows in
      record { event = d.event; are = (d.are.event, d.are.one, d.are.delivered); goes = d.goes; prints = d.prints }

  -- the limits of a delivery

  pub full_serve : (sim : SimulationV X) (pending : List ℕ) (server message : ℕ) (halt : Halt) → server_for (slice_get sim.sent message) ≡ Some server → shown.is_up sim server ≡ true → (halt ≡ halts.Limit limits.Events) × (EVENTS ≤ sim.count)
      → Halts seen images sim sim pending pending (OrNone (λ run. IsDelivery run message)) halt
  full_serve sim pending server message halt for up is = full sim pending (λ run. IsDelivery run message) halt is (λ run shows. next_serve sim sim server message run shows for up)

  pub full_miss : (sim : SimulationV X) (pending : List ℕ) (server message : ℕ) (halt : Halt) → server_for (slice_get sim.sent message) ≡ Some server → (shown.is_up sim server ≡ true → ⊥) → (halt ≡ halts.Limit limits.Events) × (EVENTS ≤ sim.count)
      → Halts seen images sim sim pending pending (OrNone (λ run. IsDelivery run message)) halt
  full_miss sim pending server message halt for down is = full sim pending (λ run. IsDelivery run message) halt is (λ run shows. next_miss sim sim server message run shows for (is_false (shown.is_up sim server) down))

  pub full_numbers : (sim : SimulationV X) (pending : List ℕ) (server message : ℕ) → sim.count < EVENTS → server_for (slice_get sim.sent message) ≡ Some server → shown.is_up sim server ≡ true → has_numbers_at sim server ≡ false
      → Halts seen images sim sim pending pending (OrNone (λ run. IsDelivery run message)) (halts.Limit limits.Directories)
  full_numbers sim pending server message room for up few = limited sim pending (λ run. IsDelivery run message) limits.Directories (λ run shows. few_numbers sim sim server message run shows for room up few)

  -- the limit of the moment

  pub full_moment : (sim : SimulationV X) (pending : List ℕ) (by : ℕ) → sim.count < EVENTS → MOMENTS ≤ sim.moment + by → Halts seen images sim sim pending pending (OrNone (IsEvent (Tick by))) (halts.Limit limits.Moment)
  full_moment sim pending by room past = limited sim pending (IsEvent (Tick by)) limits.Moment (λ run shows. record { next = Tick by; are = refl; passes = moment_first run (subst (λ n. n < EVENTS) (sym shows.count) room) by (subst (λ n. MOMENTS ≤ n + by) (sym shows.moment) past) })

  -- a restart

  pub restarted_does : (old new : SimulationV X) (server : ℕ) → Restarts seen images old new server restarts.Up → Does seen images old new (λ run. IsRestarted server) []
  restarted_does old new server r run shows = record { event = Restart server (r run shows).0; are = inl ((r run shows).0, refl); goes = (r run shows).1; prints = refl }

  pub unrestarted_does : (old new : SimulationV X) (server : ℕ) → Restarts seen images old new server restarts.Stopped → Does seen images old new (λ run. IsRestarted server) (server_line (codes "stopped ") server)
  unrestarted_does old new server r run shows = record { event = Stop server Device; are = inr refl; goes = r run shows; prints = refl }

  pub full_restart : (sim : SimulationV X) (pending : List ℕ) (server : ℕ) (halt : Halt) → (halt ≡ halts.Limit limits.Events) × (EVENTS ≤ sim.count) → Halts seen images sim sim pending pending (OrNone (λ run. IsRestarted server)) halt
  full_restart sim pending server halt is = full sim pending (λ run. IsRestarted server) halt is (λ run shows. (Restart server 0, inl (0, refl)))

  -- a line was halted without damage
  pub halts_line : (old new : SimulationV X) (was now : List ℕ) (line : Line) (halt : Halt) → Halts seen images old new was now (λ run. IsBegun run line) halt → HaltsLine seen images old new was now line halt
  halts_line old new was now line halt h = record { runs = h.runs; found = none halt h.sound }
    where
      none : (halt : Halt) → TellsNoDamage halt → NamesDamage seen new line halt
      none (halts.Limit which) sound = tt
      none (halts.Damaged server file offset damage) sound = absurd sound
      none halts.OutOfMemory sound = tt

  pub halts_at : {T : Type 0} (result : Result T Halt) (old new : SimulationV X) (was now : List ℕ) (line at : Line) → line ≡ at → IfErr result (Halts seen images old new was now (λ run. IsBegun run at)) → IfErr result (HaltsLine seen images old new was now line)
  halts_at (Ok x) old new was now line at is h = tt
  halts_at (Err halt) old new was now line at is h = subst (λ l. HaltsLine seen images old new was now l halt) (sym is) (halts_line old new was now at halt h)

  -- a fault of a restart is want of memory, where a run is shown
  found_of : (new : SimulationV X) (server : ℕ) (fault : StoreFault) → IsRestartFault seen new server fault → NamesDamage seen new (lines.Restart server) (halt_of server fault)
  found_of new server faults.Device found = tt
  found_of new server faults.Stopped found = tt
  found_of new server (faults.Damaged file offset damage) found = (refl, found)
  found_of new server faults.Room found = tt
  found_of new server faults.OutOfMemory found = tt

  pub faulted : (old new : SimulationV X) (was now : List ℕ) (server : ℕ) (fault : StoreFault) (R : Event → Type 0) → StaysNear seen images old new R → ((run : RunV) → Shows seen images old run → (event : Event) → R event → IsRestarted server (event ∷ [])) → new.setup ≡ old.setup → now ≡ was
      → ((run : RunV) → Shows seen images old run → fault ≡ faults.OutOfMemory) → IsRestartFault seen new server fault → HaltsLine seen images old new was now (lines.Restart server) (halt_of server fault)
  faulted old new was now server fault R near lift setup same memory found = record {
    found = found_of new server fault found;
    runs = λ run shows.
        subst (HaltsBy seen images new was now run (IsBegun run (lines.Restart server))) (sym (ap (halt_of server) (memory run shows)))
        ((refused old new was now (λ run. IsRestarted server) R near lift setup same).runs run shows);
  }

-- A simulation shows a run with one event more.
use Rattle.std.proofs.Common.{◌≡◌, ◌∙◌, sym, ap, subst, refl, ℕ, ◌+◌, ◌<◌, ◌≤◌, true, false, List, [], ◌∷◌, ◌++◌, length, inl, inr, arith}
use Rattle.std.specs.Prelude.{map as list_map}
use Rattle.std.proofs.lemmas.List.{length-append}
use Rattle.std.proofs.lemmas.Bool.{lt-ltb}
use Rattle.mds_base.specs.declared.limits.TheConstants.{EVENTS, MOMENTS}
use Rattle.mds_base.specs.declared.setup.Setup.{Setup}
use Rattle.mds_out.specs.Disk.{Image, Contents}
use Rattle.world.specs.declared.event.Event.{Event}
use Rattle.world.specs.declared.event.Event.TheVariants.{Tick}
use Rattle.world.specs.Events.{enabled, step}
use Rattle.world.specs.declared.state.ServerState.{ServerState}
use Rattle.world.specs.Histories.{History, note, weight, weighed, is_taken}
use Rattle.world.specs.Worlds.{WorldV}
use Rattle.simulation.specs.Moves.{ticked}
use Rattle.message_store.specs.declared.made.Made.{Made}
use Rattle.simulation.specs.Runs.{RunV, GoesOn, names}
use Rattle.node_store.specs.Store.{Store}
use Rattle.simulation.specs.Shows.{SimulationV, Shows, Happens, StandNear, StaysNear, made_of}
use Rattle.pasts.specs.Servers.{AreServers}
use Rattle.simulation.proofs.MessagesNamed.{await_same, still_named}

-- the run with one event more, which led to this world and this history
abbrev pub stepped : RunV → Event → WorldV → History → RunV
stepped run event w h = record { trace = record { world = w; past = weighed (weight event) h }; events = run.events ++ event ∷ [] }

pub goes_on : (run : RunV) (event : Event) (w : WorldV) (h : History) (P : RunV → Type 0) → enabled run.trace.world event ≡ true → step run.trace.world event ≡ w → note run.trace.world run.trace.past event ≡ h
    → P (stepped run event w h) → GoesOn run event P
goes_on run event w h P may world past holds = record {
  may = may;
  then = subst (λ v. P (stepped run event v (note run.trace.world run.trace.past event))) (sym world) (subst (λ g. P (stepped run event w g)) (sym past) holds);
}

pub one_longer : (events : List Event) (event : Event) (count : ℕ) → length events ≡ count → length (events ++ event ∷ []) ≡ count + 1
one_longer events event count e = length-append events (event ∷ []) ∙ ap (λ n. n + 1) e

pub still_few : (events : List Event) (event : Event) (count : ℕ) → length events ≡ count → count < EVENTS → length (events ++ event ∷ []) ≤ EVENTS
still_few events event count e room = let n = one_longer events event count e in omega (arith, n, room)

-- with an event that names no message and by which none is sent, where these are the moment, the servers and the entries then
module _ {X : Type 0} (seen : X → Contents) (images : X → Image → Type 0) (old : SimulationV X) (run : RunV) (shows : Shows seen images old run) (room : old.count < EVENTS) where
  pub quiet_shows : (event : Event) → ((k : ℕ) → names k event ≡ false) → (now moment : ℕ) → now ≡ moment → (servers : List ServerState) (stores : List (Store X)) → AreServers seen images old.setup stores servers
      → (h : History) (made : List Made) → list_map made_of h.made ≡ made → h.answered ≡ run.trace.past.answered
      → Shows seen images (record old { moment = moment; count = old.count + 1; stores = stores; made = made }) (stepped run event (record run.trace.world { now = now; servers = servers }) h)
  quiet_shows event unnamed now moment same servers stores are h made entries answered = record {
    setup = shows.setup;
    moment = same;
    count = one_longer run.events event old.count shows.count;
    few = still_few run.events event old.count shows.count room;
    servers = are;
    clients = shows.clients;
    going_on = shows.going_on;
    sent = shows.sent;
    named = still_named old.waiting old.sent run.events shows.waiting shows.named event unnamed;
    waiting = await_same old.waiting old.sent run.events shows.waiting shows.named event unnamed;
    made = entries;
    taken = λ q. shows.taken q ∙ sym (ap (λ a. is_taken a q) answered);
  }

module _ {X : Type 0} (seen : X → Contents) (images : X → Image → Type 0) where
  -- from the parts of a simulation to its value
  pub happens_from : (was old new : SimulationV X) (event : Event) → was ≡ old → Happens seen images was new event → Happens seen images old new event
  happens_from was old new event same happens = subst (λ (v : SimulationV X). Happens seen images v new event) same happens

  -- a refused call that left the servers leaves them near the run
  pub stays_near : (old new : SimulationV X) (P : Event → Type 0) → new.stores ≡ old.stores → StaysNear seen images old new P
  stays_near old new P same run shows = inl (subst (λ (l : List (Store X)). AreServers seen images old.setup l run.trace.world.servers) (sym same) shows.servers)

  -- an event of one kind may be one of another
  pub near_kind : (setup : Setup) (stores : List (Store X)) (P Q : Event → Type 0) (run : RunV) → ((event : Event) → enabled run.trace.world event ≡ true → P event → Q event)
      → StandNear seen images setup stores P run → StandNear seen images setup stores Q run
  near_kind setup stores P Q run lift (inl servers) = inl servers
  near_kind setup stores P Q run lift (inr after) = inr (record { event = after.event; is = lift after.event after.goes.may after.is; goes = after.goes; few = after.few })

  pub tick_happens : (old : SimulationV X) (by : ℕ) → old.count < EVENTS → old.moment + by < MOMENTS → Happens seen images old (ticked old by) (Tick by)
  tick_happens old by room below run shows =
      goes_on run (Tick by) (record run.trace.world { now = run.trace.world.now + by }) run.trace.past (Shows seen images (ticked old by))
      (lt-ltb (run.trace.world.now + by) MOMENTS (subst (λ n. n + by < MOMENTS) (sym shows.moment) below)) refl refl
      (quiet_shows seen images old run shows room (Tick by) (λ k. refl) (run.trace.world.now + by) (old.moment + by) (ap (λ n. n + by) shows.moment) run.trace.world.servers old.stores shows.servers run.trace.past old.made shows.made refl)

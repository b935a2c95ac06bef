-- Runs with one event more.
use Rattle.std.proofs.Common.{◌≡◌, ◌∙◌, sym, ap, subst, refl, ℕ, ◌+◌, ◌<◌, ◌≤◌, true, false, List, [], ◌∷◌, ◌++◌, length, get_or, take, arith}
use Rattle.std.specs.FinMap as map
use Rattle.std.proofs.lemmas.Bool.{and_parts, and_from}
use Rattle.std.proofs.lemmas.List.{take_more, take_all}
use Rattle.std.proofs.lemmas.Option.{slice_get_read}
use Rattle.mds_base.specs.declared.setup.Setup.{Setup}
use Rattle.world.specs.declared.event.Event.{Event}
use Rattle.world.specs.Worlds.{WorldV, fresh_world, new_world}
use Rattle.world.specs.Events.{enabled, step, steps, all_enabled}
use Rattle.world.specs.Histories.{Trace, happens, run}
use Rattle.world.specs.Law.{start_trace, new_servers}
use Rattle.world.specs.Runs.{ComesTo, LeadsOn, new_run, RunsWhole, StopsAt}
use Rattle.world.proofs.Theorem.{holds_of_runs}

pub run_world : (events : List Event) (t : Trace) → (run t events).world ≡ steps t.world events
run_world [] t = refl
run_world (event ∷ events) t = run_world events (happens t event)

pub steps_more : (events : List Event) (w : WorldV) (event : Event) → steps w (events ++ event ∷ []) ≡ step (steps w events) event
steps_more [] w event = refl
steps_more (first ∷ events) w event = steps_more events (step w first) event

pub enabled_more : (events : List Event) (w : WorldV) (event : Event) → all_enabled w events ≡ true → enabled (steps w events) event ≡ true → all_enabled w (events ++ event ∷ []) ≡ true
enabled_more [] w event all can = and_from (enabled w event) true can refl
enabled_more (first ∷ events) w event all can =
    let c = and_parts (enabled w first) (all_enabled (step w first) events) all in
    and_from (enabled w first) (all_enabled (step w first) (events ++ event ∷ [])) c.0 (enabled_more events (step w first) event c.1 can)

pub leads_on : (before : WorldV) (event : Event) (next : WorldV) → 1 ≤ before.setup.servers → enabled before event ≡ true → next ≡ step before event → LeadsOn before event next
leads_on before event next some can is past servers entries reached events all there =
    let more : List Event = events ++ event ∷ [] in
    let start : WorldV = fresh_world before.setup servers in
    let still : enabled (steps start events) event ≡ true = subst (λ w. enabled w event ≡ true) (sym there) can in
    record {
      world = run_world more (start_trace before.setup servers entries) ∙ steps_more events start event ∙ ap (λ w. step w event) there ∙ sym is;
      holds = holds_of_runs before.setup (omega (arith, some)) past servers entries reached more (enabled_more events start event all still);
    }

pub holds_whole : (setup : Setup) (events : List Event) (w : WorldV) → 1 ≤ setup.servers → RunsWhole setup events w → ComesTo (new_run setup events) w
holds_whole setup events w some whole = record {
  world = run_world events (start_trace setup (new_servers setup) map.empty) ∙ sym whole.world;
  holds = holds_of_runs setup (omega (arith, some)) [] (new_servers setup) map.empty (refl, refl) events whole.enabled';
}

-- The loop over the events

module _ (setup : Setup) (events : List Event) (k : ℕ) (w : WorldV) (enabled' : all_enabled (new_world setup) (take k events) ≡ true) (world' : w ≡ steps (new_world setup) (take k events)) where
  module _ (event : Event) (below : k < length events) (read : event ≡ get_or events k event) where
    more : take (k + 1) events ≡ take k events ++ event ∷ []
    more = take_more events k event below ∙ ap (λ x. take k events ++ x ∷ []) (sym read)

    pub still_enabled : enabled w event ≡ true → all_enabled (new_world setup) (take (k + 1) events) ≡ true
    still_enabled can =
        ap (all_enabled (new_world setup)) more ∙ enabled_more (take k events) (new_world setup) event enabled' (subst (λ x. enabled x event ≡ true) world' can)

    pub still_steps : (next : WorldV) → next ≡ step w event → next ≡ steps (new_world setup) (take (k + 1) events)
    still_steps next is =
        is ∙ ap (λ x. step x event) world' ∙ sym (steps_more (take k events) (new_world setup) event) ∙ ap (steps (new_world setup)) (sym more)

    pub stops_at : enabled w event ≡ false → StopsAt setup events k
    stops_at refused = record {
      before = enabled';
      event = event;
      there = slice_get_read events (length events) k event refl below read;
      refused = subst (λ x. enabled x event ≡ false) world' refused;
    }

  pub runs_whole : length events ≤ k → RunsWhole setup events w
  runs_whole past =
      let all : take k events ≡ events = take_all k events past in
      record { enabled' = subst (λ es. all_enabled (new_world setup) es ≡ true) all enabled'; world = world' ∙ ap (steps (new_world setup)) all }

-- Rounds of events, one after another.
use Rattle.std.proofs.Common.{◌≡◌, ◌∙◌, sym, subst, refl, ℕ, ◌+◌, ◌<◌, ◌≤◌, List, [], ◌∷◌, ◌++◌, length, append_assoc, arith}
use Rattle.std.proofs.lemmas.List.{length-append}
use Rattle.mds_base.specs.declared.limits.TheConstants.{EVENTS}
use Rattle.mds_base.specs.declared.setup.Which.TheVariants as limits
use Rattle.mds_out.specs.Disk.{Image, Contents}
use Rattle.simulation.specs.Runs.{RunV}
use Rattle.simulation.specs.Shows.{SimulationV, Shows}
use Rattle.world.specs.declared.event.Event.{Event}
use Rattle.interpreter.specs.declared.interpreter.Halt.{Halt}
use Rattle.interpreter.specs.declared.interpreter.Halt.TheVariants as halts
use Rattle.interpreter.specs.Steps.{Goes, GoesBy, HaltsBy}
use Rattle.interpreter.specs.Story.{grown_by}
use Rattle.interpreter.proofs.EventsText.{grown_append, grown_length, events_first, goes_none, goes_join, by_join, halts_behind, halts_limit}

-- After so many rounds events happened, at least one each; what ends from here on ends the whole, and what begins from
-- here on begins it.
pub record SoFar {X : Type 0} (seen : X → Contents) (images : X → Image → Type 0) (new : SimulationV X) (was now : List ℕ) (run : RunV) (rounds : ℕ) (Ends Begins : List Event → Type 0) (Ends' Begins' : RunV → List Event → Type 0) : Type 0 where
  pub events : List Event
  pub goes : Goes seen images new was now run events
  pub long : rounds ≤ length events
  pub ends : (more : List Event) → Ends' (grown_by run events) more → Ends (events ++ more)
  pub begins : (more : List Event) → Begins' (grown_by run events) more → Begins (events ++ more)

-- one round from a run on
pub record Round {X : Type 0} (seen : X → Contents) (images : X → Image → Type 0) (new : SimulationV X) (was now : List ℕ) (run : RunV) (Ends Begins Ends' Begins' : RunV → List Event → Type 0) : Type 0 where
  pub events : List Event
  pub goes : Goes seen images new was now run events
  pub some : 1 ≤ length events
  pub ends : (more : List Event) → Ends' (grown_by run events) more → Ends run (events ++ more)
  pub begins : (more : List Event) → Begins' (grown_by run events) more → Begins run (events ++ more)

module _ {X : Type 0} (seen : X → Contents) (images : X → Image → Type 0) where
  pub so_far_none : (sim : SimulationV X) (pending : List ℕ) (run : RunV) (Ends Begins : RunV → List Event → Type 0) → Shows seen images sim run → SoFar seen images sim pending pending run 0 (Ends run) (Begins run) Ends Begins
  so_far_none sim pending run Ends Begins shows =
      record { events = []; goes = goes_none seen images sim pending pending run shows refl; long = omega arith; ends = λ more is. is; begins = λ more is. is }

  longer : (k : ℕ) (events more : List Event) → k ≤ length events → 1 ≤ length more → k + 1 ≤ length (events ++ more)
  longer k events more long some = let both = length-append events more in omega (arith, both)

  pub so_far_more : (mid new : SimulationV X) (was at now : List ℕ) (run : RunV) (k : ℕ) (Ends Begins : List Event → Type 0) (Ends' Begins' Ends'' Begins'' : RunV → List Event → Type 0)
      → (s : SoFar seen images mid was at run k Ends Begins Ends' Begins') → Round seen images new at now (grown_by run s.events) Ends' Begins' Ends'' Begins''
      → SoFar seen images new was now run (k + 1) Ends Begins Ends'' Begins''
  so_far_more mid new was at now run k Ends Begins Ends' Begins' Ends'' Begins'' s r = record {
    events = s.events ++ r.events;
    goes = goes_join seen images mid new was at now run s.events r.events s.goes r.goes;
    long = longer k s.events r.events s.long r.some;
    ends = λ more is. subst Ends (sym (append_assoc s.events r.events more)) (s.ends (r.events ++ more) (r.ends more (subst (λ g. Ends'' g more) (grown_append run s.events r.events) is)));
    begins = λ more is. subst Begins (sym (append_assoc s.events r.events more)) (s.begins (r.events ++ more) (r.begins more (subst (λ g. Begins'' g more) (grown_append run s.events r.events) is)));
  }

  pub so_far_ends : (mid new : SimulationV X) (was at now : List ℕ) (run : RunV) (k : ℕ) (Ends Begins : List Event → Type 0) (Ends' Begins' : RunV → List Event → Type 0)
      → (s : SoFar seen images mid was at run k Ends Begins Ends' Begins') → GoesBy seen images new at now (grown_by run s.events) (Ends' (grown_by run s.events)) → GoesBy seen images new was now run Ends
  so_far_ends mid new was at now run k Ends Begins Ends' Begins' s g = by_join seen images mid new was at now run s.events (Ends' (grown_by run s.events)) Ends s.goes s.ends g

  pub so_far_halts : (mid new : SimulationV X) (was at now : List ℕ) (run : RunV) (k : ℕ) (Ends Begins : List Event → Type 0) (Ends' Begins' : RunV → List Event → Type 0) (halt : Halt)
      → (s : SoFar seen images mid was at run k Ends Begins Ends' Begins') → HaltsBy seen images new at now (grown_by run s.events) (Begins' (grown_by run s.events)) halt → HaltsBy seen images new was now run Begins halt
  so_far_halts mid new was at now run k Ends Begins Ends' Begins' halt s h =
      halts_behind seen images mid new was at now run s.events (Begins' (grown_by run s.events)) Begins halt s.goes s.begins h

  many : (k a b : ℕ) → EVENTS ≤ k → k ≤ b → EVENTS ≤ a + b
  many k a b e f = omega arith

  -- after as many rounds as a run has events, where some event would come next
  pub so_far_full : (sim : SimulationV X) (was now : List ℕ) (run : RunV) (k : ℕ) (Ends Begins : List Event → Type 0) (Ends' Begins' : RunV → List Event → Type 0) → EVENTS ≤ k
      → (s : SoFar seen images sim was now run k Ends Begins Ends' Begins') → Begins' (grown_by run s.events) [] → (next : Event) → Begins' (grown_by run s.events) (next ∷ []) → HaltsBy seen images sim was now run Begins (halts.Limit limits.Events)
  so_far_full sim was now run k Ends Begins Ends' Begins' enough s none next comes =
      so_far_halts sim sim was now now run k Ends Begins Ends' Begins' (halts.Limit limits.Events) s
      (halts_limit seen images sim now now (grown_by run s.events) (Begins' (grown_by run s.events)) limits.Events next s.goes.shows refl none comes
      (events_first (grown_by run s.events) next (subst (λ n. EVENTS ≤ n) (sym (grown_length run s.events)) (many k (length run.events) (length s.events) enough s.long))))

  crowded : (k a b c : ℕ) → EVENTS < k → k ≤ b → a + b ≡ c → c ≤ EVENTS → ⊥
  crowded k a b c e f g h = omega arith

  -- a run has no more events than it may have
  pub so_far_crowded : (sim : SimulationV X) (was now : List ℕ) (run : RunV) (k : ℕ) (Ends Begins : List Event → Type 0) (Ends' Begins' : RunV → List Event → Type 0) → EVENTS < k → sim.count ≤ EVENTS
      → SoFar seen images sim was now run k Ends Begins Ends' Begins' → ⊥
  so_far_crowded sim was now run k Ends Begins Ends' Begins' enough few s =
      crowded k (length run.events) (length s.events) sim.count enough s.long (sym (grown_length run s.events) ∙ s.goes.shows.count) few

-- Events that happen one after another, and their text.
use Rattle.std.proofs.Common.{◌≡◌, ◌∙◌, sym, ap, subst, refl, ℕ, ◌+◌, ◌<◌, ◌≤◌, true, List, [], ◌∷◌, ◌++◌, length, inl, append_assoc, arith}
use Rattle.std.proofs.lemmas.Bool.{and_parts, and_from}
use Rattle.std.proofs.lemmas.List.{append-nil, length-append}
use Rattle.mds_base.specs.declared.limits.TheConstants.{EVENTS}
use Rattle.mds_base.specs.declared.setup.Which.{Which}
use Rattle.mds_base.specs.declared.setup.Which.TheVariants as limits
use Rattle.mds_out.specs.Disk.{Image, Contents}
use Rattle.simulation.specs.Runs.{RunV, GoesOn, grown}
use Rattle.simulation.specs.Shows.{SimulationV, Shows, StandNear}
use Rattle.world.specs.declared.event.Event.{Event}
use Rattle.world.specs.declared.event.Event.TheVariants.{Serve, Tick}
use Rattle.world.specs.declared.event.ServeEnd.{ServeEnd}
use Rattle.world.specs.Events.{enabled}
use Rattle.simulation.proofs.EventRun.{near_kind}
use Rattle.interpreter.specs.declared.interpreter.Halt.{Halt}
use Rattle.interpreter.specs.declared.interpreter.Halt.TheVariants as halts
use Rattle.interpreter.specs.EventText.{event_text, events_text}
use Rattle.interpreter.specs.Steps.{Goes, GoesBy, HaltsBy, HaltsAt, Passes, PassesFirst, PutsFront, rank}
use Rattle.interpreter.specs.Story.{grown_by, all_may}

-- ---- events, and events after them

pub grown_append : (run : RunV) (events more : List Event) → grown_by run (events ++ more) ≡ grown_by (grown_by run events) more
grown_append run [] more = refl
grown_append run (event ∷ events) more = grown_append (grown run event) events more

pub may_append : (run : RunV) (events more : List Event) → all_may run events ≡ true → all_may (grown_by run events) more ≡ true → all_may run (events ++ more) ≡ true
may_append run [] more may may' = may'
may_append run (event ∷ events) more may may' =
    let both = and_parts (enabled run.trace.world event) (all_may (grown run event) events) may in
    and_from _ _ both.0 (may_append (grown run event) events more both.1 may')

pub text_append : (run : RunV) (events more : List Event) → events_text run (events ++ more) ≡ events_text run events ++ events_text (grown_by run events) more
text_append run [] more = refl
text_append run (event ∷ events) more =
    ap (λ l. event_text run.trace.world event ++ l) (text_append (grown run event) events more)
    ∙ sym (append_assoc (event_text run.trace.world event) (events_text (grown run event) events) (events_text (grown_by (grown run event) events) more))

-- the events of a run with events more are as many more
pub grown_length : (run : RunV) (events : List Event) → length (grown_by run events).events ≡ length run.events + length events
grown_length run [] = omega arith
grown_length run (event ∷ events) =
    let one = length-append run.events (event ∷ []) in
    let more = grown_length (grown run event) events in
    omega (arith, one, more)

-- ---- the limit that is named

none_below : (n : ℕ) → n < 0 → ⊥
none_below n less = omega arith

not_below : (n : ℕ) → n < n → ⊥
not_below n less = omega arith

not_full : (n : ℕ) → n < EVENTS → EVENTS ≤ n → ⊥
not_full n room full = omega arith

-- that of events is named before all others
pub events_first : (run : RunV) (event : Event) → EVENTS ≤ length run.events → PassesFirst limits.Events run event
events_first run event full = record { passes = full; first = λ other less passes. none_below (rank other) less }

-- others are where there is room for an event
module _ (run : RunV) (room : length run.events < EVENTS) where
  pub moment_first : (by : ℕ) → Passes limits.Moment run (Tick by) → PassesFirst limits.Moment run (Tick by)
  moment_first by late = record { passes = late; first = before }
    where
      before : (other : Which) → rank other < rank limits.Moment → Passes other run (Tick by) → ⊥
      before limits.Events less passes = not_full (length run.events) room passes
      before limits.Moment less passes = not_below 1 less
      before limits.Directories less passes = passes
      before limits.Rows less passes = passes
      before limits.Lines less passes = passes

  pub numbers_first : (server : ℕ) (places : List ℕ) (how : ServeEnd) → Passes limits.Directories run (Serve server places how)
      → PassesFirst limits.Directories run (Serve server places how)
  numbers_first server places how few = record { passes = few; first = before }
    where
      before : (other : Which) → rank other < rank limits.Directories → Passes other run (Serve server places how) → ⊥
      before limits.Events less passes = not_full (length run.events) room passes
      before limits.Moment less passes = passes
      before limits.Directories less passes = not_below 2 less
      before limits.Rows less passes = passes
      before limits.Lines less passes = passes

-- ---- what was carried out

module _ {X : Type 0} (seen : X → Contents) (images : X → Image → Type 0) where
  pub goes_none : (new : SimulationV X) (was now : List ℕ) (run : RunV) → Shows seen images new run → now ≡ was → Goes seen images new was now run []
  goes_none new was now run shows same = record { may = refl; shows = shows; text = same ∙ sym (append-nil was) }

  pub goes_one : (new : SimulationV X) (was now : List ℕ) (run : RunV) (event : Event) → GoesOn run event (Shows seen images new) → now ≡ was ++ event_text run.trace.world event → Goes seen images new was now run (event ∷ [])
  goes_one new was now run event goes text = record {
    may = and_from _ _ goes.may refl;
    shows = goes.then;
    text = text ∙ ap (λ l. was ++ l) (sym (append-nil (event_text run.trace.world event)));
  }

  pub goes_join : (mid new : SimulationV X) (was at now : List ℕ) (run : RunV) (events more : List Event) → Goes seen images mid was at run events → Goes seen images new at now (grown_by run events) more
      → Goes seen images new was now run (events ++ more)
  goes_join mid new was at now run events more g h = record {
    may = may_append run events more g.may h.may;
    shows = subst (Shows seen images new) (sym (grown_append run events more)) h.shows;
    text = h.text ∙ ap (λ l. l ++ events_text (grown_by run events) more) g.text ∙ append_assoc was (events_text run events) (events_text (grown_by run events) more)
        ∙ ap (λ l. was ++ l) (sym (text_append run events more));
  }

  -- events of a kind, behind events
  pub by_join : (mid new : SimulationV X) (was at now : List ℕ) (run : RunV) (events : List Event) (P Q : List Event → Type 0) → Goes seen images mid was at run events → ((more : List Event) → P more → Q (events ++ more))
      → GoesBy seen images new at now (grown_by run events) P → GoesBy seen images new was now run Q
  by_join mid new was at now run events P Q g lift h =
      record { events = events ++ h.events; are = lift h.events h.are; goes = goes_join mid new was at now run events h.events g h.goes }

  pub by_kind : (new : SimulationV X) (was now : List ℕ) (run : RunV) (P Q : List Event → Type 0) → ((events : List Event) → P events → Q events) → GoesBy seen images new was now run P → GoesBy seen images new was now run Q
  by_kind new was now run P Q lift h = record { events = h.events; are = lift h.events h.are; goes = h.goes }

  -- ---- where it was halted

  -- a front of a later text is one of the whole
  front_behind : (was at now text more : List ℕ) → at ≡ was ++ text → PutsFront at now more → PutsFront was now (text ++ more)
  front_behind was at now text more is puts = record {
    front = text ++ puts.front;
    rest = puts.rest;
    whole = ap (λ l. text ++ l) puts.whole ∙ sym (append_assoc text puts.front puts.rest);
    pending = puts.pending ∙ ap (λ l. l ++ puts.front) is ∙ append_assoc was text puts.front;
  }

  at_behind : (mid new : SimulationV X) (was at now : List ℕ) (run : RunV) (events more : List Event) (P Q : List Event → Type 0) (halt : Halt) → Goes seen images mid was at run events → ((es : List Event) → P es → Q (events ++ es))
      → HaltsAt seen images new at now (grown_by run events) more P halt → HaltsAt seen images new was now run (events ++ more) Q halt
  at_behind mid new was at now run events more P Q (halts.Limit which) g lift h = (
    goes_join mid new was at now run events more g h.0,
    record {
      next = h.1.next;
      comes = subst Q (sym (append_assoc events more (h.1.next ∷ []))) (lift (more ++ h.1.next ∷ []) h.1.comes);
      passes = subst (λ r. PassesFirst which r h.1.next) (sym (grown_append run events more)) h.1.passes;
    },
  )
  at_behind mid new was at now run events more P Q (halts.Damaged server file offset damage) g lift h = h
  at_behind mid new was at now run events more P Q halts.OutOfMemory g lift h = tt

  pub halts_behind : (mid new : SimulationV X) (was at now : List ℕ) (run : RunV) (events : List Event) (P Q : List Event → Type 0) (halt : Halt) → Goes seen images mid was at run events → ((es : List Event) → P es → Q (events ++ es))
      → HaltsBy seen images new at now (grown_by run events) P halt → HaltsBy seen images new was now run Q halt
  halts_behind mid new was at now run events P Q halt g lift h = record {
    events = events ++ h.events;
    are = lift h.events h.are;
    may = may_append run events h.events g.may h.may;
    few = subst (λ r. length r.events ≤ EVENTS) (sym (grown_append run events h.events)) h.few;
    near = subst (StandNear seen images new.setup new.stores (λ e. Q ((events ++ h.events) ++ e ∷ []))) (sym (grown_append run events h.events))
        (near_kind seen images new.setup new.stores (λ e. P (h.events ++ e ∷ [])) (λ e. Q ((events ++ h.events) ++ e ∷ [])) (grown_by (grown_by run events) h.events)
        (λ e may is. subst Q (sym (append_assoc events h.events (e ∷ []))) (lift (h.events ++ e ∷ []) is)) h.near);
    text = subst (PutsFront was now) (sym (text_append run events h.events)) (front_behind was at now (events_text run events) (events_text (grown_by run events) h.events) g.text h.text);
    at = at_behind mid new was at now run events h.events P Q halt g lift h.at;
  }

  kind_at : (new : SimulationV X) (was now : List ℕ) (run : RunV) (events : List Event) (P Q : List Event → Type 0) (halt : Halt) → ((es : List Event) → P es → Q es)
      → HaltsAt seen images new was now run events P halt → HaltsAt seen images new was now run events Q halt
  kind_at new was now run events P Q (halts.Limit which) lift h =
      (h.0, record { next = h.1.next; comes = lift (events ++ h.1.next ∷ []) h.1.comes; passes = h.1.passes })
  kind_at new was now run events P Q (halts.Damaged server file offset damage) lift h = h
  kind_at new was now run events P Q halts.OutOfMemory lift h = tt

  pub halts_kind : (new : SimulationV X) (was now : List ℕ) (run : RunV) (P Q : List Event → Type 0) (halt : Halt) → ((es : List Event) → P es → Q es) → HaltsBy seen images new was now run P halt → HaltsBy seen images new was now run Q halt
  halts_kind new was now run P Q halt lift h =
      record { events = h.events; are = lift h.events h.are; may = h.may; few = h.few; near = near_kind seen images new.setup new.stores (λ e. P (h.events ++ e ∷ [])) (λ e. Q (h.events ++ e ∷ [])) (grown_by run h.events) (λ e may is. lift (h.events ++ e ∷ []) is) h.near; text = h.text; at = kind_at new was now run h.events P Q halt lift h.at }

  -- before anything happened, the next event would pass a limit
  pub halts_limit : (new : SimulationV X) (was now : List ℕ) (run : RunV) (P : List Event → Type 0) (which : Which) (next : Event) → Shows seen images new run → now ≡ was → P [] → P (next ∷ []) → PassesFirst which run next
      → HaltsBy seen images new was now run P (halts.Limit which)
  halts_limit new was now run P which next shows same none comes passes = record {
    events = [];
    are = none;
    may = refl;
    few = shows.few;
    near = inl shows.servers;
    text = record { front = []; rest = []; whole = refl; pending = same ∙ sym (append-nil was) };
    at = (goes_none new was now run shows same, record { next = next; comes = comes; passes = passes });
  }

  -- .. there was no memory, or damage
  pub halts_near : (new : SimulationV X) (was now : List ℕ) (run : RunV) (P : List Event → Type 0) (halt : Halt) → length run.events ≤ EVENTS → StandNear seen images new.setup new.stores (λ e. P (e ∷ [])) run → now ≡ was → P [] → HaltsAt seen images new was now run [] P halt
      → HaltsBy seen images new was now run P halt
  halts_near new was now run P halt few near same none at = record {
    events = [];
    are = none;
    may = refl;
    few = few;
    near = near;
    text = record { front = []; rest = []; whole = refl; pending = same ∙ sym (append-nil was) };
    at = at;
  }

  -- an event happened, whose line was not printed
  pub halts_unprinted : (new : SimulationV X) (was now : List ℕ) (run : RunV) (P : List Event → Type 0) (event : Event) → GoesOn run event (Shows seen images new) → now ≡ was → P (event ∷ []) → HaltsBy seen images new was now run P halts.OutOfMemory
  halts_unprinted new was now run P event goes same are = record {
    events = event ∷ [];
    are = are;
    may = and_from _ _ goes.may refl;
    few = goes.then.few;
    near = inl goes.then.servers;
    text = record { front = []; rest = events_text run (event ∷ []); whole = refl; pending = same ∙ sym (append-nil was) };
    at = tt;
  }

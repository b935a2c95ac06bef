-- A run so far: its trace, and its events.
use Rattle.std.specs.Prelude.{◌≡◌, ℕ, ◌==◌, Bool, true, false, List, [], ◌∷◌, ◌++◌}
use Rattle.std.specs.List.{list_any}
use Rattle.mds_base.specs.declared.setup.Setup.{Setup}
use Rattle.mds_base.specs.Entries.{Entries}
use Rattle.world.specs.declared.event.Event.{Event}
use Rattle.world.specs.declared.event.Event.TheVariants.{Serve}
use Rattle.world.specs.declared.state.ServerState.{ServerState}
use Rattle.world.specs.Events.{enabled}
use Rattle.world.specs.Histories.{Trace, happens}
use Rattle.world.specs.Law.{start_trace}

pub record RunV : Type 0 where
  pub trace : Trace
  -- its events, the first one first
  pub events : List Event

abbrev pub start_run : Setup → List ServerState → Entries → RunV
start_run setup servers entries = record { trace = start_trace setup servers entries; events = [] }

-- the run with one more event
abbrev pub grown : RunV → Event → RunV
grown run event = record { trace = happens run.trace event; events = run.events ++ event ∷ [] }

-- the event is one that may happen next, and the run with it has the property
pub record GoesOn (run : RunV) (event : Event) (P : RunV → Type 0) : Type 0 where
  pub may : enabled run.trace.world event ≡ true
  pub then : P (grown run event)

-- whether a Serve names the message
abbrev pub names : ℕ → Event → Bool
names message (Serve server places how) = list_any (λ k. k == message) places
names message event = false

-- whether some Serve of the run named it
abbrev pub is_named : List Event → ℕ → Bool
is_named events message = list_any (names message) events

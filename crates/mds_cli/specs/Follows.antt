-- A run that follows a script: line by line, each in the grammar and allowed at its place.
use Rattle.std.specs.Prelude.{◌≡◌, ℕ, ◌≤◌, ◌^◌, true, false, List, [], ◌∷◌, ◌++◌, length}
use Rattle.mds_base.specs.declared.setup.Setup.{Setup}
use Rattle.mds_base.specs.declared.setup.Which.{Which}
use Rattle.script.specs.declared.line.Line.{Line}
use Rattle.script.specs.Grammar.{IsLine}
use Rattle.simulation.specs.Runs.{RunV}
use Rattle.world.specs.declared.event.Event.{Event}
use Rattle.interpreter.specs.Steps.{IsAtLimit}
use Rattle.interpreter.specs.Story.{grown_by, all_may, is_allowed, IsDone, IsBegun}
use Rattle.mds_cli.specs.Lines.{without_return}

-- these bytes, a line without its line feed, say the line: a carriage return at their end is no part of it, and without
-- it they are at most 2^20
abbrev pub Says : Setup → List ℕ → Line → Type 0
Says setup bytes line = (length (without_return bytes) ≤ 2 ^ 20) × IsLine setup (without_return bytes) line

-- these bytes say a line that is allowed after the run
abbrev pub IsAllowed : Setup → RunV → List ℕ → Type 0
IsAllowed setup run bytes = (line : Line) × Says setup bytes line × (is_allowed run.trace.world line ≡ true)

-- these bytes say no line, or one that is not allowed after the run
abbrev pub IsBad : Setup → RunV → List ℕ → Type 0
IsBad setup run bytes = (line : Line) → Says setup bytes line → is_allowed run.trace.world line ≡ false

-- a line is carried out: these bytes say it, it is allowed, and these are its events, each of which may happen
pub record IsCarriedOut (setup : Setup) (run : RunV) (bytes : List ℕ) (events : List Event) : Type 0 where
  pub line : Line
  pub says : Says setup bytes line
  pub allowed : is_allowed run.trace.world line ≡ true
  pub done : IsDone run line events
  pub may : all_may run events ≡ true

-- the events are those of the lines, one line after another
abbrev pub Follows : Setup → RunV → List (List ℕ) → List Event → Type 0
Follows setup run [] events = events ≡ []
Follows setup run (bytes ∷ more) events =
    (now : List Event) × (later : List Event) × (events ≡ now ++ later) × IsCarriedOut setup run bytes now
    × Follows setup (grown_by run now) more later

-- ---- a line that is not carried out to its end

-- these events begin it
pub record IsBegunLine (setup : Setup) (run : RunV) (bytes : List ℕ) (events : List Event) : Type 0 where
  pub line : Line
  pub says : Says setup bytes line
  pub allowed : is_allowed run.trace.world line ≡ true
  pub begun : IsBegun run line events
  pub may : all_may run events ≡ true

-- these events begin the first of the lines, or there are none
abbrev pub BeginsNext : Setup → RunV → List (List ℕ) → List Event → Type 0
BeginsNext setup run [] events = events ≡ []
BeginsNext setup run (bytes ∷ more) events = IsBegunLine setup run bytes events

-- these events begin it, and some event that comes next in it would pass the limit
pub record StopsAt (which : Which) (setup : Setup) (run : RunV) (bytes : List ℕ) (events : List Event) : Type 0 where
  pub line : Line
  pub says : Says setup bytes line
  pub allowed : is_allowed run.trace.world line ≡ true
  pub begun : IsBegun run line events
  pub may : all_may run events ≡ true
  pub at : IsAtLimit which (grown_by run events) (λ event. IsBegun run line (events ++ event ∷ []))

-- Scripts that are carried out to their end where no disk fails.
use Rattle.std.specs.Prelude.{◌≡◌, ℕ, ◌<◌, ◌≤◌, ◌^◌, Bool, true, List, [], ◌∷◌, ◌++◌, Some, length}
use Rattle.std.specs.List.{slice_get}
use Rattle.mds_base.specs.declared.setup.Setup.{Setup}
use Rattle.mds_base.specs.declared.setup.Which.{Which}
use Rattle.mds_base.specs.Entries.{Entries}
use Rattle.mds_out.specs.Fault.{Rose}
use Rattle.script.specs.declared.line.Line.{Line}
use Rattle.pasts.specs.Openings.{with_choice}
use Rattle.simulation.specs.Runs.{RunV, start_run}
use Rattle.world.specs.declared.event.Event.{Event}
use Rattle.world.specs.declared.state.ServerState.{ServerState}
use Rattle.world.specs.Law.{PastRun, IsReached}
use Rattle.interpreter.specs.Steps.{IsAtLimit}
use Rattle.interpreter.specs.Story.{grown_by, all_may, is_allowed, IsDone, IsBegun}
use Rattle.mds_cli.specs.Follows.{Says}
use Rattle.mds_cli.specs.Lines.{lines_of}
use Rattle.mds_cli.specs.Payments.{fuses_armed, stops_in}
use Rattle.mds_cli.specs.declared.status.Status.{Status}
use Rattle.mds_cli.specs.declared.status.Status.TheVariants.{Usage, BadScript, OpenFault, BadDisk, Limit}

-- no server was stopped by its device
abbrev pub AreCalm : Setup → List Event → Type 0
AreCalm setup events = (s : ℕ) → s < setup.servers → stops_in events s ≡ 0

-- no event of the line would pass a limit
abbrev pub StaysWithin : Setup → RunV → Line → Type 0
StaysWithin setup run line =
    (which : Which) (events : List Event) → IsBegun run line events → all_may run events ≡ true → AreCalm setup events
    → IsAtLimit which (grown_by run events) (λ event. IsBegun run line (events ++ event ∷ [])) → ⊥

-- each line says something, is allowed at its place and stays within the limits, however the lines before it ended,
-- where no device stopped a server
abbrev pub IsScript : Setup → RunV → List (List ℕ) → Type 0
IsScript setup run [] = Unit {0}
IsScript setup run (bytes ∷ more) =
    (line : Line) × Says setup bytes line × (is_allowed run.trace.world line ≡ true) × StaysWithin setup run line
    × ((events : List Event) → IsDone run line events → all_may run events ≡ true → AreCalm setup events
    → IsScript setup (grown_by run events) more)

-- the bytes are such a script, of no more lines than one may have, none of which arms a fuse, wherever the past of the
-- disks leads
pub record IsWithinLimits (setup : Setup) (past : List PastRun) (bytes : List ℕ) : Type 0 where
  pub count : length (lines_of bytes) ≤ 2 ^ 22
  pub unarmed : (s : ℕ) → fuses_armed (lines_of bytes) s ≡ 0
  pub each : (keep : ℕ → Bool) (servers : List ServerState) (entries : Entries)
      → IsReached setup (with_choice keep past) servers entries
      → IsScript setup (start_run setup servers entries) (lines_of bytes)

-- no disk's count of faults has risen
abbrev pub HaveNotRisen : {D : Type 0} → (D → ℕ) → List D → List D → Type 0
HaveNotRisen {D = D} faults old new =
    (s : ℕ) (before now : D) → slice_get old s ≡ Some before → slice_get new s ≡ Some now
    → Rose (faults before) (faults now) → ⊥

-- how a run of such a script may end then: it is done, or a stream failed, or there was no memory
abbrev pub Completes : Status → Type 0
Completes Usage = ⊥
Completes (BadScript line) = ⊥
Completes (OpenFault server) = ⊥
Completes (BadDisk server file offset damage) = ⊥
Completes (Limit which) = ⊥
Completes status = Unit {0}

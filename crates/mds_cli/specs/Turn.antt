-- What one turn of a session does: it reads a line, carries it out and makes the text of its events. And how the text
-- that is pending at the end is written.
use Rattle.std.specs.Prelude.{◌≡◌, ◌⊎◌, ℕ, ◌<◌, ◌≤◌, ◌^◌, true, List, [], ◌∷◌, ◌++◌, Option, length, codes}
use Rattle.std.specs.Io.KnownBytes.{Consumes, Appends}
use Rattle.mds_base.specs.declared.limits.TheConstants.{EVENTS}
use Rattle.mds_base.specs.declared.setup.Setup.{Setup}
use Rattle.mds_out.specs.Disk.{Image, Contents}
use Rattle.mds_out.specs.Fault.{Rose}
use Rattle.mds_out.specs.Fused.{Fused}
use Rattle.mds_out.specs.Stream.{TakesFront}
use Rattle.pasts.specs.Fuses.{seen_by, images_by}
use Rattle.pasts.specs.Servers.{AreServers}
use Rattle.simulation.specs.Runs.{RunV}
use Rattle.simulation.specs.Shows.{SimulationV, Shows}
use Rattle.world.specs.declared.event.Event.{Event}
use Rattle.interpreter.specs.EventText.{events_text, effects_text}
use Rattle.interpreter.specs.Payments.{Pays, TellsNoStop}
use Rattle.interpreter.specs.Steps.{PutsFront}
use Rattle.interpreter.specs.Story.{grown_by, all_may}
use Rattle.mds_cli.specs.Damage.{Finds, seen_in}
use Rattle.mds_cli.specs.Follows.{BeginsNext}
use Rattle.mds_cli.specs.Lines.{IsPart}
use Rattle.mds_cli.specs.Run.{Because, ArePrinted}
use Rattle.mds_cli.specs.SoFar.{SoFar}
use Rattle.mds_cli.specs.Payments.{fuses_armed}
use Rattle.mds_cli.specs.Streams.{Streams, Ends}
use Rattle.mds_cli.specs.declared.line.Line.{Line}
use Rattle.mds_cli.specs.declared.line.Line.TheVariants.{Ended, Last, None}
use Rattle.mds_cli.specs.declared.line.Stop.{Stop}
use Rattle.mds_cli.specs.declared.line.Stop.TheVariants as stops
use Rattle.mds_cli.specs.declared.status.Status.{Status}
use Rattle.mds_cli.specs.declared.status.Status.TheVariants.{Done, BadScript, ReadFault, WriteFault, BadDisk, Limit}
use Rattle.mds_cli.specs.declared.status.Status.TheVariants.{OutOfMemory}

-- ---- a line that was read, and not carried out to its end

-- a status with which a line that was read may stop
abbrev pub IsHalt : Status → Type 0
IsHalt (BadScript line) = Unit {0}
IsHalt (BadDisk server file offset damage) = Unit {0}
IsHalt (Limit which) = Unit {0}
IsHalt OutOfMemory = Unit {0}
IsHalt status = ⊥

-- the text was put behind what was pending, or where there was no memory a front of it
abbrev pub PutsText : Status → List ℕ → List ℕ → List ℕ → Type 0
PutsText OutOfMemory was now text = PutsFront was now text
PutsText status was now text = now ≡ was ++ text

-- whatever comes behind the line, so it is of the lines from it on
abbrev pub Behind : List ℕ → (List (List ℕ) → Type 0) → Type 0
Behind line P = (more : List (List ℕ)) → P (line ∷ more)

-- in a run the line was begun, or not; the servers are those at its end
pub record StopsOn {X : Type 0} (seen : X → Contents) (images : X → Image → Type 0) (status : Status) (setup : Setup)
    (number : ℕ) (line : List ℕ) (next : List (List ℕ)) (new : SimulationV X) (was now : List ℕ) (run : RunV)
    : Type 0 where
  pub printed : List Event
  pub events : List Event
  pub begun : BeginsNext setup run next events
  pub because : Because status setup run number (Behind line) next events
  pub all : ArePrinted status printed events
  pub may : all_may run events ≡ true
  pub few : length (grown_by run events).events ≤ EVENTS
  pub servers : AreServers seen images setup new.stores (grown_by run events).trace.world.servers
  pub text : PutsText status was now (events_text run printed)

-- The line of this number was not carried out to its end.
pub record StopsCall {D : Type 0} (faults : D → ℕ) (lasts : D → D → Type 0) (seen : D → Contents)
    (images : D → Image → Type 0) (status : Status)
    (old new : SimulationV (Fused D)) (was now line : List ℕ) (number : ℕ) : Type 0 where
  pub next : List (List ℕ)
  pub is : (next ≡ []) ⊎ (next ≡ line ∷ [])
  pub kind : IsHalt status
  pub finds : Finds (seen_in seen) old.setup new.stores next status
  pub paid : Pays faults lasts old.stores new.stores was now (fuses_armed next)
  pub runs : (run : RunV) → Shows (seen_by seen) (images_by images) old run
      → StopsOn (seen_by seen) (images_by images) status old.setup number line next new was now run

-- ---- a turn

-- how the line was found
abbrev pub IsFound : Line → List (List ℕ) → ℕ → Option (List ℕ) → Option (List ℕ) → Type 0
IsFound Ended lines number before now =
    (line : List ℕ) × (lines ≡ line ∷ []) × (number ≤ 2 ^ 22) × IsPart line × Consumes before now (line ++ 10 ∷ [])
IsFound Last lines number before now = (line : List ℕ) × (lines ≡ line ∷ []) × (number ≤ 2 ^ 22) × Ends before now
IsFound None lines number before now = (lines ≡ []) × Ends before now

-- a line was found, or there was none left, and carried out
pub record TakesTurn {D : Type 0} (faults : D → ℕ) (lasts : D → D → Type 0) (seen : D → Contents)
    (images : D → Image → Type 0) (found : Line)
    (number : ℕ) (before now : Streams) (old new : SimulationV (Fused D)) : Type 0 where
  pub so_far : SoFar faults lasts seen images before now old new
  pub is : IsFound found so_far.lines number before.unread now.unread

-- all lines were carried out, to the end of the input
pub record CarriesAll {D : Type 0} (faults : D → ℕ) (lasts : D → D → Type 0) (seen : D → Contents)
    (images : D → Image → Type 0)
    (first now : Streams) (old new : SimulationV (Fused D)) : Type 0 where
  pub so_far : SoFar faults lasts seen images first now old new
  pub ends : Ends first.unread now.unread
  pub count : length so_far.lines ≤ 2 ^ 22

-- the status with which a run ends where the line of this number was not found
abbrev pub status_of : Stop → ℕ → Status
status_of stops.TooLong number = BadScript number
status_of stops.ReadFault number = ReadFault
status_of stops.WriteFault number = WriteFault
status_of stops.OutOfMemory number = OutOfMemory

-- ---- the end of a run that was stopped

-- The status with which a run stops for this one: it stays where what was pending was taken, and else the sink failed.
-- Want of memory stays either way.
pub record StopsSame (status result : Status) (before now : Option (List ℕ)) (faults faults_now : ℕ) (pending : List ℕ)
    : Type 0 where
  pub same : result ≡ status
  pub taken : Appends before now pending
  pub writes : faults_now ≡ faults

pub record StopsBroken (result : Status) (before now : Option (List ℕ)) (faults faults_now : ℕ) (pending : List ℕ)
    : Type 0 where
  pub broken : result ≡ WriteFault
  pub taken : TakesFront before now pending
  pub writes : Rose faults faults_now

pub record StaysBroken (result : Status) (before now : Option (List ℕ)) (faults faults_now : ℕ) : Type 0 where
  pub broken : result ≡ WriteFault
  pub taken : now ≡ before
  pub writes : faults_now ≡ faults

pub record StaysWithout (result : Status) (before now : Option (List ℕ)) (faults faults_now : ℕ) (pending : List ℕ)
    : Type 0 where
  pub same : result ≡ OutOfMemory
  pub taken : TakesFront before now pending
  pub later : faults ≤ faults_now

abbrev pub StopsWith : Status → Status → Option (List ℕ) → Option (List ℕ) → ℕ → ℕ → List ℕ → Type 0
StopsWith WriteFault result before now writes writes_now pending = StaysBroken result before now writes writes_now
StopsWith OutOfMemory result before now writes writes_now pending =
    StaysWithout result before now writes writes_now pending
StopsWith status result before now writes writes_now pending =
    StopsSame status result before now writes writes_now pending
    ⊎ StopsBroken result before now writes writes_now pending

-- ---- the end of a run whose lines were all carried out

-- these are the lines of its effects
abbrev pub AreEffects : {X : Type 0} → (X → Contents) → (X → Image → Type 0) → SimulationV X → List ℕ → Type 0
AreEffects seen images sim effects = (run : RunV) → Shows seen images sim run → effects ≡ effects_text run.trace.past

-- the text that was pending, the effects and `end` were taken, or a front of all
pub record FinishesDone {X : Type 0} (seen : X → Contents) (images : X → Image → Type 0) (sim : SimulationV X)
    (before now : Option (List ℕ)) (faults faults_now : ℕ) (pending : List ℕ) : Type 0 where
  pub effects : List ℕ
  pub are : AreEffects seen images sim effects
  pub quiet : TellsNoStop effects
  pub taken : Appends before now (pending ++ effects ++ codes "end\n")
  pub writes : faults_now ≡ faults

pub record FinishesBroken {X : Type 0} (seen : X → Contents) (images : X → Image → Type 0) (sim : SimulationV X)
    (before now : Option (List ℕ)) (faults faults_now : ℕ) (pending : List ℕ) : Type 0 where
  pub effects : List ℕ
  pub are : AreEffects seen images sim effects
  pub quiet : TellsNoStop effects
  pub taken : TakesFront before now (pending ++ effects ++ codes "end\n")
  pub writes : Rose faults faults_now

abbrev pub FinishesWith : {X : Type 0} → (X → Contents) → (X → Image → Type 0) → SimulationV X → Status
    → Option (List ℕ) → Option (List ℕ) → ℕ → ℕ → List ℕ → Type 0
FinishesWith seen images sim Done before now writes writes_now pending =
    FinishesDone seen images sim before now writes writes_now pending
FinishesWith seen images sim WriteFault before now writes writes_now pending =
    FinishesBroken seen images sim before now writes writes_now pending
FinishesWith seen images sim OutOfMemory before now writes writes_now pending =
    StaysWithout OutOfMemory before now writes writes_now pending
FinishesWith seen images sim status before now writes writes_now pending = ⊥

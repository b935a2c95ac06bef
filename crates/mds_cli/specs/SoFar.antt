-- A run so far: what happened from one moment of a session to another. Facts of its bytes and disks stand by
-- themselves; those on runs are said of any run that the simulation showed at the first moment.
use Rattle.std.specs.Prelude.{◌≡◌, ◌⊎◌, ℕ, ◌+◌, ◌≤◌, ◌^◌, true, List, [], ◌∷◌, ◌++◌, Option, length}
use Rattle.std.specs.Io.KnownBytes.{Consumes}
use Rattle.mds_base.specs.declared.limits.TheConstants.{EVENTS}
use Rattle.mds_base.specs.declared.setup.Setup.{Setup}
use Rattle.mds_out.specs.Disk.{Image, Contents}
use Rattle.mds_out.specs.Fault.{Rose}
use Rattle.mds_out.specs.Fused.{Fused}
use Rattle.mds_out.specs.Known.{OnKnown}
use Rattle.mds_out.specs.Stream.{TakesFront}
use Rattle.pasts.specs.Fuses.{seen_by, images_by}
use Rattle.pasts.specs.Servers.{AreServers}
use Rattle.simulation.specs.Runs.{RunV}
use Rattle.simulation.specs.Shows.{SimulationV, Shows}
use Rattle.world.specs.declared.event.Event.{Event}
use Rattle.interpreter.specs.EventText.{events_text}
use Rattle.interpreter.specs.Payments.{Pays}
use Rattle.interpreter.specs.Story.{grown_by, all_may}
use Rattle.mds_cli.specs.Arming.{ArmsLines}
use Rattle.mds_cli.specs.Damage.{Finds, seen_in}
use Rattle.mds_cli.specs.Follows.{Follows}
use Rattle.mds_cli.specs.Lines.{lines_of}
use Rattle.mds_cli.specs.Run.{Leaves, BeginsWith, ReadsTo, EndsAfter}
use Rattle.mds_cli.specs.Payments.{fuses_armed}
use Rattle.mds_cli.specs.Streams.{Streams, Flows}
use Rattle.mds_cli.specs.declared.status.Status.{Status}
use Rattle.mds_cli.specs.declared.status.Status.TheVariants.{Done, Usage, ReadFault, WriteFault, OpenFault, BadDisk}
use Rattle.mds_cli.specs.declared.status.Status.TheVariants.{OutOfMemory}

-- these lines were read from one moment to another
abbrev pub HaveRead : Option (List ℕ) → Option (List ℕ) → List (List ℕ) → Type 0
HaveRead before now lines = OnKnown before now (λ all left. lines_of all ≡ lines ++ lines_of left)

-- in a run, the events of these lines happened, with this text; the simulation shows the run with them
pub record FollowsOn {D : Type 0} (seen : D → Contents) (images : D → Image → Type 0) (setup : Setup)
    (new : SimulationV (Fused D)) (lines : List (List ℕ)) (text : List ℕ) (run : RunV) : Type 0 where
  pub events : List Event
  pub follows : Follows setup run lines events
  pub may : all_may run events ≡ true
  pub shows : Shows (seen_by seen) (images_by images) new (grown_by run events)
  pub told : text ≡ events_text run events

-- Lines were read and carried out, no stream failed, and the text of their events was made. Each line `fuse` among them
-- armed that disk, and what the text tells of stops is paid.
pub record SoFar {D : Type 0} (faults : D → ℕ) (lasts : D → D → Type 0) (seen : D → Contents)
    (images : D → Image → Type 0)
    (first now : Streams) (old new : SimulationV (Fused D)) : Type 0 where
  pub lines : List (List ℕ)
  pub text : List ℕ
  pub read : HaveRead first.unread now.unread lines
  pub flows : Flows first.taken now.taken now.pending (first.pending ++ text)
  pub reads : now.reads ≡ first.reads
  pub writes : now.writes ≡ first.writes
  pub setup : new.setup ≡ old.setup
  pub runs : (run : RunV) → Shows (seen_by seen) (images_by images) old run
      → FollowsOn seen images old.setup new lines text run
  pub paid : Pays faults lasts old.stores new.stores [] text (fuses_armed lines)
  pub arms : ArmsLines lines old new

-- ---- a run that stops

-- what the counts of faults of both streams say of a status
abbrev pub HasCauses : Status → Streams → Streams → Type 0
HasCauses ReadFault first now = Rose first.reads now.reads × (now.writes ≡ first.writes)
HasCauses WriteFault first now = Rose first.writes now.writes
HasCauses OutOfMemory first now = (now.reads ≡ first.reads) × (first.writes ≤ now.writes)
HasCauses status first now = (now.reads ≡ first.reads) × (now.writes ≡ first.writes)

-- some bytes were read
pub record HasRead (before now : Option (List ℕ)) : Type 0 where
  pub read : List ℕ
  pub some : 1 ≤ length read
  pub consumed : Consumes before now read

-- a status with which lines may stop: where the source failed no byte is held; where a disk was found damaged, at a
-- restart, bytes had been read
abbrev pub IsStop : Status → Streams → Streams → Type 0
IsStop Done first now = ⊥
IsStop Usage first now = ⊥
IsStop (OpenFault server) first now = ⊥
IsStop ReadFault first now = now.held ≡ []
IsStop (BadDisk server file offset damage) first now = HasRead first.unread now.unread
IsStop status first now = Unit {0}

-- text is on its way, or where the sink failed a front of it was taken
abbrev pub IsOnItsWay : Status → Streams → Streams → List ℕ → Type 0
IsOnItsWay WriteFault before now text = TakesFront before.taken now.taken text
IsOnItsWay status before now text = Flows before.taken now.taken now.pending text

-- the text that was made is the whole, or where there was no memory a front of it
abbrev pub IsMade : Status → List ℕ → List ℕ → Type 0
IsMade OutOfMemory whole text = (rest : List ℕ) × (whole ≡ text ++ rest)
IsMade status whole text = whole ≡ text

-- in a run these lines were carried out, and a part of the next one; the servers are those at its end
pub record StopsRun {D : Type 0} (seen : D → Contents) (images : D → Image → Type 0) (status : Status) (setup : Setup)
    (number : ℕ) (lines next : List (List ℕ)) (input : Option (List ℕ)) (text : List ℕ)
    (new : SimulationV (Fused D)) (run : RunV) : Type 0 where
  pub printed : List Event
  pub events : List Event
  pub after : EndsAfter status setup number lines next input run printed events
  pub may : all_may run events ≡ true
  pub few : length (grown_by run events).events ≤ EVENTS
  pub servers : AreServers (seen_by seen) (images_by images) setup new.stores (grown_by run events).trace.world.servers
  pub made : IsMade status (events_text run printed) text

-- Lines were carried out, from the one of this number on, and then the run stopped with this status.
pub record HasStopped {D : Type 0} (faults : D → ℕ) (lasts : D → D → Type 0) (seen : D → Contents)
    (images : D → Image → Type 0)
    (status : Status) (number : ℕ) (first now : Streams) (old new : SimulationV (Fused D)) : Type 0 where
  pub lines : List (List ℕ)
  pub next : List (List ℕ)
  pub text : List ℕ
  pub stops : IsStop status first now
  pub finds : Finds (seen_in seen) old.setup new.stores next status
  pub causes : HasCauses status first now
  pub count : number ≤ 2 ^ 22 + 1 → number + length lines ≤ 2 ^ 22 + 1
  pub begins : Leaves first.unread lines (BeginsWith next)
  pub reads : ReadsTo status lines first.unread now.unread
  pub way : IsOnItsWay status first now (first.pending ++ text)
  pub setup : new.setup ≡ old.setup
  pub runs : (run : RunV) → Shows (seen_by seen) (images_by images) old run
      → StopsRun seen images status old.setup number lines next first.unread text new run
  pub paid : Pays faults lasts old.stores new.stores [] text (fuses_armed (lines ++ next))

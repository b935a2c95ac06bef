-- How a run of the program ends, from disks to disks, at each status.
use Rattle.std.specs.Prelude.{◌≡◌, ◌⊎◌, ℕ, true, List, [], ◌++◌, Option}
use Rattle.std.specs.Prelude.{length, ◌≤◌}
use Rattle.mds_base.specs.declared.limits.TheConstants.{EVENTS}
use Rattle.mds_base.specs.declared.setup.Setup.{Setup}
use Rattle.mds_base.specs.declared.store_fault.Damage.{Damage}
use Rattle.mds_base.specs.declared.store_fault.StoreFault.TheVariants.{Device, Damaged}
use Rattle.mds_out.specs.Disk.{Image, Contents}
use Rattle.mds_out.specs.Fused.{Fused}
use Rattle.node_store.specs.Store.{Store}
use Rattle.pasts.specs.Fuses.{seen_by, images_by}
use Rattle.pasts.specs.Openings.{IsNotOpened}
use Rattle.pasts.specs.Starts.{AreDisks, AreReached, AreReachedOnAllTerms}
use Rattle.simulation.specs.Runs.{RunV}
use Rattle.simulation.specs.Shows.{SimulationV, Shows}
use Rattle.world.specs.Law.{PastRun}
use Rattle.interpreter.specs.Story.{grown_by, all_may}
use Rattle.mds_cli.specs.Damage.{FindsDamage}
use Rattle.mds_cli.specs.Run.{Leaves, BeginsWith, HasRun, RunsOver}
use Rattle.mds_cli.specs.Payments.{EventsArePaid, UnlessMemory}
use Rattle.mds_cli.specs.SoFar.{HasCauses, HasRead}
use Rattle.mds_cli.specs.Streams.{Streams}
use Rattle.mds_cli.specs.declared.status.Status.{Status}
use Rattle.mds_cli.specs.declared.status.Status.TheVariants.{Usage, OpenFault, BadDisk, OutOfMemory}

-- both streams of a run, as they are outside of it
abbrev pub outside : Option (List ℕ) → Option (List ℕ) → ℕ → ℕ → Streams
outside left taken reads writes =
    record { held = []; unread = left; taken = taken; pending = []; reads = reads; writes = writes }

-- A restart found damage: bytes were read, and behind some lines of the input comes one that restarts the server, on a
-- disk that is damaged so, and reads so still.
pub record HasFound {D : Type 0} (seen : D → Contents) (setup : Setup) (disks : List D) (first now : Streams)
    (server file offset : ℕ) (damage : Damage) : Type 0 where
  pub lines : List (List ℕ)
  pub next : List (List ℕ)
  pub read : HasRead first.unread now.unread
  pub begins : Leaves first.unread lines (BeginsWith next)
  pub finds : FindsDamage seen setup disks next server file offset damage

-- a status with which a run may end whose servers were opened
abbrev pub IsEnd : {D : Type 0} → (D → Contents) → Setup → List D → Status → Streams → Streams → Type 0
IsEnd seen setup disks Usage first now = ⊥
IsEnd seen setup disks (OpenFault server) first now = ⊥
IsEnd seen setup disks (BadDisk server file offset damage) first now =
    HasFound seen setup disks first now server file offset damage
IsEnd seen setup disks status first now = Unit {0}

-- ---- the servers were opened

-- a run ended so, and the disks are those of the servers at its end
pub record EndsRun {D : Type 0} (faults : D → ℕ) (seen : D → Contents) (images : D → Image → Type 0) (status : Status)
    (setup : Setup) (first now : Streams) (stores : List (Store (Fused D))) (disks : List D) (run : RunV)
    : Type 0 where
  pub ends : HasRun status setup first now run
  pub may : all_may run ends.events ≡ true
  pub few : length (grown_by run ends.events).events ≤ EVENTS
  pub left : AreDisks seen images setup disks (grown_by run ends.events).trace.world.servers
  pub paid : UnlessMemory status (EventsArePaid faults stores disks (ends.lines ++ ends.next) ends.events)

-- so it is of any run that the simulation showed at the start
pub record EndsSo {D : Type 0} (faults : D → ℕ) (seen : D → Contents) (images : D → Image → Type 0) (status : Status)
    (first now : Streams) (old : SimulationV (Fused D)) (disks : List D) : Type 0 where
  pub causes : HasCauses status first now
  pub is : IsEnd seen old.setup disks status first now
  pub runs : (run : RunV) → Shows (seen_by seen) (images_by images) old run
      → EndsRun faults seen images status old.setup first now old.stores disks run

-- ---- the servers were not opened

-- nothing was read or written
pub record IsUntouched (first now : Streams) : Type 0 where
  pub unread : now.unread ≡ first.unread
  pub taken : now.taken ≡ first.taken
  pub reads : now.reads ≡ first.reads
  pub writes : now.writes ≡ first.writes

-- disks of a past are disks of that past still, for a run on any terms that share the head
abbrev pub StayReached : {D : Type 0} → (D → Contents) → (D → Image → Type 0) → Setup → List D → List D → Type 0
StayReached seen images setup old new =
    (past : List PastRun) → AreReached seen images setup old past → AreReachedOnAllTerms seen images setup new past

-- disks to which no past leads
abbrev pub AreUnreached : {D : Type 0} → (D → Contents) → (D → Image → Type 0) → Setup → List D → Type 0
AreUnreached seen images setup disks = (past : List PastRun) → AreReached seen images setup disks past → ⊥

-- the disk of the named server failed while it was opened, or was found damaged, which disks of a past never are; or
-- there was no memory
abbrev pub WhyUnopened : {D : Type 0} → (D → ℕ) → (D → Contents) → (D → Image → Type 0) → Setup → Status → List D
    → List D → Type 0
WhyUnopened faults seen images setup (OpenFault server) old new =
    IsNotOpened faults seen images setup old new server Device
WhyUnopened faults seen images setup (BadDisk server file offset damage) old new =
    IsNotOpened faults seen images setup old new server (Damaged file offset damage)
    × AreUnreached seen images setup old
WhyUnopened faults seen images setup OutOfMemory old new = Unit {0}
WhyUnopened faults seen images setup status old new = ⊥

pub record IsNotBegun {D : Type 0} (faults : D → ℕ) (seen : D → Contents) (images : D → Image → Type 0) (setup : Setup)
    (status : Status) (old new : List D) (first now : Streams) : Type 0 where
  pub why : WhyUnopened faults seen images setup status old new
  pub untouched : IsUntouched first now
  pub stay : StayReached seen images setup old new

-- ---- from disks to disks

-- with disks of any past, a run from there ended so
abbrev pub Explains : {D : Type 0} → (D → ℕ) → (D → Contents) → (D → Image → Type 0) → Setup → Status → List D → List D
    → Streams → Streams → Type 0
Explains faults seen images setup status old new first now =
    (past : List PastRun) → AreReached seen images setup old past
    → RunsOver faults seen images setup past old new status first now

-- The program ended with this status: what the counts of faults of its streams say of it, and what happened. That the
-- servers were opened and a disk found damaged later is so with disks of no past: `Because` refuses it.
pub record HasEnded {D : Type 0} (faults : D → ℕ) (seen : D → Contents) (images : D → Image → Type 0) (setup : Setup)
    (status : Status) (old new : List D) (first now : Streams) : Type 0 where
  pub causes : HasCauses status first now
  pub how : IsNotBegun faults seen images setup status old new first now
      ⊎ (IsEnd seen setup new status first now × Explains faults seen images setup status old new first now)

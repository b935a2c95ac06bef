-- What a run of the program did: which lines of the script it carried out, a part of the next one, why no more, and
-- which text was taken.
use Rattle.std.specs.Prelude.{◌≡◌, ◌⊎◌, ℕ, ◌+◌, ◌<◌, ◌≤◌, ◌^◌, Bool, true, List, [], ◌∷◌, ◌++◌, Option, length, codes}
use Rattle.std.specs.Io.KnownBytes.{Appends, Consumes}
use Rattle.mds_base.specs.declared.limits.TheConstants.{EVENTS}
use Rattle.mds_base.specs.declared.setup.Setup.{Setup}
use Rattle.mds_base.specs.declared.setup.Which.{Which}
use Rattle.mds_base.specs.declared.setup.Which.TheVariants.{Lines}
use Rattle.mds_base.specs.Entries.{Entries}
use Rattle.mds_out.specs.Disk.{Image, Contents}
use Rattle.mds_out.specs.Known.{OnTold}
use Rattle.mds_out.specs.Stream.{TakesFront}
use Rattle.pasts.specs.Openings.{with_choice}
use Rattle.pasts.specs.Starts.{AreDisks, AreReachedOnAllTerms}
use Rattle.simulation.specs.Runs.{RunV, start_run}
use Rattle.world.specs.declared.event.Event.{Event}
use Rattle.world.specs.declared.state.ServerState.{ServerState}
use Rattle.world.specs.Events.{all_enabled}
use Rattle.world.specs.Histories.{run}
use Rattle.world.specs.Law.{PastRun, IsReached, HoldsOfRun, start_trace}
use Rattle.world.specs.Worlds.{fresh_world}
use Rattle.interpreter.specs.EventText.{events_text, effects_text}
use Rattle.interpreter.specs.Story.{grown_by}
use Rattle.mds_cli.specs.Follows.{Follows, IsAllowed, IsBad, BeginsNext, StopsAt}
use Rattle.mds_cli.specs.Lines.{lines_of, ended_lines}
use Rattle.mds_cli.specs.Payments.{RunIsPaid, UnlessMemory}
use Rattle.mds_cli.specs.Streams.{Streams, Ends}
use Rattle.mds_cli.specs.declared.status.Status.{Status}
use Rattle.mds_cli.specs.declared.status.Status.TheVariants.{Done, BadScript, ReadFault, WriteFault, Limit, OutOfMemory}

-- ---- the lines that are left of a script

-- the input's first lines are these, and those left have the property, where its bytes are told
abbrev pub Leaves : Option (List ℕ) → List (List ℕ) → (List (List ℕ) → Type 0) → Type 0
Leaves input lines P = OnTold input (λ bytes. (rest : List (List ℕ)) × (lines_of bytes ≡ lines ++ rest) × P rest)

-- these come next
abbrev pub BeginsWith : List (List ℕ) → List (List ℕ) → Type 0
BeginsWith next rest = (more : List (List ℕ)) × (rest ≡ next ++ more)

-- one comes next that is bad after the run
pub record BeginsBad (setup : Setup) (run : RunV) (rest : List (List ℕ)) : Type 0 where
  pub bad : List ℕ
  pub more : List (List ℕ)
  pub is : rest ≡ bad ∷ more
  pub is_bad : IsBad setup run bad

-- .. or allowed there
pub record BeginsAllowed (setup : Setup) (run : RunV) (rest : List (List ℕ)) : Type 0 where
  pub next : List ℕ
  pub more : List (List ℕ)
  pub is : rest ≡ next ∷ more
  pub allowed : IsAllowed setup run next

-- ---- why no more was carried out

-- More lines were carried out than a script may have less one, and the next one is allowed; or that was begun, up to an
-- event that would pass the limit.
abbrev pub MeetsLimit : Which → Setup → RunV → ℕ → ((List (List ℕ) → Type 0) → Type 0) → List (List ℕ) → List Event
    → Type 0
MeetsLimit which setup run number Left next part =
    ((which ≡ Lines) × (next ≡ []) × (2 ^ 22 < number) × Left (BeginsAllowed setup run))
    ⊎ ((bytes : List ℕ) × (next ≡ bytes ∷ []) × (number ≤ 2 ^ 22) × StopsAt which setup run bytes part)

-- Why a run ended, by its status. It carried out all lines before the one of this number, and of the next line, where
-- that was begun, this part; `Left P` says that the lines from this number on have the property P.
abbrev pub Because : Status → Setup → RunV → ℕ → ((List (List ℕ) → Type 0) → Type 0) → List (List ℕ) → List Event
    → Type 0
Because Done setup run number Left next part = (next ≡ []) × Left (λ rest. rest ≡ [])
Because (BadScript line) setup run number Left next part = (next ≡ []) × (line ≡ number) × Left (BeginsBad setup run)
Because (Limit which) setup run number Left next part = MeetsLimit which setup run number Left next part
Because ReadFault setup run number Left next part = next ≡ []
Because WriteFault setup run number Left next part = Unit {0}
Because OutOfMemory setup run number Left next part = Unit {0}
Because status setup run number Left next part = ⊥

-- what was read of the input: all of it, where the run is done; and where the input failed, just these lines ended in
-- it
abbrev pub ReadsTo : Status → List (List ℕ) → Option (List ℕ) → Option (List ℕ) → Type 0
ReadsTo Done lines input left = Ends input left
ReadsTo ReadFault lines input left = (read : List ℕ) × Consumes input left read × (ended_lines read ≡ lines)
ReadsTo status lines input left = Unit {0}

-- the text of the events was made; but where there was no memory perhaps not that of the last one
abbrev pub ArePrinted : Status → List Event → List Event → Type 0
ArePrinted OutOfMemory printed events = (last : List Event) × (events ≡ printed ++ last) × (length last ≤ 1)
ArePrinted status printed events = events ≡ printed

-- In a run, these lines of the input were carried out, from the one of this number on, and then a part of the next one,
-- or none; for that reason no more.
pub record EndsAfter (status : Status) (setup : Setup) (number : ℕ) (lines next : List (List ℕ))
    (input : Option (List ℕ)) (run : RunV) (printed events : List Event) : Type 0 where
  pub whole : List Event
  pub part : List Event
  pub are : events ≡ whole ++ part
  pub follows : Follows setup run lines whole
  pub begun : BeginsNext setup (grown_by run whole) next part
  pub because : Because status setup (grown_by run whole) (number + length lines) (Leaves input lines) next part
  pub all : ArePrinted status printed events

-- ---- which text was taken

-- the whole text of a run: the lines of its events, those of its effects, and `end`
abbrev pub run_text : RunV → List Event → List ℕ
run_text run events = events_text run events ++ (effects_text (grown_by run events).trace.past ++ codes "end\n")

abbrev pub Took : Status → Option (List ℕ) → Option (List ℕ) → RunV → List Event → Type 0
Took Done before now run events = Appends before now (run_text run events)
Took WriteFault before now run events = TakesFront before now (run_text run events)
Took OutOfMemory before now run events = TakesFront before now (events_text run events)
Took status before now run events = Appends before now (events_text run events)

-- ---- a run that ended

-- Between these moments, a run ended with this status.
pub record HasRun (status : Status) (setup : Setup) (first now : Streams) (run : RunV) : Type 0 where
  pub lines : List (List ℕ)
  pub next : List (List ℕ)
  pub printed : List Event
  pub events : List Event
  pub count : length lines ≤ 2 ^ 22
  pub begins : Leaves first.unread lines (BeginsWith next)
  pub reads : ReadsTo status lines first.unread now.unread
  pub after : EndsAfter status setup 1 lines next first.unread run printed events
  pub took : Took status first.taken now.taken run printed

-- So did one from where the past leads, with a choice of the records in doubt that were kept at its end. The theorem of
-- the world holds of it, and the handed-back disks are those of its servers: each image of a disk stands for its
-- server, and where that is in doubt for it with all its records in doubt. So another run may go on from there, with
-- other clients and another lease too. Each stop of a server by its device is paid.
pub record RunsOver {D : Type 0} (faults : D → ℕ) (seen : D → Contents) (images : D → Image → Type 0) (setup : Setup)
    (past : List PastRun) (old disks : List D) (status : Status) (first now : Streams) : Type 0 where
  pub keep : ℕ → Bool
  pub servers : List ServerState
  pub entries : Entries
  pub reached : IsReached setup (with_choice keep past) servers entries
  pub ends : HasRun status setup first now (start_run setup servers entries)
  pub may : all_enabled (fresh_world setup servers) ends.events ≡ true
  pub few : length ends.events ≤ EVENTS
  pub holds : HoldsOfRun (run (start_trace setup servers entries) ends.events)
  pub left : AreDisks seen images setup disks (run (start_trace setup servers entries) ends.events).world.servers
  pub next : AreReachedOnAllTerms seen images setup disks
      (record { setup = setup; events = ends.events; keep = keep } ∷ with_choice keep past)
  pub paid : UnlessMemory status (RunIsPaid faults old disks (ends.lines ++ ends.next) ends.events)

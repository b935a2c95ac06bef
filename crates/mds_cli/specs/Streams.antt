-- Both streams of a run at one moment, and what reading a line does to them.
use Rattle.std.specs.Prelude.{◌≡◌, ℕ, ◌+◌, ◌<◌, ◌≤◌, ◌^◌, Bool, true, false, List, [], ◌∷◌, ◌++◌, Option, length, take}
use Rattle.std.specs.Prelude.{drop}
use Rattle.std.specs.Io.KnownBytes.{Appends, Consumes, prepend_known}
use Rattle.mds_out.specs.Fault.{Rose}
use Rattle.mds_out.specs.Known.{OnTold, OnKnown}
use Rattle.mds_out.specs.Stream.{TakesFront}
use Rattle.mds_cli.specs.Lines.{IsPart}
use Rattle.mds_cli.specs.declared.reader.Part.{Part}
use Rattle.mds_cli.specs.declared.reader.Part.TheVariants.{Ended, Open, TooLong}
use Rattle.mds_cli.specs.declared.line.Line.{Line}
use Rattle.mds_cli.specs.declared.line.Line.TheVariants as lines
use Rattle.mds_cli.specs.declared.line.Stop.{Stop}
use Rattle.mds_cli.specs.declared.line.Stop.TheVariants as stops

-- what taking a part of a line from the held bytes does to them and to the line
pub record EndsLine (held left line longer : List ℕ) : Type 0 where
  pub part : List ℕ
  pub is_part : IsPart part
  pub splits : held ≡ part ++ 10 ∷ left
  pub grows : longer ≡ line ++ part
  pub short : length longer ≤ 2 ^ 20 + 1

pub record GoesOn (held left line longer : List ℕ) : Type 0 where
  pub is_part : IsPart held
  pub none : left ≡ []
  pub grows : longer ≡ line ++ held
  pub short : length longer ≤ 2 ^ 20 + 1

pub record PassesLimit (held left line : List ℕ) : Type 0 where
  pub same : left ≡ held
  pub part : List ℕ
  pub rest : List ℕ
  pub is_part : IsPart part
  pub splits : held ≡ part ++ rest
  pub long : 2 ^ 20 + 1 < length line + length part

abbrev pub TakesPart : Part → List ℕ → List ℕ → List ℕ → List ℕ → Type 0
TakesPart Ended held left line longer = EndsLine held left line longer
TakesPart Open held left line longer = GoesOn held left line longer
TakesPart TooLong held left line longer = PassesLimit held left line

-- Text on its way to the sink: a front of it was taken, and the rest is pending.
pub record Flows (before now : Option (List ℕ)) (pending text : List ℕ) : Type 0 where
  pub count : ℕ
  pub within : count ≤ length text
  pub taken : Appends before now (take count text)
  pub rest : pending ≡ drop count text

-- Where the bytes were told before, none is left.
abbrev pub Ends : Option (List ℕ) → Option (List ℕ) → Type 0
Ends before now = OnKnown before now (λ bytes left. left ≡ [])

-- What is known of both streams: the bytes held, all that are still unread, the bytes taken, the text that waits to be
-- written, and the counts of faults.
pub record Streams : Type 0 where
  pub held : List ℕ
  pub unread : Option (List ℕ)
  pub taken : Option (List ℕ)
  pub pending : List ℕ
  pub reads : ℕ
  pub writes : ℕ

-- the streams where a reader holds these bytes
abbrev pub streams : List ℕ → Option (List ℕ) → Option (List ℕ) → List ℕ → ℕ → ℕ → Streams
streams held left taken pending reads writes = record {
  held = held;
  unread = prepend_known held left;
  taken = taken;
  pending = pending;
  reads = reads;
  writes = writes;
}

-- the streams of a moment, by what source and sink tell of themselves
abbrev pub moment : {S K : Type 0} → (S → Option (List ℕ)) → (S → ℕ) → (K → Option (List ℕ)) → (K → ℕ) → S → K → List ℕ
    → List ℕ → Streams
moment left reads taken writes input output held pending =
    streams held (left input) (taken output) pending (reads input) (writes output)

-- Neither stream failed; what was pending was taken or still waits.
pub record IsQuiet (before now : Streams) : Type 0 where
  pub reads : now.reads ≡ before.reads
  pub writes : now.writes ≡ before.writes
  pub flows : Flows before.taken now.taken now.pending before.pending

-- A line was read, with its line feed.
pub record ReadsEnded (before now : Streams) (line : List ℕ) : Type 0 where
  pub quiet : IsQuiet before now
  pub is_part : IsPart line
  pub consumed : Consumes before.unread now.unread (line ++ 10 ∷ [])

-- The last line was read, which has no line feed.
pub record ReadsLast (before now : Streams) (line : List ℕ) : Type 0 where
  pub quiet : IsQuiet before now
  pub is_part : IsPart line
  pub some : 1 ≤ length line
  pub consumed : Consumes before.unread now.unread line
  pub ends : Ends before.unread now.unread

-- There was no line left.
pub record ReadsNone (before now : Streams) : Type 0 where
  pub quiet : IsQuiet before now
  pub consumed : Consumes before.unread now.unread []
  pub ends : Ends before.unread now.unread

-- whether a line was found, and whether it has a line feed
abbrev pub is_line : Line → Bool
is_line lines.None = false
is_line found = true

abbrev pub has_feed : Line → Bool
has_feed lines.Ended = true
has_feed found = false

abbrev pub ReadsLine : Line → Streams → Streams → List ℕ → Type 0
ReadsLine lines.Ended before now line = ReadsEnded before now line
ReadsLine lines.Last before now line = ReadsLast before now line
ReadsLine lines.None before now line = ReadsNone before now

-- A line has more bytes than a line may have.
pub record BeginsLong (bytes : List ℕ) : Type 0 where
  pub part : List ℕ
  pub rest : List ℕ
  pub is_part : IsPart part
  pub splits : bytes ≡ part ++ rest
  pub long : 2 ^ 20 + 1 < length part

pub record StopsLong (before now : Streams) : Type 0 where
  pub quiet : IsQuiet before now
  pub begins : OnTold before.unread BeginsLong

-- The source failed, in the midst of a line, with no byte held.
pub record StopsReading (before now : Streams) : Type 0 where
  pub reads : Rose before.reads now.reads
  pub writes : now.writes ≡ before.writes
  pub flows : Flows before.taken now.taken now.pending before.pending
  pub none : now.held ≡ []
  pub part : List ℕ
  pub is_part : IsPart part
  pub consumed : Consumes before.unread now.unread part

-- The sink failed, with a front of what was pending taken.
pub record StopsWriting (before now : Streams) : Type 0 where
  pub reads : now.reads ≡ before.reads
  pub writes : Rose before.writes now.writes
  pub front : TakesFront before.taken now.taken before.pending

abbrev pub StopsLine : Stop → Streams → Streams → Type 0
StopsLine stops.TooLong before now = StopsLong before now
StopsLine stops.ReadFault before now = StopsReading before now
StopsLine stops.WriteFault before now = StopsWriting before now
StopsLine stops.OutOfMemory before now = IsQuiet before now

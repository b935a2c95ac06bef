-- Records as bytes: which records have a spelling, and the one spelling of each. It knows no reader and no writer.
use Rattle.std.specs.Prelude.{◌≡◌, ℕ, ◌+◌, ◌-◌, ◌<◌, ◌≤◌, ◌^◌, List, [], ◌∷◌, ◌++◌, length, take, Option, Some, None}
use Rattle.std.specs.Prelude.{Result, Err, IsTrue, Bool, true, false}
use Rattle.std.specs.Int.{w16, w32, w64, to_be_bytes}
use Rattle.mds_base.specs.declared.attr.Stamp.{Stamp}
use Rattle.mds_base.specs.declared.call.Call.{Call}
use Rattle.mds_base.specs.declared.call.Call.TheVariants.{Create, Mkdir, Remove, Setattr, Grab, Load, Link, Seal}
use Rattle.mds_base.specs.declared.call.Call.TheVariants.{Unseal, Kill, Unlink}
use Rattle.mds_base.specs.declared.reply.Final.{Final}
use Rattle.mds_base.specs.declared.reply.Reply.TheVariants.{Said}
use Rattle.mds_base.specs.Calls.{CallOn, OnName, OnDirectory, OnPartition, asked_of, is_well_made}
use Rattle.mds_base.specs.Name.{is_name}
use Rattle.mds_base.specs.Entries.{Entries}
use Rattle.mds_base.specs.declared.row.Row.{Row}
use Rattle.mds_base.specs.PlainRules.{Allows}
use Rattle.std.specs.List.{AllByRecursion}
use Rattle.records.specs.declared.fault.RecordFault.{RecordFault}
use Rattle.records.specs.declared.fault.RecordFault.TheVariants.{OutOfMemory}
use Rattle.records.specs.declared.kinds.TheConstants as kinds
use Rattle.records.specs.declared.record.Record.{Record}
pub use Rattle.records.specs.FinalBytes.{IsDirectory, IsNumbered, tag_of, number_of, final_spelling}
use Rattle.records.specs.Installs.{IsInstall, install_spelling}
use Rattle.records.specs.LeastFormats.{some_stamped_of}
use Rattle.records.specs.Rows.{name_spelling, rows_spelling, IsRow, AreRising}
use Rattle.records.specs.declared.record.Record.TheVariants as records
use Rattle.records.specs.declared.record.Record.TheVariants.{Head, Served, Begin, Install, End}

-- ---- what has a spelling

-- the owner and the time of a stamp are within their widths
abbrev pub IsStamp : Option Stamp → Type 0
IsStamp None = Unit {0}
IsStamp (Some stamp) = (stamp.owner < 2 ^ 32) × (stamp.mtime < 2 ^ 64)

-- the rows of a load rise, without stamps
pub record IsLoad (missing : ℕ) (rows : List Row) : Type 0 where
  pub rising : AreRising false missing None rows
  pub each : AllByRecursion (IsRow false) rows

-- whether what a call is on is changed by it
abbrev pub is_change : CallOn → Bool
is_change (OnName dir name changes) = changes
is_change (OnDirectory dir) = false
is_change (OnPartition dir part) = true

-- the parts of a call are what its types allow: its name, the size and the stamp that a setattr sets, the rows of a
-- load
abbrev pub IsNamed : CallOn → Type 0
IsNamed (OnName dir name changes) = IsTrue (is_name name)
IsNamed on = Unit {0}

abbrev pub FitsItsTypes : Call → Type 0
FitsItsTypes (Setattr dir name mode size stamp) = (size < 2 ^ 64) × IsStamp stamp
FitsItsTypes call = Unit {0}

abbrev pub HasItsRows : ℕ → Call → Type 0
HasItsRows missing (Load dir rows) = IsLoad missing rows
HasItsRows missing call = Unit {0}

-- a call that a log keeps, as far as can be said while the last `missing` bytes of its spelling are still to come: a
-- change that is well made
pub record IsChangeBut (missing : ℕ) (call : Call) : Type 0 where
  pub changes : IsTrue (is_change (asked_of call))
  pub made : IsTrue (is_well_made call)
  pub named : IsNamed (asked_of call)
  pub fits : FitsItsTypes call
  pub rows : HasItsRows missing call

-- a call that a log keeps
abbrev pub IsChange : Call → Type 0
IsChange call = IsChangeBut 0 call

-- a final that the plain rules allow for the call on some map
abbrev pub MaySay : Call → Final → Type 0
MaySay call said = (entries : Entries) × Allows entries call (Said said)

-- the head of a log of the first format
pub record IsHead (format servers server threshold : ℕ) : Type 0 where
  pub format_is : format ≡ 1
  pub some_server : 1 ≤ servers
  pub few_servers : servers ≤ 32
  pub below : server < servers
  pub some_row : 1 ≤ threshold
  pub few_rows : threshold ≤ 8000

-- a change with its reply, whose final has the last 9 bytes
pub record IsServed (missing client seq part : ℕ) (call : Call) (said : Final) : Type 0 where
  pub some_client : 1 ≤ client
  pub few_clients : client ≤ 64
  pub from_one : 1 ≤ seq
  pub fits : seq < 2 ^ 64
  pub below : part < 1024
  pub change : IsChangeBut (missing - 9) call
  pub reply : MaySay call said
  pub numbered : IsNumbered said

-- the begin or the end of a split of a partition of this depth
pub record IsSplit (dir part depth : ℕ) : Type 0 where
  pub directory : IsDirectory dir
  pub shallow : depth < 10
  pub below : part < 2 ^ depth

-- a record that has a spelling, as far as can be said while the last `missing` bytes of it are still to come
abbrev pub IsRecordBut : ℕ → Record → Type 0
IsRecordBut missing (Head format servers server threshold) = IsHead format servers server threshold
IsRecordBut missing records.Opened = Unit {0}
IsRecordBut missing (Served client seq part call said) = IsServed missing client seq part call said
IsRecordBut missing (Begin dir part depth) = IsSplit dir part depth
IsRecordBut missing (Install dir part depth bitmap sessions rows) =
    IsInstall missing dir part depth bitmap sessions rows
IsRecordBut missing (End dir part depth) = IsSplit dir part depth

-- a record that has a spelling
abbrev pub IsRecord : Record → Type 0
IsRecord item = IsRecordBut 0 item

-- ---- the spellings

-- the kind of a call, its directory, and what belongs to the kind
abbrev pub call_spelling : Call → List ℕ
call_spelling (Create dir name) = kinds.CALL_CREATE ∷ (to_be_bytes w64 dir ++ name_spelling name)
call_spelling (Mkdir dir name) = kinds.CALL_MKDIR ∷ (to_be_bytes w64 dir ++ name_spelling name)
call_spelling (Remove dir name) = kinds.CALL_REMOVE ∷ (to_be_bytes w64 dir ++ name_spelling name)
call_spelling (Setattr dir name mode size None) =
    kinds.CALL_SETATTR ∷ (to_be_bytes w64 dir ++ (name_spelling name ++ (to_be_bytes w16 mode ++ to_be_bytes w64 size)))
call_spelling (Setattr dir name mode size (Some stamp)) = kinds.CALL_STAMP
    ∷ (to_be_bytes w64 dir
    ++ (name_spelling name
    ++ (to_be_bytes w16 mode
    ++ (to_be_bytes w64 size ++ (to_be_bytes w32 stamp.owner ++ to_be_bytes w64 stamp.mtime)))))
call_spelling (Grab dir name count) =
    kinds.CALL_GRAB ∷ (to_be_bytes w64 dir ++ (name_spelling name ++ to_be_bytes w32 count))
call_spelling (Load dir rows) = kinds.CALL_LOAD ∷ (to_be_bytes w64 dir ++ rows_spelling false rows)
call_spelling (Link dir name id) = kinds.CALL_LINK ∷ (to_be_bytes w64 dir ++ (name_spelling name ++ to_be_bytes w64 id))
call_spelling (Seal dir part epoch) =
    kinds.CALL_SEAL ∷ (to_be_bytes w64 dir ++ (to_be_bytes w32 part ++ to_be_bytes w64 epoch))
call_spelling (Unseal dir part epoch) =
    kinds.CALL_UNSEAL ∷ (to_be_bytes w64 dir ++ (to_be_bytes w32 part ++ to_be_bytes w64 epoch))
call_spelling (Kill dir epoch) = kinds.CALL_KILL ∷ (to_be_bytes w64 dir ++ to_be_bytes w64 epoch)
call_spelling (Unlink dir name id) =
    kinds.CALL_UNLINK ∷ (to_be_bytes w64 dir ++ (name_spelling name ++ to_be_bytes w64 id))
call_spelling call = []

-- the directory, the partition and the depth of a split
abbrev pub split_spelling : ℕ → ℕ → ℕ → List ℕ
split_spelling dir part depth = to_be_bytes w64 dir ++ (to_be_bytes w32 part ++ depth ∷ [])

-- the kind of an Install goes by whether a row has a stamp
abbrev pub install_kind : Bool → ℕ
install_kind false = kinds.RECORD_INSTALL
install_kind true = kinds.RECORD_INSTALL_STAMPED

-- the kind of a record, and its fields
abbrev pub record_spelling : Record → List ℕ
record_spelling (Head format servers server threshold) =
    kinds.RECORD_HEAD ∷ format ∷ (to_be_bytes w32 servers ++ (to_be_bytes w32 server ++ to_be_bytes w32 threshold))
record_spelling records.Opened = kinds.RECORD_OPENED ∷ []
record_spelling (Served client seq part call said) = kinds.RECORD_SERVED
    ∷ (to_be_bytes w32 client
    ++ (to_be_bytes w64 seq ++ (to_be_bytes w32 part ++ (call_spelling call ++ final_spelling said))))
record_spelling (Begin dir part depth) = kinds.RECORD_BEGIN ∷ split_spelling dir part depth
record_spelling (End dir part depth) = kinds.RECORD_END ∷ split_spelling dir part depth
record_spelling (Install dir part depth bitmap sessions rows) =
    install_kind (some_stamped_of rows) ∷ install_spelling dir part depth bitmap sessions rows

-- these bytes spell the record, as far as can be said while the last `missing` of them are still to come
abbrev pub SpellsBut : ℕ → List ℕ → Record → Type 0
SpellsBut missing bytes item = IsRecordBut missing item × (bytes ≡ record_spelling item)

-- these bytes spell the record
abbrev pub Spells : List ℕ → Record → Type 0
Spells bytes item = SpellsBut 0 bytes item

-- ---- where no record begins the bytes

-- more bytes may come that make a spelling of the bytes; a name that is not whole yet is taken to rise
abbrev pub IsBegun : List ℕ → Type 0
IsBegun bytes = (more : List ℕ) × (item : Record) × (0 < length more) × SpellsBut (length more) (bytes ++ more) item

-- the byte at this place is the first after which nothing can become a spelling
pub record IsBadAt (bytes : List ℕ) (offset : ℕ) : Type 0 where
  pub within : offset < length bytes
  pub before : IsBegun (take offset bytes)
  pub after : (more : List ℕ) (item : Record) → SpellsBut (length more) (take (offset + 1) bytes ++ more) item → ⊥

-- it is this answer, unless memory ran out
abbrev pub GivesOrMemory : Result (Record × ℕ) RecordFault → Result (Record × ℕ) RecordFault → Type 0
GivesOrMemory (Err OutOfMemory) wanted = Unit {0}
GivesOrMemory answer wanted = answer ≡ wanted

-- Reading a log: a record at the front of some bytes, a body, and what a refused call says.
use Rattle.std.specs.Prelude.{◌≡◌, ◌≢◌, ℕ, ◌≤◌, List, [], ◌++◌, length, take, Option, None, Some, ⊤, true}
use Rattle.std.specs.List.{AllByRecursion, flat_map}
use Rattle.mds_base.specs.declared.setup.Setup.{Setup}
use Rattle.mds_base.specs.declared.store_fault.Damage.{Damage}
use Rattle.mds_base.specs.declared.store_fault.Damage.TheVariants as damages
use Rattle.mds_base.specs.declared.store_fault.Head.{Head}
use Rattle.mds_base.specs.declared.store_fault.StoreFault.{StoreFault}
use Rattle.mds_base.specs.declared.store_fault.StoreFault.TheVariants as faults
use Rattle.gate_log.specs.declared.gate_log.LogFault.{LogFault}
use Rattle.gate_log.specs.declared.gate_log.LogFault.TheVariants.{Device, Stopped, BadLog, OutOfMemory}
use Rattle.mds_out.specs.declared.disk.DiskFault.{DiskFault}
use Rattle.mds_out.specs.declared.disk.DiskFault.TheVariants as disk_faults
use Rattle.mds_out.specs.Known.{OnTold}
use Rattle.records.specs.declared.record.Record.{Record}
use Rattle.records.specs.declared.record.Record.TheVariants as records
use Rattle.records.specs.Spelling.{IsRecord, IsHead, Spells, record_spelling}
use Rattle.node_core.specs.Nodes.{NodeAndRows}
use Rattle.node_core.specs.Serving.{may_follow, replayed, replayed_all}
use Rattle.gate_log.specs.Calls.{HasRead}
use Rattle.gate_log.specs.LogState.{LogState}
use Rattle.node_store.specs.Stands.{StandFor, all_follow, IsBody, head_of}
use Rattle.node_store.specs.Damage.{NoneFollows, IsDamaged, IsDamagedAtRestart, head_spelling, wanted_head}
use Rattle.node_store.specs.Store.{HoldsStore}

-- a record whose spelling of so many bytes begins these, or none
abbrev pub IsFrontOf : List ℕ → Option (Record × ℕ) → Type 0
IsFrontOf bytes None = (item : Record) (more : List ℕ) → IsRecord item → bytes ≢ record_spelling item ++ more
IsFrontOf bytes (Some front) = (front.1 ≤ length bytes) × Spells (take front.1 bytes) front.0

-- so many bytes are a record that may follow at the store and leads to the new one
pub record TakesRecord (old : NodeAndRows) (bytes : List ℕ) (count : ℕ) (new : NodeAndRows) : Type 0 where
  pub item : Record
  pub within : count ≤ length bytes
  pub spelled : Spells (take count bytes) item
  pub follows : may_follow old item ≡ true
  pub leads : new ≡ replayed old item

-- what taking the first record of the bytes comes to: none that may follow begins them, or one of so many bytes does
abbrev pub TakesFirst : NodeAndRows → List ℕ → Option ℕ → NodeAndRows → Type 0
TakesFirst old bytes None new = NoneFollows old bytes
TakesFirst old bytes (Some count) new = TakesRecord old bytes count new

-- the bytes before this place are records that lead from the one store to the other
pub record IsRead (old : NodeAndRows) (body : List ℕ) (offset : ℕ) (new : NodeAndRows) : Type 0 where
  pub front : List Record
  pub each : AllByRecursion IsRecord front
  pub within : offset ≤ length body
  pub split : take offset body ≡ flat_map record_spelling front
  pub follow : all_follow old front ≡ true
  pub leads : new ≡ replayed_all old front
  pub empty : offset ≡ length body → front ≡ []

-- the records of a body lead from the one store to the other
pub record LeadsOn (old : NodeAndRows) (body : List ℕ) (new : NodeAndRows) : Type 0 where
  pub items : List Record
  pub is : IsBody body items
  pub follow : all_follow old items ≡ true
  pub leads : new ≡ replayed_all old items

-- The records before this place of the body lead to some store, and no record that may follow there stands at it; or
-- the body is empty.
pub record IsWrongWithin (old : NodeAndRows) (body : List ℕ) (offset : ℕ) : Type 0 where
  pub front : List Record
  pub each : AllByRecursion IsRecord front
  pub rest : List ℕ
  pub split : body ≡ flat_map record_spelling front ++ rest
  pub follow : all_follow old front ≡ true
  pub none : NoneFollows (replayed_all old front) rest
  pub empty : rest ≡ [] → front ≡ []
  pub place_is : offset ≡ length (flat_map record_spelling front)

-- what reading a body comes to: it was read whole, or a record may not stand at this place of it
abbrev pub IsBodyRead : NodeAndRows → List ℕ → Option ℕ → NodeAndRows → Type 0
IsBodyRead old body None new = LeadsOn old body new
IsBodyRead old body (Some offset) new = IsWrongWithin old body offset

-- the head that a record is
abbrev pub IsHeadOf : Record → Option Head → Type 0
IsHeadOf item None = (head : Head) → IsRecord item → item ≢ records.Head 1 head.servers head.server head.threshold
IsHeadOf item (Some head) = IsRecord item → item ≡ records.Head 1 head.servers head.server head.threshold

-- the body is this head, or no head
abbrev pub IsHeadFound : List ℕ → Option Head → Type 0
IsHeadFound body None = (head : Head) → IsHead 1 head.servers head.server head.threshold → body ≢ head_spelling head
IsHeadFound body (Some head) = IsHead 1 head.servers head.server head.threshold × (body ≡ head_spelling head)

-- the body is the head of another server, or of other servers
pub record IsOthersHead (server : ℕ) (setup : Setup) (body : List ℕ) (kept wanted : Head) : Type 0 where
  pub spelled : body ≡ head_spelling kept
  pub is : IsHead 1 kept.servers kept.server kept.threshold
  pub wanted_is : wanted ≡ wanted_head server setup
  pub differ : kept ≢ wanted

-- what is wrong with a log's first body
abbrev pub IsWrongHead : ℕ → Setup → List ℕ → Damage → Type 0
IsWrongHead server setup body damages.Spelling = IsHeadFound body None
IsWrongHead server setup body (damages.Sum kept found) = ⊥
IsWrongHead server setup body (damages.Head kept wanted) = IsOthersHead server setup body kept wanted

-- what reading a log's first body comes to: it is the head of this server, or this is wrong with it
abbrev pub IsHeadRead : ℕ → Setup → List ℕ → Option Damage → Type 0
IsHeadRead server setup body None = body ≡ record_spelling (head_of server setup)
IsHeadRead server setup body (Some damage) = IsWrongHead server setup body damage

-- what a store answers where its log refused
abbrev pub store_fault_of : LogFault → StoreFault
store_fault_of Device = faults.Device
store_fault_of Stopped = faults.Stopped
store_fault_of (BadLog offset) = faults.Damaged 1 offset damages.Spelling
store_fault_of OutOfMemory = faults.OutOfMemory

-- what a store answers where its disk refused
abbrev pub disk_fault_of : DiskFault → StoreFault
disk_fault_of disk_faults.Device = faults.Device
disk_fault_of disk_faults.OutOfMemory = faults.OutOfMemory

-- the store answers neither Stopped nor Room; a damage is of file 1, and this holds of the bytes that the disk tells
abbrev pub IsRefusal : (ℕ → Damage → List ℕ → Type 0) → Option (List ℕ) → StoreFault → Type 0
IsRefusal bad seen faults.Device = ⊤
IsRefusal bad seen faults.Stopped = ⊥
IsRefusal bad seen (faults.Damaged file offset damage) = (file ≡ 1) × OnTold seen (bad offset damage)
IsRefusal bad seen faults.Room = ⊥
IsRefusal bad seen faults.OutOfMemory = ⊤

-- of a fault that tells of damage this holds of the bytes that were told
abbrev pub OnDamage : StoreFault → Option (List ℕ) → (List ℕ → Type 0) → Type 0
OnDamage (faults.Damaged file offset damage) seen P = OnTold seen P
OnDamage fault seen P = ⊤

-- the bodies before the gate at this place stand for the store
pub record HasReplayed (server : ℕ) (setup : Setup) (log : LogState) (gate : ℕ) (store : NodeAndRows)
    (bytes : List ℕ) : Type 0 where
  pub bodies : List (List ℕ)
  pub has : HasRead log gate bodies bytes
  pub stands : StandFor server setup bodies store

-- at the log's end the bytes hold the store, else the bodies before the next gate stand for it
abbrev pub ReplaysOn : ℕ → Setup → LogState → Option ℕ → NodeAndRows → List ℕ → Type 0
ReplaysOn server setup log None store bytes = HoldsStore server setup log store bytes
ReplaysOn server setup log (Some next) store bytes = HasReplayed server setup log next store bytes

-- the bytes that the disk tells stand for no store of this server, and this is why
abbrev pub IsBad : ℕ → Setup → ℕ → Damage → List ℕ → Type 0
IsBad server setup offset damage bytes = IsDamaged server setup bytes offset damage

-- .. where the server was up before
abbrev pub IsBadAtRestart : ℕ → Setup → ℕ → Damage → List ℕ → Type 0
IsBadAtRestart server setup offset damage bytes = IsDamagedAtRestart server setup bytes offset damage

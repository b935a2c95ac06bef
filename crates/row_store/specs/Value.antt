-- The value of a row store, and what its disk owes it.
use Rattle.std.specs.Prelude.{◌≡◌, ◌+◌, ◌<◌, ◌≤◌, ℕ, List, [], ◌∷◌, ◌++◌, length, drop, Option, None, Some, IfSome}
use Rattle.std.specs.Prelude.{IsSome, map, Bool, true, false, ⊤}
use Rattle.std.specs.List.{AllByRecursion}
use Rattle.frame_pool.specs.Frames.{Frames, free_frames}
use Rattle.gate_log.specs.Calls.{IsSomeGate}
use Rattle.gate_log.specs.Log.{gate_place}
use Rattle.gate_log.specs.LogState.{LogState, IsLogOf, IsReady as IsLogFile}
use Rattle.mds_base.specs.declared.row_key.RowKey.{RowKey}
use Rattle.mds_base.specs.declared.store_fault.StoreFault.{StoreFault}
use Rattle.mds_base.specs.declared.store_fault.StoreFault.TheVariants.{Device, Stopped, Damaged, Room, OutOfMemory}
use Rattle.mds_base.specs.RowKeys.{RowMap, row_key_cmp}
use Rattle.std.specs.BTreeMap as tree
use Rattle.mds_out.specs.Disk.{Image, Contents, Lengths}
use Rattle.mds_out.specs.Known.{OnTold}
use Rattle.root_slots.specs.Crash.{IsUnder}
use Rattle.root_slots.specs.declared.root.Root.{Root}
use Rattle.root_slots.specs.declared.root_slots.RootSlots.{RootSlots}
use Rattle.root_slots.specs.declared.root_slots.Step.TheVariants.{Begun}
use Rattle.root_slots.specs.Root.{is_fresh, is_root}
use Rattle.root_slots.specs.Slot.{HasNoRoot, root_in}
use Rattle.root_slots.specs.Slots.{HasNumber, IsReady as AreSlotsReady}
use Rattle.merge_rows.specs.Merging.{IsMerging}
use Rattle.row_store.specs.declared.row_store.InForce.{InForce}
use Rattle.row_store.specs.declared.merges.Pending.{Pending}
use Rattle.row_store.specs.declared.row_store.RowStore.{RowStore}
use Rattle.row_store.specs.Caching.{AreCached, IsEmpty}
use Rattle.row_store.specs.Damages.{IsState}
use Rattle.row_store.specs.Files.{named_by}
use Rattle.row_store.specs.Rows.{laid_over, rows_of, rows_under}
use Rattle.row_store.specs.Store.{Kept, StandsFor, HoldsState, TellsAll, reading, base_of}
use Rattle.sorted_table.specs.declared.table_row.TableRow.{TableRow}
use Rattle.sorted_table.specs.TableRows.{IsMarked}
use Rattle.sorted_table.specs.Tables.{TableState, HasRows, IsDurable, IsReady as IsTableReady}

-- ---- which store it is

-- these open tables have the rows beside them
abbrev pub HaveRows : List TableState → List (List TableRow) → Image → Type 0
HaveRows [] [] image = ⊤
HaveRows [] (rows ∷ more) image = ⊥
HaveRows (table ∷ tables) [] image = ⊥
HaveRows (table ∷ tables) (rows ∷ more) image = HasRows table rows (image table.file) × HaveRows tables more image

-- the disk has what is kept under this root, and the log and the tables are open
pub record IsOpenOn (root : Root) (log : LogState) (tables : List TableState) (kept : Kept)
    (image : Image) : Type 0 where
  pub rows : List (List TableRow)
  pub in_force : root_in (image 0) ≡ Some root
  pub state : HoldsState kept.state (image root.state)
  pub log_file : log.file ≡ root.log_file
  pub bodies : IsLogOf log kept.bodies (image root.log_file)
  pub files : map (λ table. table.file) tables ≡ root.tables
  pub hold : HaveRows tables rows image
  pub base : kept.base ≡ rows_under rows

-- what is kept, by what is in force; of a new disk nothing
abbrev pub KeepsBy : Option InForce → List TableState → Option Kept → Image → Type 0
KeepsBy None tables None image = HasNoRoot (image 0) × (tables ≡ [])
KeepsBy None tables (Some kept) image = ⊥
KeepsBy (Some force) tables None image = ⊥
KeepsBy (Some force) tables (Some kept) image = IsOpenOn force.root force.log tables kept image

-- This is kept on the disk, and this is the map: the base, with what was committed and redone since.
pub record Keeps (store : RowStore) (kept : Option Kept) (rows : RowMap) (image : Image) : Type 0 where
  pub by : KeepsBy store.force store.tables.items kept image
  pub rows_are : rows ≡ laid_over (base_of kept) (rows_of store.fresh.entries)

-- ---- what the disk owes it

-- a crash leaves the root in force and the files that it names
abbrev pub IsAsNamed : Option InForce → Image → Image → Type 0
IsAsNamed None image crashed = crashed 0 ≡ image 0
IsAsNamed (Some force) image crashed = IsUnder force.root image crashed

-- the file holds a state, at each image
pub record IsStateThere (file : ℕ) (seen : Contents) (images : Image → Type 0) : Type 0 where
  pub told : OnTold (seen file) IsState
  pub durable : IsDurable file seen images

-- the table is open, and each image has it
pub record IsTableOpen (table : TableState) (seen : Contents) (sizes : Lengths) (images : Image → Type 0) : Type 0 where
  pub ready : IsTableReady table seen sizes
  pub durable : IsDurable table.file seen images

abbrev pub AreOpen : List TableState → Contents → Lengths → (Image → Type 0) → Type 0
AreOpen tables seen sizes images = AllByRecursion (λ table. IsTableOpen table seen sizes images) tables

abbrev pub AreReady : List TableState → Contents → Lengths → Type 0
AreReady tables seen sizes = AllByRecursion (λ table. IsTableReady table seen sizes) tables

-- the log is open
pub record IsLogReady (state : LogState) (seen : Contents) (sizes : Lengths) (images : Image → Type 0) : Type 0 where
  pub running : state.stopped ≡ false
  pub ready : IsLogFile state seen sizes images

-- the root is one that a slot can have, and its log is open
pub record IsRootReady (force : InForce) (seen : Contents) (sizes : Lengths) (images : Image → Type 0) : Type 0 where
  pub root : is_root force.root ≡ true
  pub log_file : force.log.file ≡ force.root.log_file
  pub log : IsLogReady force.log seen sizes images

abbrev pub IsForceReady : Option InForce → List TableState → Contents → Lengths → (Image → Type 0) → Type 0
IsForceReady None tables seen sizes images = tables ≡ []
IsForceReady (Some force) tables seen sizes images =
    (map (λ table. table.file) tables ≡ force.root.tables) × IsRootReady force seen sizes images

-- the files of the tables are those that the root in force names, which is one that a slot can have
abbrev pub AreNamed : Option InForce → List TableState → Type 0
AreNamed None tables = tables ≡ []
AreNamed (Some force) tables = (map (λ table. table.file) tables ≡ force.root.tables) × (is_root force.root ≡ true)

-- the slots know the number of the root in force, and nothing was done yet to the other one
abbrev pub AreNumbered : RootSlots → Option InForce → Type 0
AreNumbered slots None = (slots.force ≡ None) × (slots.spare_open ≡ false)
AreNumbered slots (Some force) = (slots.made ≡ true) × HasNumber slots.force force.root.number

-- A merge goes on of the oldest tables, two at least, behind so many newer ones. Its file is none that the root names.
pub record IsPending (pending : Pending) (named : List ℕ) (tables : List TableState) (seen : Contents)
    (sizes : Lengths) : Type 0 where
  pub file_is : pending.merge.builder.file ≡ pending.file
  pub apart : is_fresh pending.file named ≡ true
  pub some : pending.newer + 2 ≤ length tables
  pub merging : IsMerging pending.merge (drop pending.newer tables) seen sizes

abbrev pub IsMergeReady : Option Pending → List ℕ → List TableState → Contents → Lengths → Type 0
IsMergeReady None named tables seen sizes = ⊤
IsMergeReady (Some pending) named tables seen sizes = IsPending pending named tables seen sizes

-- The disk is as the calls of this store left it, some frame is free, and each block that is kept in memory is one of
-- its tables as the disk has it.
pub record IsReady (store : RowStore) (seen : Contents) (sizes : Lengths) (images : Image → Type 0) : Type 0 where
  pub frames : 4 ≤ free_frames store.pool
  pub slots_run : store.slots.stopped ≡ false
  pub begun : store.slots.step ≡ Begun
  pub numbered : AreNumbered store.slots store.force
  pub slots : AreSlotsReady store.slots seen sizes images
  pub force : IsForceReady store.force store.tables.items seen sizes images
  pub tables : AreReady store.tables.items seen sizes
  pub cached : AreCached store.cache store.tables.items seen
  pub merging : IsMergeReady store.merge (named_by store.force) store.tables.items seen sizes
  pub marked : (key : RowKey) → IfSome (tree.get row_key_cmp store.fresh key) IsMarked
  pub steady : TellsAll seen → (crashed : Image) → images crashed → IsAsNamed store.force (reading seen) crashed

-- no flush was made yet
abbrev pub IsNew : RowStore → Type 0
IsNew store = store.force ≡ None

-- some root is in force
abbrev pub HasRoot : RowStore → Type 0
HasRoot store = IsSome store.force

-- the bytes of the log in force
abbrev pub length_of : Option InForce → ℕ
length_of None = 0
length_of (Some force) = force.log.length

-- the disk owes the store what it owed
abbrev pub StaysReady : RowStore → RowStore → Type 0
StaysReady old new = (new.pool ≡ old.pool) × (new.cache ≡ old.cache) × (new.slots ≡ old.slots)
    × (new.force ≡ old.force) × (new.tables.items ≡ old.tables.items) × (new.merge ≡ old.merge)
    × (((key : RowKey) → IfSome (tree.get row_key_cmp old.fresh key) IsMarked) → (key : RowKey)
    → IfSome (tree.get row_key_cmp new.fresh key) IsMarked)

-- the file of the state in force
abbrev pub state_of : Option InForce → ℕ
state_of None = 0
state_of (Some force) = force.root.state

-- a gate of the log in force stands at this place
abbrev pub IsGate : Option InForce → ℕ → Contents → Type 0
IsGate None at seen = ⊥
IsGate (Some force) at seen = (at < force.log.length) × OnTold (seen force.log.file) (IsSomeGate force.log at)

-- these bodies, the first ones that are kept, were read up to the gate at this place
pub record IsReadUpTo (kept : Kept) (offset : ℕ) (read : List (List ℕ)) : Type 0 where
  pub after : List (List ℕ)
  pub bodies : kept.bodies ≡ read ++ after
  pub place_is : offset ≡ gate_place read

-- At the end all bodies were read, else one more was read up to the next gate.
abbrev pub ReadsOn : Kept → List (List ℕ) → Option ℕ → List ℕ → Type 0
ReadsOn kept read None into = kept.bodies ≡ read
ReadsOn kept read (Some next) into = IsReadUpTo kept next (read ++ into ∷ [])

-- whether a store has stopped once this was answered
abbrev pub stops_by : StoreFault → Bool → Bool
stops_by Device before = true
stops_by Stopped before = before
stops_by (Damaged file offset damage) before = before
stops_by Room before = before
stops_by OutOfMemory before = before

-- the store of a new disk
pub record IsNewStore (pool : Frames) (slots : RootSlots) (store : RowStore) : Type 0 where
  pub frames : store.pool ≡ pool
  pub cache : IsEmpty store.cache
  pub slots_are : store.slots ≡ slots
  pub force : store.force ≡ None
  pub tables : store.tables.items ≡ []
  pub merge : store.merge ≡ None
  pub fresh : store.fresh.entries ≡ []
  pub running : store.stopped ≡ false

-- ---- crashes

-- What a store keeps an image stands for, and each image in which the root in force and its files are as in that one.
abbrev pub KeptStands : Type 0
KeptStands = (store : RowStore) (kept : Option Kept) (rows : RowMap) (image crashed : Image)
    → Keeps store kept rows image → IsAsNamed store.force image crashed → StandsFor kept crashed

-- What is wrong with a disk, and where: the root first, then the state's length and sum, the tables, newest first, and
-- the gates of the log.
use Rattle.std.specs.Prelude.{◌≡◌, ◌≢◌, ◌⊎◌, ◌+◌, ◌<◌, ℕ, List, [], ◌∷◌, length, take, drop, Some, ⊤}
use Rattle.gate_log.specs.Log.{IsCutShort}
use Rattle.mds_base.specs.declared.store_fault.Damage.{Damage}
use Rattle.mds_base.specs.declared.store_fault.Damage.TheVariants.{Spelling, Sum, Head}
use Rattle.mds_base.specs.declared.store_fault.StoreFault.{StoreFault}
use Rattle.mds_base.specs.declared.store_fault.StoreFault.TheVariants as faults
use Rattle.mds_out.specs.Disk.{Image}
use Rattle.md5.specs.Md5.{md5}
use Rattle.root_slots.specs.declared.root.Root.{Root}
use Rattle.root_slots.specs.declared.root_slots.SlotDamage.TheVariants as slot
use Rattle.root_slots.specs.Slot.{HasBadRoot, root_in}
use Rattle.row_store.specs.declared.TheConstants.{SUM_BYTES}
use Rattle.row_store.specs.Store.{HoldsState}
use Rattle.sorted_table.specs.declared.fault.TableDamage.TheVariants as table
use Rattle.sorted_table.specs.declared.table_row.TableRow.{TableRow}
use Rattle.sorted_table.specs.TableFiles.{HoldsTable, IsDamaged}

abbrev pub IsRootBad : ℕ → Damage → List ℕ → Type 0
IsRootBad offset Spelling file = HasBadRoot offset slot.Spelling file
IsRootBad offset (Sum kept other) file = HasBadRoot offset (slot.Sum kept other) file
IsRootBad offset (Head kept wanted) file = ⊥

-- ---- the state

abbrev pub IsState : List ℕ → Type 0
IsState file = (state : List ℕ) × HoldsState state file

-- the file's last 16 bytes are not the MD5 of those before: what they are, and what they were to be
pub record IsSumOther (file : List ℕ) (offset : ℕ) (kept other : List ℕ) : Type 0 where
  pub place_is : offset + SUM_BYTES ≡ length file
  pub kept_is : kept ≡ drop offset file
  pub other_is : other ≡ md5 (take offset file)
  pub differ : kept ≢ other

abbrev pub IsStateBad : ℕ → Damage → List ℕ → Type 0
IsStateBad offset Spelling file = (offset ≡ 0) × (length file < SUM_BYTES)
IsStateBad offset (Sum kept other) file = IsSumOther file offset kept other
IsStateBad offset (Head kept wanted) file = ⊥

-- ---- the tables

abbrev pub IsTable : List ℕ → Type 0
IsTable file = (rows : List TableRow) × HoldsTable rows file

abbrev pub IsTableBad : ℕ → Damage → List ℕ → Type 0
IsTableBad offset Spelling file = IsDamaged file offset table.Spelling
IsTableBad offset (Sum kept other) file = IsDamaged file offset (table.Sum kept other)
IsTableBad offset (Head kept wanted) file = ⊥

abbrev pub AreTables : List ℕ → Image → Type 0
AreTables [] image = ⊤
AreTables (file ∷ files) image = IsTable (image file) × AreTables files image

-- the first of these files that is no table
abbrev pub IsFirstBad : List ℕ → ℕ → ℕ → Damage → Image → Type 0
IsFirstBad [] bad offset damage image = ⊥
IsFirstBad (file ∷ files) bad offset damage image =
    ((bad ≡ file) × IsTableBad offset damage (image file))
    ⊎ (IsTable (image file) × IsFirstBad files bad offset damage image)

-- ---- the log

abbrev pub IsLogBad : ℕ → Damage → List ℕ → Type 0
IsLogBad offset damage file = (damage ≡ Spelling) × IsCutShort file offset

-- ---- the disk

abbrev pub IsBadUnder : Root → ℕ → ℕ → Damage → Image → Type 0
IsBadUnder root file offset damage image =
    ((file ≡ root.state) × IsStateBad offset damage (image root.state))
    ⊎ ((IsState (image root.state) × IsFirstBad root.tables file offset damage image)
    ⊎ (IsState (image root.state) × AreTables root.tables image × (file ≡ root.log_file)
    × IsLogBad offset damage (image root.log_file)))

abbrev pub IsBad : ℕ → ℕ → Damage → Image → Type 0
IsBad file offset damage image =
    ((file ≡ 0) × IsRootBad offset damage (image 0))
    ⊎ ((root : Root) × (root_in (image 0) ≡ Some root) × IsBadUnder root file offset damage image)

-- a refusal of an opening: the disk's, want of memory, or what is wrong with the bytes
abbrev pub IsRefusal : (ℕ → ℕ → Damage → Type 0) → StoreFault → Type 0
IsRefusal bad faults.Device = ⊤
IsRefusal bad faults.Stopped = ⊥
IsRefusal bad (faults.Damaged file offset damage) = bad file offset damage
IsRefusal bad faults.Room = ⊥
IsRefusal bad faults.OutOfMemory = ⊤

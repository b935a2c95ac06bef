-- What the calls of a row store answer, and what they leave of its disk.
use Rattle.std.specs.Prelude.{◌≡◌, ◌≢◌, ◌≤◌, ℕ, Result, Ok, Err, ⊤, IfErr, OnOk, IsErrOf}
use Rattle.gate_log.specs.declared.gate_log.LogFault.{LogFault}
use Rattle.gate_log.specs.declared.gate_log.LogFault.TheVariants as log
use Rattle.gate_log.specs.LogState.{IsElsewhereOld}
use Rattle.mds_base.specs.declared.store_fault.Damage.{Damage}
use Rattle.mds_base.specs.declared.store_fault.Damage.TheVariants.{Spelling, Sum}
use Rattle.mds_base.specs.declared.store_fault.StoreFault.{StoreFault}
use Rattle.mds_base.specs.declared.store_fault.StoreFault.TheVariants.{Device, Stopped, Damaged, Room, OutOfMemory}
use Rattle.mds_out.specs.declared.disk.DiskFault.{DiskFault}
use Rattle.mds_out.specs.declared.disk.DiskFault.TheVariants as disk
use Rattle.mds_out.specs.Disk.{Image, Contents, Lengths, IsUnchanged, IsElsewhereUnchanged, LeavesOnly, StaysTold}
use Rattle.mds_out.specs.Fault.{Rose}
use Rattle.root_slots.specs.declared.root_slots.RootFault.{RootFault}
use Rattle.root_slots.specs.declared.root_slots.RootFault.TheVariants as root
use Rattle.root_slots.specs.declared.root_slots.SlotDamage.{SlotDamage}
use Rattle.root_slots.specs.declared.root_slots.SlotDamage.TheVariants as slot
use Rattle.sorted_table.specs.declared.fault.TableDamage.{TableDamage}
use Rattle.sorted_table.specs.declared.fault.TableDamage.TheVariants as damage
use Rattle.sorted_table.specs.declared.fault.TableFault.{TableFault}
use Rattle.sorted_table.specs.declared.fault.TableFault.TheVariants as table

-- ---- a refusal below, as the store's

abbrev pub disk_fault_of : DiskFault → StoreFault
disk_fault_of disk.Device = Device
disk_fault_of disk.OutOfMemory = OutOfMemory

abbrev pub slot_damage_of : SlotDamage → Damage
slot_damage_of slot.Spelling = Spelling
slot_damage_of (slot.Sum kept found) = Sum kept found

abbrev pub root_fault_of : RootFault → StoreFault
root_fault_of root.Device = Device
root_fault_of root.Stopped = Stopped
root_fault_of (root.Bad offset wrong) = Damaged 0 offset (slot_damage_of wrong)
root_fault_of root.OutOfMemory = OutOfMemory

abbrev pub log_fault_of : ℕ → LogFault → StoreFault
log_fault_of file log.Device = Device
log_fault_of file log.Stopped = Stopped
log_fault_of file (log.BadLog offset) = Damaged file offset Spelling
log_fault_of file log.OutOfMemory = OutOfMemory

abbrev pub table_damage_of : TableDamage → Damage
table_damage_of damage.Spelling = Spelling
table_damage_of (damage.Sum kept found) = Sum kept found

abbrev pub table_fault_of : ℕ → TableFault → StoreFault
table_fault_of file table.Device = Device
table_fault_of file (table.Damaged offset wrong) = Damaged file offset (table_damage_of wrong)
table_fault_of file table.OutOfMemory = OutOfMemory

-- ---- what a call does to its disk

-- the disk's count never falls, rises where `Device` is answered, and stays at each other answer
pub record HasStoreCause {T : Type 0} (before now : ℕ) (result : Result T StoreFault) : Type 0 where
  pub later : before ≤ now
  pub device : IsErrOf result Device → Rose before now
  pub other : IfErr result (λ fault. fault ≢ Device → now ≡ before)
  pub kept : OnOk result (now ≡ before)

-- A call that changes nothing that a read gives. A crash at any moment of it, or after it, leaves what one might have
-- left before.
pub record IsStoreReading {D T : Type 0} (seen : D → Contents) (sizes : D → Lengths) (images : D → Image → Type 0)
    (moment : D → ℕ) (since : D → ℕ → Image → Type 0)
    (faults : D → ℕ) (leads fails_by : D → D → Type 0) (old new : D) (result : Result T StoreFault) : Type 0 where
  pub unchanged : IsUnchanged (seen old) (seen new) (sizes old) (sizes new)
  pub crash : (image : Image) → images new image → images old image
  pub any_moment : LeavesOnly moment since old new (images old)
  pub cause : HasStoreCause (faults old) (faults new) result
  pub lasts : leads old new
  pub failed : IsErrOf result Device → fails_by old new

-- A call that may change something.
pub record IsStoreChanging {D T : Type 0} (faults : D → ℕ) (leads fails_by : D → D → Type 0) (old new : D)
    (result : Result T StoreFault) : Type 0 where
  pub cause : HasStoreCause (faults old) (faults new) result
  pub lasts : leads old new
  pub failed : IsErrOf result Device → fails_by old new

-- A call that writes one file. No other file changes, or is left otherwise by a crash at any moment of it, and the disk
-- tells this one where it told it before.
pub record IsStoreWriting {D T : Type 0} (seen : D → Contents) (sizes : D → Lengths) (images : D → Image → Type 0)
    (moment : D → ℕ) (since : D → ℕ → Image → Type 0)
    (faults : D → ℕ) (leads fails_by : D → D → Type 0) (file : ℕ) (old new : D)
    (result : Result T StoreFault) : Type 0 where
  pub elsewhere : IsElsewhereUnchanged file (seen old) (seen new) (sizes old) (sizes new)
  pub told : StaysTold (seen old file) (seen new file)
  pub any_moment : LeavesOnly moment since old new (IsElsewhereOld file (images old))
  pub cause : HasStoreCause (faults old) (faults new) result
  pub lasts : leads old new
  pub failed : IsErrOf result Device → fails_by old new

-- ---- what a call answers

-- a look-up: never want of memory and never of room, and no damage where the disk tells its files
abbrev pub IsLookAnswer : {T : Type 0} → Type 0 → Result T StoreFault → Type 0
IsLookAnswer tells (Ok _) = ⊤
IsLookAnswer tells (Err Device) = ⊤
IsLookAnswer tells (Err Stopped) = ⊥
IsLookAnswer tells (Err (Damaged file offset wrong)) = tells → ⊥
IsLookAnswer tells (Err Room) = ⊥
IsLookAnswer tells (Err OutOfMemory) = ⊥

-- a call that reads what takes memory: no want of room, and no damage where the disk tells its files
abbrev pub IsCopyAnswer : {T : Type 0} → Type 0 → Result T StoreFault → Type 0
IsCopyAnswer tells (Ok _) = ⊤
IsCopyAnswer tells (Err Device) = ⊤
IsCopyAnswer tells (Err Stopped) = ⊥
IsCopyAnswer tells (Err (Damaged file offset wrong)) = tells → ⊥
IsCopyAnswer tells (Err Room) = ⊥
IsCopyAnswer tells (Err OutOfMemory) = ⊤

-- a refusal is the disk's, or want of memory
abbrev pub IsMemoryAnswer : {T : Type 0} → Result T StoreFault → Type 0
IsMemoryAnswer (Ok _) = ⊤
IsMemoryAnswer (Err Device) = ⊤
IsMemoryAnswer (Err Stopped) = ⊥
IsMemoryAnswer (Err (Damaged file offset wrong)) = ⊥
IsMemoryAnswer (Err Room) = ⊥
IsMemoryAnswer (Err OutOfMemory) = ⊤

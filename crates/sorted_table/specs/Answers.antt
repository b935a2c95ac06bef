-- What the calls of a table answer, and what they leave of its disk.
use Rattle.std.specs.Prelude.{◌≡◌, ◌≢◌, ◌≤◌, ◌+◌, ℕ, List, Option, Result, Ok, Err, ⊤, IfErr, OnOk, IsErrOf}
use Rattle.sorted_table.specs.declared.fault.TableFault.{TableFault}
use Rattle.sorted_table.specs.declared.fault.TableFault.TheVariants.{Device, Damaged, OutOfMemory}
use Rattle.sorted_table.specs.TableFiles.{IsDamaged}
use Rattle.mds_out.specs.declared.disk.DiskFault.{DiskFault}
use Rattle.mds_out.specs.declared.disk.DiskFault.TheVariants.{Device as DiskDevice, OutOfMemory as DiskMemory}
use Rattle.mds_out.specs.Fault.{Rose}
use Rattle.mds_out.specs.Known.{OnTold}

-- the table's answer to a fault of its disk
abbrev pub table_fault_of : DiskFault → TableFault
table_fault_of DiskDevice = Device
table_fault_of DiskMemory = OutOfMemory

-- A table's calls: the disk's count never falls, rises where `Device` is answered, and stays at each other answer.
pub record HasTableCause {T : Type 0} (before now : ℕ) (result : Result T TableFault) : Type 0 where
  pub later : before ≤ now
  pub device : IsErrOf result Device → Rose before now
  pub other : IfErr result (λ fault. fault ≢ Device → now ≡ before)
  pub kept : OnOk result (now ≡ before)

-- an opening's refusal: what was found damaged is what is wrong with the file, where the disk tells it
abbrev pub IsOpenAnswer : {T : Type 0} → Option (List ℕ) → Result T TableFault → Type 0
IsOpenAnswer seen (Ok _) = ⊤
IsOpenAnswer seen (Err Device) = ⊤
IsOpenAnswer seen (Err (Damaged offset damage)) = OnTold seen (λ file. IsDamaged file offset damage)
IsOpenAnswer seen (Err OutOfMemory) = ⊤

-- a look into an open table: a disk that tells what it holds is never found to be damaged, and memory is not taken
abbrev pub IsLookAnswer : {T : Type 0} → Option (List ℕ) → Result T TableFault → Type 0
IsLookAnswer seen (Ok _) = ⊤
IsLookAnswer seen (Err Device) = ⊤
IsLookAnswer seen (Err (Damaged offset damage)) = OnTold seen (λ file. ⊥)
IsLookAnswer seen (Err OutOfMemory) = ⊥

-- the same of a look that gives what takes memory
abbrev pub IsCopyAnswer : {T : Type 0} → Option (List ℕ) → Result T TableFault → Type 0
IsCopyAnswer seen (Ok _) = ⊤
IsCopyAnswer seen (Err Device) = ⊤
IsCopyAnswer seen (Err (Damaged offset damage)) = OnTold seen (λ file. ⊥)
IsCopyAnswer seen (Err OutOfMemory) = ⊤

-- a refusal is the disk's, or want of memory
abbrev pub IsMemoryAnswer : {T : Type 0} → Result T TableFault → Type 0
IsMemoryAnswer (Ok _) = ⊤
IsMemoryAnswer (Err Device) = ⊤
IsMemoryAnswer (Err (Damaged offset damage)) = ⊥
IsMemoryAnswer (Err OutOfMemory) = ⊤

-- a refusal is the device's
abbrev pub IsDeviceAnswer : {T : Type 0} → Result T TableFault → Type 0
IsDeviceAnswer (Ok _) = ⊤
IsDeviceAnswer (Err Device) = ⊤
IsDeviceAnswer (Err (Damaged offset damage)) = ⊥
IsDeviceAnswer (Err OutOfMemory) = ⊥

-- what is read of a block at hand: it is damaged only where this holds
abbrev pub IsHeldAnswer : {T : Type 0} → Type 0 → Result T TableFault → Type 0
IsHeldAnswer damaged (Ok _) = ⊤
IsHeldAnswer damaged (Err Device) = ⊥
IsHeldAnswer damaged (Err (Damaged offset damage)) = damaged
IsHeldAnswer damaged (Err OutOfMemory) = ⊥

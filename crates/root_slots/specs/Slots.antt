-- The value of the slots, and what the disk owes it.
use Rattle.std.specs.Prelude.{◌≡◌, ◌≢◌, ◌⊎◌, ◌<◌, ◌≤◌, ℕ, Bool, List, slice_index, length, true, false, ⊤, Option, Some}
use Rattle.std.specs.Prelude.{None, is_some, Result, Ok, Err, OnOk, IfErr, IsErrOf}
use Rattle.root_slots.specs.Slot.{offset_of, other_of, behind, open_content, root_read, found_in}
use Rattle.root_slots.specs.declared.TheConstants.{FILE_BYTES, OPEN}
use Rattle.root_slots.specs.declared.root.Root.{Root}
use Rattle.root_slots.specs.declared.content.Slot.{Slot}
use Rattle.root_slots.specs.declared.content.Slot.TheVariants.{First}
use Rattle.root_slots.specs.declared.content.Content.TheVariants.{Open}
use Rattle.root_slots.specs.declared.content.Found.{Found}
use Rattle.root_slots.specs.declared.content.Found.TheVariants.{New, InForce, Damaged}
use Rattle.root_slots.specs.declared.root_slots.RootSlots.{RootSlots}
use Rattle.root_slots.specs.declared.root_slots.Force.{Force}
use Rattle.root_slots.specs.declared.root_slots.Step.{Step}
use Rattle.root_slots.specs.declared.root_slots.Step.TheVariants.{Begun, Emptied, Filled}
use Rattle.root_slots.specs.declared.root_slots.RootFault.{RootFault}
use Rattle.root_slots.specs.declared.root_slots.RootFault.TheVariants as fault
use Rattle.mds_out.specs.declared.disk.DiskFault.{DiskFault}
use Rattle.mds_out.specs.declared.disk.DiskFault.TheVariants as disk
use Rattle.mds_out.specs.Disk.{Image, Contents, Lengths}
use Rattle.mds_out.specs.Fault.{Rose}
use Rattle.mds_out.specs.Known.{OnTold}

-- ---- the value

abbrev pub value_of : Bool → Option Force → Bool → RootSlots
value_of made force spare_open =
    record { made = made; force = force; spare_open = spare_open; step = Begun; stopped = false }

-- the slot that is not in force, the first one where none is
abbrev pub spare : Option Force → Slot
spare None = First
spare (Some force) = other_of force.slot

-- a new root has a greater number than the one in force
abbrev pub IsAbove : Option Force → ℕ → Type 0
IsAbove None number = ⊤
IsAbove (Some force) number = force.number < number

-- the root that was written into the slot that is not in force
abbrev pub filled_root : RootSlots → List ℕ → Root
filled_root slots file = root_read (behind file (spare slots.force))

abbrev pub emptied : RootSlots → RootSlots
emptied slots = record slots { spare_open = false; step = Emptied }

abbrev pub filled : RootSlots → ℕ → RootSlots
filled slots number = record slots { step = Filled number }

abbrev pub opened : RootSlots → ℕ → RootSlots
opened slots number = record slots {
  force = Some (record { slot = spare slots.force; number = number });
  spare_open =
      is_some slots.force;
  step = Begun;
}

-- the value once file 0 is made
abbrev pub with_file : RootSlots → RootSlots
with_file slots = record slots { made = true }

-- ---- what the disk owes it

-- the file says that this slot is in force, or that none is
abbrev pub IsForce : Option Force → Found → Type 0
IsForce None New = ⊤
IsForce None (InForce slot root) = ⊥
IsForce None (Damaged offset damage) = ⊥
IsForce (Some force) New = ⊥
IsForce (Some force) (InForce slot root) = (slot ≡ force.slot) × (root.number ≡ force.number)
IsForce (Some force) (Damaged offset damage) = ⊥

-- behind the closed gate stands a root of this number
abbrev pub IsFilled : Step → RootSlots → List ℕ → Type 0
IsFilled Begun slots file = ⊤
IsFilled Emptied slots file = ⊤
IsFilled (Filled number) slots file =
    (open_content (behind file (spare slots.force)) ≡ Open (filled_root slots file))
    × ((filled_root slots file).number ≡ number) × IsAbove slots.force number

-- the file has two slots, and they are as the value says
pub record Stands (slots : RootSlots) (file : List ℕ) : Type 0 where
  pub whole : slots.made ≡ true → FILE_BYTES ≤ length file
  pub short : slots.made ≡ false → length file < FILE_BYTES
  pub force : IsForce slots.force (found_in file)
  pub gate_open : slots.spare_open ≡ true → slots.made ≡ true → slice_index file (offset_of (spare slots.force)) ≡ OPEN
  pub gate_closed : slots.spare_open ≡ false → slots.made ≡ true
      → slice_index file (offset_of (spare slots.force)) ≢ OPEN
  pub filled : IsFilled slots.step slots file

-- the same, and a crash leaves the file so
pub record IsKept (slots : RootSlots) (images : Image → Type 0) (file : List ℕ) : Type 0 where
  pub stands : Stands slots file
  pub durable : (image : Image) → images image → image 0 ≡ file

-- The file is as the calls of these slots left it.
pub record IsReady (slots : RootSlots) (seen : Contents) (sizes : Lengths) (images : Image → Type 0) : Type 0 where
  pub size : ℕ
  pub known : sizes 0 ≡ Some size
  pub whole : slots.made ≡ true → FILE_BYTES ≤ size
  pub short : slots.made ≡ false → size < FILE_BYTES
  pub told : OnTold (seen 0) (IsKept slots images)

-- the root in force stays, or the one that was written into the other slot comes in its stead
abbrev pub IsOldOrNew : RootSlots → List ℕ → List ℕ → Type 0
IsOldOrNew slots old new =
    (found_in new ≡ found_in old) ⊎ (found_in new ≡ InForce (spare slots.force) (filled_root slots old))

-- ---- what the calls answer

-- the answer to a fault of the disk
abbrev pub root_fault_of : DiskFault → RootFault
root_fault_of disk.Device = fault.Device
root_fault_of disk.OutOfMemory = fault.OutOfMemory

-- a refusal is the disk's: it failed or found no memory
abbrev pub IsDiskAnswer : {T : Type 0} → Result T RootFault → Type 0
IsDiskAnswer (Ok _) = ⊤
IsDiskAnswer (Err fault.Device) = ⊤
IsDiskAnswer (Err fault.Stopped) = ⊥
IsDiskAnswer (Err (fault.Bad offset damage)) = ⊥
IsDiskAnswer (Err fault.OutOfMemory) = ⊤

-- the answer of a reading: the root in force, or what is damaged
abbrev pub IsRead : Found → Result (RootSlots × Option Root) RootFault → Type 0
IsRead found (Err fault.Device) = ⊤
IsRead found (Err fault.Stopped) = ⊥
IsRead found (Err (fault.Bad offset damage)) = found ≡ Damaged offset damage
IsRead found (Err fault.OutOfMemory) = ⊤
IsRead New (Ok read) = read.1 ≡ None
IsRead (InForce slot root) (Ok read) = read.1 ≡ Some root
IsRead (Damaged offset damage) (Ok read) = ⊥

-- the slot in force has this number
abbrev pub HasNumber : Option Force → ℕ → Type 0
HasNumber None number = ⊥
HasNumber (Some force) number = force.number ≡ number

-- the value of the slots beside the root that was read
abbrev pub IsAsRead : RootSlots → Option Root → Type 0
IsAsRead slots None = (slots.force ≡ None) × (slots.spare_open ≡ false)
IsAsRead slots (Some root) = (slots.made ≡ true) × HasNumber slots.force root.number

-- what a reading of a file with two slots answers
abbrev pub answer_of : Found → Bool → Result (RootSlots × Option Root) RootFault
answer_of New both = Ok (value_of true None false, None)
answer_of (InForce slot root) both =
    Ok (value_of true (Some (record { slot = slot; number = root.number })) both, Some root)
answer_of (Damaged offset damage) both = Err (fault.Bad offset damage)

-- The disk's count never falls, rises where `Device` is answered, and stays at each other answer.
pub record HasRootCause {T : Type 0} (before now : ℕ) (result : Result T RootFault) : Type 0 where
  pub later : before ≤ now
  pub device : IsErrOf result fault.Device → Rose before now
  pub other : IfErr result (λ answer. answer ≢ fault.Device → now ≡ before)
  pub kept : OnOk result (now ≡ before)

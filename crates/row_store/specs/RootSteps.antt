-- A change of root, or a part of it.
use Rattle.std.specs.Prelude.{◌≡◌, ◌⊎◌, ℕ, List, Some, true, false, Result, IsErrOf}
use Rattle.gate_log.specs.LogState.{IsElsewhereOld}
use Rattle.mds_out.specs.Disk.{Image, Contents, Lengths, IsElsewhereUnchanged, LeavesOnly, StaysTold}
use Rattle.mds_out.specs.Known.{OnTold}
use Rattle.root_slots.specs.declared.root.Root.{Root}
use Rattle.root_slots.specs.declared.root_slots.RootFault.{RootFault}
use Rattle.root_slots.specs.declared.root_slots.RootFault.TheVariants.{Device}
use Rattle.root_slots.specs.Slot.{found_in, root_in}
use Rattle.root_slots.specs.Slots.{HasRootCause, HasNumber, IsReady}
use Rattle.root_slots.specs.declared.root_slots.RootSlots.{RootSlots}
use Rattle.root_slots.specs.declared.root_slots.Step.TheVariants.{Begun}

-- file 0 says what it said, or that this root is in force
abbrev pub IsRootOr : Root → List ℕ → List ℕ → Type 0
IsRootOr root old new = (found_in new ≡ found_in old) ⊎ (root_in new ≡ Some root)

-- No file but file 0 changes, and at each moment the root in force is the old one or this one.
pub record IsRootStep {D T : Type 0} (seen : D → Contents) (sizes : D → Lengths) (images : D → Image → Type 0)
    (moment : D → ℕ) (since : D → ℕ → Image → Type 0)
    (faults : D → ℕ) (leads fails_by : D → D → Type 0) (root : Root) (old new : D)
    (result : Result T RootFault) : Type 0 where
  pub elsewhere : IsElsewhereUnchanged 0 (seen old) (seen new) (sizes old) (sizes new)
  pub told : StaysTold (seen old 0) (seen new 0)
  pub others : LeavesOnly moment since old new (IsElsewhereOld 0 (images old))
  pub any_moment : OnTold (seen old 0) (λ file. LeavesOnly moment since old new (λ image. IsRootOr root file (image 0)))
  pub cause : HasRootCause (faults old) (faults new) result
  pub lasts : leads old new
  pub failed : IsErrOf result Device → fails_by old new

-- the root is in force, and the slots know it
pub record IsInForce (slots : RootSlots) (root : Root) (seen : Contents) (sizes : Lengths)
    (images : Image → Type 0) : Type 0 where
  pub running : slots.stopped ≡ false
  pub made : slots.made ≡ true
  pub begun : slots.step ≡ Begun
  pub number : HasNumber slots.force root.number
  pub ready : IsReady slots seen sizes images
  pub in_force : OnTold (seen 0) (λ file. root_in file ≡ Some root)

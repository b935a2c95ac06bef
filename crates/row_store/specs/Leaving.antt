-- Calls of a disk that leave some files as they were.
use Rattle.std.specs.Prelude.{◌≡◌, ℕ, Some, Result, IsErrOf}
use Rattle.mds_base.specs.declared.store_fault.StoreFault.{StoreFault}
use Rattle.mds_base.specs.declared.store_fault.StoreFault.TheVariants.{Device}
use Rattle.mds_out.specs.Disk.{Image, Contents, Lengths, LeavesOnly, StaysTold}
use Rattle.mds_out.specs.Known.{OnTold}
use Rattle.row_store.specs.Answers.{HasStoreCause}

-- the image has these files as one from before
pub record IsOldIn (kept : ℕ → Type 0) (old : Image → Type 0) (image : Image) : Type 0 where
  pub before : Image
  pub was : old before
  pub same : (file : ℕ) → kept file → image file ≡ before file

-- These files are as they were, and a crash at any moment leaves them so. The disk tells each file that it told before.
pub record LeavesFiles {D T : Type 0} (seen : D → Contents) (sizes : D → Lengths) (images : D → Image → Type 0)
    (moment : D → ℕ) (since : D → ℕ → Image → Type 0)
    (faults : D → ℕ) (leads fails_by : D → D → Type 0) (kept : ℕ → Type 0) (old new : D)
    (result : Result T StoreFault) : Type 0 where
  pub bytes : (file : ℕ) → kept file → seen new file ≡ seen old file
  pub lengths : (file : ℕ) → kept file → OnTold (sizes old file) (λ size. sizes new file ≡ Some size)
  pub told : (file : ℕ) → StaysTold (seen old file) (seen new file)
  pub any_moment : LeavesOnly moment since old new (IsOldIn kept (images old))
  pub cause : HasStoreCause (faults old) (faults new) result
  pub lasts : leads old new
  pub failed : IsErrOf result Device → fails_by old new

-- Runs of calls of a disk, up to an answer.
use Rattle.std.specs.Prelude.{◌≡◌, ℕ, List, Result, IsErrOf}
use Rattle.std.specs.List.{AllByRecursion}
use Rattle.gate_log.specs.LogState.{IsElsewhereOld}
use Rattle.mds_out.specs.Disk.{Image, Contents, Lengths, AreSame, IsUnchanged, IsElsewhereUnchanged, LeavesOnly}
use Rattle.mds_out.specs.Disk.{StaysTold}
use Rattle.mds_out.specs.Known.{OnTold}
use Rattle.sorted_table.specs.declared.fault.TableFault.{TableFault}
use Rattle.sorted_table.specs.declared.fault.TableFault.TheVariants.{Device}
use Rattle.sorted_table.specs.Answers.{HasTableCause}
use Rattle.sorted_table.specs.Tables.{TableState, IsDurable}

-- Nothing that a read gives has changed, no crash leaves more than before, and the disk's count of faults says whether
-- it was the device.
pub record OnlyReads {D T : Type 0} (seen : D → Contents) (sizes : D → Lengths) (images : D → Image → Type 0)
    (moment : D → ℕ) (since : D → ℕ → Image → Type 0)
    (faults : D → ℕ) (leads fails_by : D → D → Type 0) (old new : D) (result : Result T TableFault) : Type 0 where
  pub unchanged : IsUnchanged (seen old) (seen new) (sizes old) (sizes new)
  pub crash : AreSame (images old) (images new)
  pub any_moment : LeavesOnly moment since old new (images old)
  pub cause : HasTableCause (faults old) (faults new) result
  pub lasts : leads old new
  pub failed : IsErrOf result Device → fails_by old new

-- No file but this one has changed, or is left otherwise by a crash at any moment; the disk tells this one where it
-- told it before.
pub record WritesOnly {D T : Type 0} (seen : D → Contents) (sizes : D → Lengths) (images : D → Image → Type 0)
    (moment : D → ℕ) (since : D → ℕ → Image → Type 0)
    (faults : D → ℕ) (leads fails_by : D → D → Type 0) (file : ℕ) (old new : D)
    (result : Result T TableFault) : Type 0 where
  pub elsewhere : IsElsewhereUnchanged file (seen old) (seen new) (sizes old) (sizes new)
  pub told : StaysTold (seen old file) (seen new file)
  pub any_moment : LeavesOnly moment since old new (IsElsewhereOld file (images old))
  pub cause : HasTableCause (faults old) (faults new) result
  pub lasts : leads old new
  pub failed : IsErrOf result Device → fails_by old new

-- A crash at any moment leaves of each table whose file a crash left as it reads just what it reads as.
abbrev pub StayReadable : {D : Type 0} → (moment : D → ℕ) (since : D → ℕ → Image → Type 0) (old new : D) → Contents
    → (Image → Type 0) → List TableState → Type 0
StayReadable moment since old new seen images tables = AllByRecursion
    (λ table. IsDurable table.file seen images
    → LeavesOnly moment since old new (λ image. OnTold (seen table.file) (λ bytes. image table.file ≡ bytes))) tables

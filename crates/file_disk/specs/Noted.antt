-- What a disk of real files notes: the length of each file that it was told, and its counts.
use Rattle.std.specs.Prelude.{ℕ, Option, None, Some, max}
use Rattle.std.specs.FinMap as map
use Rattle.std.specs.FinMap.{FinMap}
use Rattle.std.specs.Ordering.{nat_cmp}
use Rattle.mds_out.specs.Calls.{next_number}
use Rattle.mds_out.specs.declared.disk.DiskFault.{DiskFault}
use Rattle.mds_out.specs.declared.disk.DiskFault.TheVariants.{Device, OutOfMemory}

pub record Noted : Type 0 where
  pub lengths : FinMap nat_cmp ℕ
  pub faults : ℕ
  pub asked : ℕ
  pub changes : ℕ

-- a disk that was asked nothing yet
abbrev pub new_disk : Noted
new_disk = record { lengths = map.empty; faults = 0; asked = 0; changes = 0 }

-- the length of a file, where it was told
abbrev pub told_length : Noted → ℕ → Option ℕ
told_length disk file = map.get disk.lengths file

-- after a file got this length
abbrev pub noted : Noted → ℕ → ℕ → Noted
noted disk file length = record disk { lengths = map.insert disk.lengths file length }

-- after nothing is known of a file's length any more
abbrev pub forgotten : Noted → ℕ → Noted
forgotten disk file = record disk { lengths = map.remove disk.lengths file }

-- after a write that ended at this place, to a file whose length was this
abbrev pub grown : Option ℕ → Noted → ℕ → ℕ → Noted
grown None disk file end = disk
grown (Some before) disk file end = noted disk file (max before end)

-- after a call was counted, and after a write or a cut was
abbrev pub counted : Noted → Noted
counted disk = record disk { asked = next_number disk.asked }

abbrev pub change_counted : Noted → Noted
change_counted disk = record disk { asked = next_number disk.asked; changes = next_number disk.changes }

-- after a fault
abbrev pub failed : Noted → Noted
failed disk = record disk { faults = next_number disk.faults }

-- after a refusal: want of memory is no fault
abbrev pub refused : DiskFault → Noted → Noted
refused Device disk = failed disk
refused OutOfMemory disk = disk

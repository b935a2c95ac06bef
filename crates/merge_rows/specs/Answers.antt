-- What a merge may be refused.
use Rattle.std.specs.Prelude.{List, Result, Ok, Err, ⊤}
use Rattle.mds_out.specs.Disk.{Contents}
use Rattle.sorted_table.specs.declared.fault.TableFault.{TableFault}
use Rattle.sorted_table.specs.declared.fault.TableFault.TheVariants.{Device, Damaged, OutOfMemory}
use Rattle.sorted_table.specs.Tables.{TableState}
use Rattle.merge_rows.specs.Telling.{AreTold}

-- a refusal of a merge: tables that a disk tells are never found to be damaged
abbrev pub IsMergeAnswer : {T : Type 0} → List TableState → Contents → Result T TableFault → Type 0
IsMergeAnswer tables seen (Ok _) = ⊤
IsMergeAnswer tables seen (Err Device) = ⊤
IsMergeAnswer tables seen (Err (Damaged offset damage)) = AreTold tables seen → ⊥
IsMergeAnswer tables seen (Err OutOfMemory) = ⊤

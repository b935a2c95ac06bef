-- What a turn of a merge answers.
use Rattle.std.specs.Prelude.{List, Result, Ok, Err, ⊤}
use Rattle.mds_out.specs.Disk.{Contents}
use Rattle.sorted_table.specs.declared.fault.TableFault.{TableFault}
use Rattle.sorted_table.specs.declared.table_row.TableRow.{TableRow}
use Rattle.sorted_table.specs.Tables.{TableState, HoldsRows}
use Rattle.merge_rows.specs.declared.merge.Merge.{Merge}
use Rattle.merge_rows.specs.declared.merge.Turn.{Turn}
use Rattle.merge_rows.specs.declared.merge.Turn.TheVariants.{More, Finished}
use Rattle.merge_rows.specs.Merged.{IsMerged}

-- where the turn left rows to write
abbrev pub IfMore : Result Turn TableFault → (Merge → Type 0) → Type 0
IfMore (Ok (More merge)) P = P merge
IfMore (Ok (Finished table)) P = ⊤
IfMore (Err fault) P = ⊤

-- where the turn was the last
abbrev pub IfFinished : Result Turn TableFault → (TableState → Type 0) → Type 0
IfFinished (Ok (More merge)) P = ⊤
IfFinished (Ok (Finished table)) P = P table
IfFinished (Err fault) P = ⊤

-- the table has the rows that these make, where the disk tells it
pub record HoldsMerged (table : TableState) (seen : Contents) (tables : List (List TableRow)) : Type 0 where
  pub rows : List TableRow
  pub are : IsMerged tables rows
  pub holds : HoldsRows table seen rows

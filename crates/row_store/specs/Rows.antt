-- Rows that outlive memory: what changes make of a map, and which map tables stand for.
use Rattle.std.specs.Prelude.{List, [], ◌∷◌, Option, None, Some}
use Rattle.std.specs.List.{AllByRecursion}
use Rattle.std.specs.FinMap as map
use Rattle.mds_base.specs.RowKeys.{RowMap}
use Rattle.mds_base.specs.declared.attr.Attr.{Attr}
use Rattle.mds_base.specs.declared.row_key.RowKey.{RowKey}
use Rattle.row_store.specs.declared.change.Change.{Change}
use Rattle.sorted_table.specs.declared.table_row.TableRow.{TableRow}
use Rattle.sorted_table.specs.TableRows.{IsMarked}

-- a key with these attributes, or without a row
abbrev pub with_row : RowMap → RowKey → Option Attr → RowMap
with_row rows key None = map.remove rows key
with_row rows key (Some attr) = map.insert rows key attr

-- changes in their order
abbrev pub changed_all : RowMap → List Change → RowMap
changed_all rows [] = rows
changed_all rows (change ∷ changes) = changed_all (with_row rows change.key change.attr) changes

-- the attributes that changes give have a spelling in a table
abbrev pub AreMarked : List Change → Type 0
AreMarked = AllByRecursion (λ change. IsMarked change.attr)

-- A table over older rows: its rows take their places, and its tombstones take them away. No two rows of a table have
-- one key.
abbrev pub laid_over : RowMap → List TableRow → RowMap
laid_over older [] = older
laid_over older (row ∷ rows) = with_row (laid_over older rows) row.key row.attr

-- the map of tables, newest first: for each key what the first table says that has it
abbrev pub rows_under : List (List TableRow) → RowMap
rows_under [] = map.empty
rows_under (table ∷ older) = laid_over (rows_under older) table

-- rows as a table has them, of keys and what was last said of each
abbrev pub rows_of : List (RowKey × Option Attr) → List TableRow
rows_of [] = []
rows_of (entry ∷ entries) = record { key = entry.0; attr = entry.1 } ∷ rows_of entries

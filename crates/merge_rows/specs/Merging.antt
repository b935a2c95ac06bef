-- A merge that is under way.
use Rattle.std.specs.Prelude.{◌≡◌, ◌≢◌, ℕ, List, [], map, Option, None, Some, true}
use Rattle.std.specs.List.{AllByRecursion}
use Rattle.std.specs.Ordering.{is_le}
use Rattle.mds_base.specs.declared.row_key.RowKey.{RowKey}
use Rattle.mds_base.specs.RowKeys.{row_key_cmp}
use Rattle.mds_out.specs.Disk.{Contents, Lengths}
use Rattle.sorted_table.specs.declared.table_row.TableRow.{TableRow}
use Rattle.sorted_table.specs.Blocks.{rows_in, is_above}
use Rattle.sorted_table.specs.Building.{IsBuilt, IsGrowing}
use Rattle.sorted_table.specs.TableRows.{Rises, held_in}
use Rattle.sorted_table.specs.Tables.{TableState, HasBlocks}
use Rattle.merge_rows.specs.declared.merge.Merge.{Merge}
use Rattle.merge_rows.specs.Cursors.{AllAlong, IsPlaced, lefts}
use Rattle.merge_rows.specs.Merged.{or_older, newest, live}
use Rattle.merge_rows.specs.Telling.{AllTell}

-- none of the tables is in this file
abbrev pub AreApart : List TableState → ℕ → Type 0
AreApart tables file = AllByRecursion (λ table. table.file ≢ file) tables

-- no row is above the key that was passed last
abbrev pub AreUpto : Option RowKey → List TableRow → Type 0
AreUpto None rows = rows ≡ []
AreUpto (Some last) rows = AllByRecursion (λ row. is_le (row_key_cmp row.key last) ≡ true) rows

-- These rows were added and those are left: with what is left merged behind them they say of each key what the tables
-- say of it, and all that is left is above the key that was passed last.
pub record IsPartWay (last : Option RowKey) (done : List TableRow) (left tables : List (List TableRow)) : Type 0 where
  pub rise : AllByRecursion Rises left
  pub above : AllByRecursion (λ (rows : List TableRow). AllByRecursion (λ row. is_above last row.key ≡ true) rows) left
  pub each : (key : RowKey) → or_older (held_in done key) (live (newest left key)) ≡ live (newest tables key)

-- A merge of these tables goes on on a disk with these files: its own file is as it was left, and where the disk tells
-- the tables, what was added and what is left makes them.
pub record IsMerging (merge : Merge) (tables : List TableState) (seen : Contents) (sizes : Lengths) : Type 0 where
  pub apart : AreApart tables merge.builder.file
  pub growing : IsGrowing merge.builder sizes
  pub placed : AllAlong IsPlaced merge.cursors.items tables
  pub done : List TableRow
  pub built : IsBuilt merge.builder done (seen merge.builder.file)
  pub upto : AreUpto merge.last done
  pub part : (blocks : List (List (List TableRow))) → AllTell HasBlocks tables seen blocks
      → IsPartWay merge.last done (lefts merge.cursors.items blocks) (map rows_in blocks)

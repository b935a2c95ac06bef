-- What a builder has made so far of a table.
use Rattle.std.specs.Prelude.{◌≡◌, ℕ, ◌+◌, ◌*◌, ◌<◌, ◌≤◌, List, [], ◌∷◌, ◌++◌, length, Option, Some}
use Rattle.std.specs.List.{AllByRecursion}
use Rattle.std.specs.declared.cmp.Ordering.TheVariants.{Less}
use Rattle.md5.specs.Md5.{Holds}
use Rattle.mds_base.specs.declared.row_key.RowKey.{RowKey}
use Rattle.mds_base.specs.RowKeys.{row_key_cmp}
use Rattle.mds_out.specs.Disk.{Lengths}
use Rattle.mds_out.specs.Known.{OnTold}
use Rattle.sorted_table.specs.declared.TheConstants.{BLOCK_BYTES, ROW_BYTES}
use Rattle.sorted_table.specs.declared.builder.Builder.{Builder}
use Rattle.sorted_table.specs.declared.table_row.TableRow.{TableRow}
use Rattle.sorted_table.specs.TableRows.{IsRow, Rises, rows_spelling}
use Rattle.sorted_table.specs.Blocks.{IsFilled, rows_in, blocks_spelling, first_keys, last_size}

-- all rows are below this key
abbrev pub AllBelow : List TableRow → RowKey → Type 0
AllBelow rows key = AllByRecursion (λ row. row_key_cmp row.key key ≡ Less) rows

-- the blocks, with the present one where it has rows
abbrev pub closed : List (List TableRow) → List TableRow → List (List TableRow)
closed full [] = full
closed full (row ∷ rows) = full ++ (row ∷ rows) ∷ []

-- The full blocks were written, and the present one has these rows: they are all rows so far.
pub record Builds (b : Builder) (full : List (List TableRow)) (present rows : List TableRow)
    (seen : Option (List ℕ)) : Type 0 where
  pub rows_are : rows ≡ rows_in full ++ present
  pub filled : IsFilled BLOCK_BYTES (closed full present)
  pub rise : Rises rows
  pub all : AllByRecursion IsRow rows
  pub firsts : b.firsts.items ≡ first_keys (closed full present)
  pub spelled : b.rows.items ≡ rows_spelling present
  pub count : b.count ≡ length present
  pub written : b.written ≡ length full
  pub number : b.number ≡ length rows
  pub sum : Holds b.sum (blocks_spelling full)
  pub told : 0 < b.written → OnTold seen (λ bytes. bytes ≡ blocks_spelling full)

-- these rows were added so far
pub record IsBuilt (b : Builder) (rows : List TableRow) (seen : Option (List ℕ)) : Type 0 where
  pub full : List (List TableRow)
  pub present : List TableRow
  pub builds : Builds b full present rows seen
  -- no row fits into the block before an empty one
  pub no_room : present ≡ [] → BLOCK_BYTES ≤ last_size BLOCK_BYTES full

-- a row of so many bytes goes into the present block
pub record HasRoom (b : Builder) (size : ℕ) (rows : List TableRow) (seen : Option (List ℕ)) : Type 0 where
  pub full : List (List TableRow)
  pub present : List TableRow
  pub builds : Builds b full present rows seen
  pub no_room : present ≡ [] → BLOCK_BYTES < last_size BLOCK_BYTES full + size
  pub fits : length b.rows.items + size ≤ ROW_BYTES

-- once a block was written, the file ends with it
abbrev pub IsGrowing : Builder → Lengths → Type 0
IsGrowing b sizes = 0 < b.written → sizes b.file ≡ Some (BLOCK_BYTES * b.written)

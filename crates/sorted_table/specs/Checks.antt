-- What is kept of blocks that were read, and which block may be next.
use Rattle.std.specs.Prelude.{◌≡◌, ℕ, ◌+◌, ◌^◌, List, [], ◌∷◌, ◌++◌, length, Option, None, Some, Bool, false, nat_lt}
use Rattle.std.specs.Prelude.{◌&&◌}
use Rattle.std.specs.List.{AllByRecursion}
use Rattle.mds_base.specs.declared.row_key.RowKey.{RowKey}
use Rattle.sorted_table.specs.declared.TheConstants.{BLOCK_BYTES}
use Rattle.sorted_table.specs.declared.checked.Checked.{Checked}
use Rattle.sorted_table.specs.declared.table_row.TableRow.{TableRow}
use Rattle.sorted_table.specs.TableRows.{IsRow, Rises, row_spelling}
use Rattle.sorted_table.specs.Blocks.{blocks_spelling, rows_in, IsFilled, first_keys, last_key, last_size, rise_behind}
use Rattle.sorted_table.specs.TableFiles.{AreBlocks}

-- this is kept of these blocks
pub record IsChecked (checked : Checked) (blocks : List (List TableRow)) : Type 0 where
  pub firsts : checked.firsts.items ≡ first_keys blocks
  pub rows : checked.rows ≡ length (rows_in blocks)
  pub last : checked.last ≡ last_key None (rows_in blocks)
  pub size : checked.size ≡ last_size BLOCK_BYTES blocks

-- A block that is not empty, whose rows rise behind the last key, and whose first row did not fit into the block
-- before: so many rows are before it, and the number of all is a u64.
abbrev pub follows : ℕ → Option RowKey → ℕ → List TableRow → Bool
follows size last count [] = false
follows size last count (row ∷ rows) = (nat_lt BLOCK_BYTES (size + length (row_spelling row))
    && rise_behind last (row ∷ rows)) && nat_lt (count + length (row ∷ rows)) (2 ^ 64)

-- the bytes spell blocks as a table has them, and this is kept of these
pub record IsSpelled (checked : Checked) (bytes : List ℕ) : Type 0 where
  pub blocks : List (List TableRow)
  pub spelled : bytes ≡ blocks_spelling blocks
  pub filled : IsFilled BLOCK_BYTES blocks
  pub rise : Rises (rows_in blocks)
  pub all : AllByRecursion IsRow (rows_in blocks)
  pub kept : IsChecked checked blocks

-- what is kept of bytes that were read; nothing, where the blocks of no table begin with them
abbrev pub IsRead : Option Checked → List ℕ → Type 0
IsRead (Some checked) bytes = IsSpelled checked bytes
IsRead None bytes =
    (more : List ℕ) → (blocks : List (List TableRow)) → AreBlocks blocks → bytes ++ more ≡ blocks_spelling blocks → ⊥

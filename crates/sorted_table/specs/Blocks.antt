-- Rows in blocks: which block a row goes into, and how blocks are spelled.
use Rattle.std.specs.Prelude.{◌≡◌, ℕ, ◌+◌, ◌-◌, ◌*◌, ◌<◌, ◌≤◌, List, [], ◌∷◌, ◌++◌, length, replicate, Option, None}
use Rattle.std.specs.Prelude.{Some, ⊤, Bool, true, false, ◌&&◌}
use Rattle.std.specs.Int.{w16, to_be_bytes}
use Rattle.std.specs.Ordering.{is_lt}
use Rattle.mds_base.specs.declared.row_key.RowKey.{RowKey}
use Rattle.mds_base.specs.RowKeys.{row_key_cmp}
use Rattle.sorted_table.specs.declared.TheConstants.{BLOCK_BYTES}
use Rattle.sorted_table.specs.declared.table_row.TableRow.{TableRow}
use Rattle.sorted_table.specs.TableRows.{row_spelling, rows_spelling}

-- the bytes that rows take in a block, with their count
abbrev pub block_size : List TableRow → ℕ
block_size rows = 2 + length (rows_spelling rows)

-- the count of rows, the rows, and zeros to the block's end
abbrev pub block_spelling : List TableRow → List ℕ
block_spelling rows =
    (to_be_bytes w16 (length rows) ++ rows_spelling rows) ++ replicate (BLOCK_BYTES - block_size rows) 0

abbrev pub blocks_spelling : List (List TableRow) → List ℕ
blocks_spelling [] = []
blocks_spelling (block ∷ blocks) = block_spelling block ++ blocks_spelling blocks

-- the rows of all blocks
abbrev pub rows_in : List (List TableRow) → List TableRow
rows_in [] = []
rows_in (block ∷ blocks) = block ++ rows_in blocks

-- A row goes into the present block where it fits, else it begins the next one: these blocks follow one that has so
-- many bytes taken. None is empty, the rows of each fit, and the first row of each did not fit into the one before.
abbrev pub IsFilled : ℕ → List (List TableRow) → Type 0
IsFilled before [] = ⊤
IsFilled before ([] ∷ blocks) = ⊥
IsFilled before ((row ∷ rows) ∷ blocks) = (BLOCK_BYTES < before + length (row_spelling row))
    × (block_size (row ∷ rows) ≤ BLOCK_BYTES) × IsFilled (block_size (row ∷ rows)) blocks

-- how many bytes the last block has taken, where these follow one that has so many
abbrev pub last_size : ℕ → List (List TableRow) → ℕ
last_size before [] = before
last_size before (block ∷ blocks) = last_size (block_size block) blocks

-- the first key of each block
abbrev pub first_keys : List (List TableRow) → List RowKey
first_keys [] = []
first_keys ([] ∷ blocks) = first_keys blocks
first_keys ((row ∷ rows) ∷ blocks) = row.key ∷ first_keys blocks

-- the key of the last row, where these follow one of this key
abbrev pub last_key : Option RowKey → List TableRow → Option RowKey
last_key before [] = before
last_key before (row ∷ rows) = last_key (Some row.key) rows

-- a key is above the one before it
abbrev pub is_above : Option RowKey → RowKey → Bool
is_above None key = true
is_above (Some before) key = is_lt (row_key_cmp before key)

-- each row's key is above that of the row before it, where these follow one of this key
abbrev pub rise_behind : Option RowKey → List TableRow → Bool
rise_behind before [] = true
rise_behind before (row ∷ rows) = is_above before row.key && rise_behind (Some row.key) rows

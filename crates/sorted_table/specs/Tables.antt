-- An open table, and what its disk owes it.
use Rattle.std.specs.Prelude.{◌≡◌, ◌≤◌, ◌<◌, ◌*◌, ◌^◌, ℕ, List, length, Some}
use Rattle.mds_base.specs.declared.row_key.RowKey.{RowKey}
use Rattle.mds_out.specs.Disk.{Image, Contents, Lengths}
use Rattle.mds_out.specs.Known.{OnTold}
use Rattle.sorted_table.specs.declared.TheConstants.{BLOCK_BYTES}
use Rattle.sorted_table.specs.declared.table_row.TableRow.{TableRow}
use Rattle.sorted_table.specs.Blocks.{rows_in, first_keys}
use Rattle.sorted_table.specs.TableFiles.{AreBlocks, table_spelling}

-- the number of its file, and the first key of each block
pub record TableState : Type 0 where
  pub file : ℕ
  pub firsts : List RowKey

-- the bytes are a table of these blocks, whose first keys are those of the value
pub record HasBlocks (table : TableState) (blocks : List (List TableRow)) (bytes : List ℕ) : Type 0 where
  pub are : AreBlocks blocks
  pub bytes_are : bytes ≡ table_spelling blocks
  pub firsts : table.firsts ≡ first_keys blocks

-- the bytes are a table of these rows
pub record HasRows (table : TableState) (rows : List TableRow) (bytes : List ℕ) : Type 0 where
  pub blocks : List (List TableRow)
  pub has : HasBlocks table blocks bytes
  pub rows_are : rows ≡ rows_in blocks

-- the bytes are a table of some rows
pub record IsSomeTable (table : TableState) (bytes : List ℕ) : Type 0 where
  pub rows : List TableRow
  pub has : HasRows table rows bytes

-- The file is as the calls of this table left it: it reaches over all blocks, and where the disk tells it, it is the
-- table.
pub record IsReady (table : TableState) (seen : Contents) (sizes : Lengths) : Type 0 where
  pub size : ℕ
  pub known : sizes table.file ≡ Some size
  pub short : size < 2 ^ 63
  pub reaches : BLOCK_BYTES * length table.firsts ≤ size
  pub told : OnTold (seen table.file) (IsSomeTable table)

-- the table has these rows, where the disk tells it
abbrev pub HoldsRows : TableState → Contents → List TableRow → Type 0
HoldsRows table seen rows = OnTold (seen table.file) (HasRows table rows)

-- the table has these blocks, where the disk tells it
abbrev pub HoldsBlocks : TableState → Contents → List (List TableRow) → Type 0
HoldsBlocks table seen blocks = OnTold (seen table.file) (HasBlocks table blocks)

-- each image has just what the file reads as
abbrev pub IsDurable : ℕ → Contents → (Image → Type 0) → Type 0
IsDurable file seen images = OnTold (seen file) (λ bytes. (image : Image) → images image → image file ≡ bytes)

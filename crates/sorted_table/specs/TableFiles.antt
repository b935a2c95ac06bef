-- The file of a table: its blocks, the counts of blocks and rows, and the MD5 of all this.
use Rattle.std.specs.Prelude.{◌≡◌, ◌≢◌, ◌⊎◌, ℕ, ◌+◌, ◌-◌, ◌<◌, ◌≤◌, ◌^◌, List, [], ◌∷◌, ◌++◌, length, take, drop}
use Rattle.std.specs.Prelude.{Option, None}
use Rattle.std.specs.Int.{w32, w64, to_be_bytes}
use Rattle.std.specs.List.{AllByRecursion}
use Rattle.md5.specs.Md5.{md5}
use Rattle.sorted_table.specs.declared.TheConstants.{BLOCK_BYTES, FIXED_BYTES, SUM_BYTES}
use Rattle.sorted_table.specs.declared.fault.TableDamage.{TableDamage}
use Rattle.sorted_table.specs.declared.fault.TableDamage.TheVariants.{Spelling, Sum}
use Rattle.sorted_table.specs.declared.table_row.TableRow.{TableRow}
use Rattle.sorted_table.specs.TableRows.{IsRow, Rises}
use Rattle.sorted_table.specs.Blocks.{IsFilled, rows_in, blocks_spelling}

-- rows in blocks, as a table has them: each row's key is above those of the rows before it
pub record AreBlocks (blocks : List (List TableRow)) : Type 0 where
  pub filled : IsFilled BLOCK_BYTES blocks
  pub rise : Rises (rows_in blocks)
  pub all : AllByRecursion IsRow (rows_in blocks)
  pub few : length blocks < 2 ^ 32
  pub few_rows : length (rows_in blocks) < 2 ^ 64

-- the counts of blocks and of rows
abbrev pub counts_spelling : List (List TableRow) → List ℕ
counts_spelling blocks = to_be_bytes w32 (length blocks) ++ to_be_bytes w64 (length (rows_in blocks))

-- all before the sum
abbrev pub table_front : List (List TableRow) → List ℕ
table_front blocks = blocks_spelling blocks ++ counts_spelling blocks

abbrev pub table_spelling : List (List TableRow) → List ℕ
table_spelling blocks = table_front blocks ++ md5 (table_front blocks)

-- the file is a table of these rows
pub record HoldsTable (rows : List TableRow) (file : List ℕ) : Type 0 where
  pub blocks : List (List TableRow)
  pub are : AreBlocks blocks
  pub rows_are : rows ≡ rows_in blocks
  pub bytes : file ≡ table_spelling blocks

-- the file's last 16 bytes are not the MD5 of those before: what they are, and what they were to be
pub record IsSumOther (file : List ℕ) (offset : ℕ) (kept found : List ℕ) : Type 0 where
  pub long : FIXED_BYTES ≤ length file
  pub place_is : offset + SUM_BYTES ≡ length file
  pub kept_is : kept ≡ drop offset file
  pub found_is : found ≡ md5 (take offset file)
  pub other : kept ≢ found

-- the file ends with the MD5 of what is before, and yet is no table
pub record IsNone (file : List ℕ) (offset : ℕ) : Type 0 where
  pub long : FIXED_BYTES ≤ length file
  pub place_is : offset ≡ 0
  pub sealed : drop (length file - SUM_BYTES) file ≡ md5 (take (length file - SUM_BYTES) file)
  pub none : (rows : List TableRow) → HoldsTable rows file → ⊥

-- What is wrong with the file, in this order: it is too short for its fixed parts, its sum is another, or it spells
-- nothing.
abbrev pub IsDamaged : List ℕ → ℕ → TableDamage → Type 0
IsDamaged file offset Spelling = ((offset ≡ 0) × (length file < FIXED_BYTES)) ⊎ IsNone file offset
IsDamaged file offset (Sum kept found) = IsSumOther file offset kept found

-- A file holds the rows of one table at most.
abbrev pub HoldsOneTable : Type 0
HoldsOneTable =
    (rows others : List TableRow) (file : List ℕ) → HoldsTable rows file → HoldsTable others file → rows ≡ others

-- A damaged file holds none.
abbrev pub IsEitherTableOrDamaged : Type 0
IsEitherTableOrDamaged = (rows : List TableRow) (file : List ℕ) (offset : ℕ) (damage : TableDamage)
    → HoldsTable rows file → IsDamaged file offset damage → ⊥

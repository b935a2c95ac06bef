-- How far tables were read, side by side, and the least row of those that are next.
use Rattle.std.specs.Prelude.{◌≡◌, ◌⊎◌, ℕ, ◌+◌, ◌-◌, ◌*◌, ◌≤◌, ◌<◌, List, [], ◌∷◌, ◌++◌, length, drop, Option, None}
use Rattle.std.specs.Prelude.{Some, ⊤, Bool, false, if◌then◌else◌}
use Rattle.std.specs.List.{AllByRecursion}
use Rattle.std.specs.Ordering.{is_eq, is_gt}
use Rattle.mds_base.specs.declared.row_key.RowKey.{RowKey}
use Rattle.mds_base.specs.RowKeys.{row_key_cmp}
use Rattle.sorted_table.specs.declared.TheConstants.{BLOCK_BYTES}
use Rattle.sorted_table.specs.declared.table_row.TableRow.{TableRow}
use Rattle.sorted_table.specs.Blocks.{rows_in}
use Rattle.sorted_table.specs.TableRows.{IsRow}
use Rattle.sorted_table.specs.Tables.{TableState}

-- the block of a table that is read next, and the rows of the one before it that are left
pub record CursorState : Type 0 where
  pub next : ℕ
  pub rows : List TableRow

-- nothing was read
abbrev pub at_front : CursorState
at_front = record { next = 0; rows = [] }

-- ---- the next rows

abbrev pub first : List TableRow → Option TableRow
first [] = None
first (row ∷ rows) = Some row

-- the lesser of two rows by their keys, of equal ones the first
abbrev pub lesser : Option TableRow → Option TableRow → Option TableRow
lesser None other = other
lesser (Some row) None = Some row
lesser (Some row) (Some other) = if is_gt (row_key_cmp row.key other.key) then Some other else Some row

-- the least of the first rows, of equal ones that of the newest table
abbrev pub least : List (List TableRow) → Option TableRow
least [] = None
least (rows ∷ older) = lesser (first rows) (least older)

-- a row of this key
abbrev pub is_of : Option TableRow → RowKey → Bool
is_of None key = false
is_of (Some row) key = is_eq (row_key_cmp row.key key)

-- the rows behind a first one of this key
abbrev pub passed : RowKey → List TableRow → List TableRow
passed key [] = []
passed key (row ∷ rows) = if is_eq (row_key_cmp row.key key) then rows else row ∷ rows

-- the cursor, once its table's row of this key was passed
abbrev pub cursor_passed : RowKey → CursorState → CursorState
cursor_passed key cursor = record cursor { rows = passed key cursor.rows }

abbrev pub cursor_rows : CursorState → List TableRow
cursor_rows cursor = cursor.rows

-- ---- what is left of tables

-- the rows of these blocks that are left behind a cursor
abbrev pub rest_of : CursorState → List (List TableRow) → List TableRow
rest_of cursor blocks = cursor.rows ++ rows_in (drop cursor.next blocks)

-- of each table
abbrev pub lefts : List CursorState → List (List (List TableRow)) → List (List TableRow)
lefts [] tables = []
lefts (cursor ∷ cursors) [] = []
lefts (cursor ∷ cursors) (blocks ∷ tables) = rest_of cursor blocks ∷ lefts cursors tables

-- a cursor stands in its table, and its rows are such as a table may have
pub record IsPlaced (cursor : CursorState) (table : TableState) : Type 0 where
  pub within : cursor.next ≤ length table.firsts
  pub all : AllByRecursion IsRow cursor.rows

-- its next row was read, where there is one
abbrev pub HasNext : CursorState → TableState → Type 0
HasNext cursor table = (0 < length cursor.rows) ⊎ (cursor.next ≡ length table.firsts)

-- of each table
abbrev pub AllAlong : (CursorState → TableState → Type 0) → List CursorState → List TableState → Type 0
AllAlong P [] [] = ⊤
AllAlong P [] (table ∷ tables) = ⊥
AllAlong P (cursor ∷ cursors) [] = ⊥
AllAlong P (cursor ∷ cursors) (table ∷ tables) = P cursor table × AllAlong P cursors tables

-- how many rows are left at most: a block has no more rows than bytes
abbrev pub weight : CursorState → TableState → ℕ
weight cursor table = length cursor.rows + BLOCK_BYTES * (length table.firsts - cursor.next)

-- of all tables
abbrev pub weights : List CursorState → List TableState → ℕ
weights [] tables = 0
weights (cursor ∷ cursors) [] = 0
weights (cursor ∷ cursors) (table ∷ tables) = weight cursor table + weights cursors tables

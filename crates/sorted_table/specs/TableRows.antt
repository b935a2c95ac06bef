-- Rows of a table, in memory and as bytes.
use Rattle.std.specs.Prelude.{◌≡◌, ℕ, ◌<◌, ◌≤◌, ◌^◌, List, [], ◌∷◌, ◌++◌, length, Option, None, Some, ⊤, Bool, true}
use Rattle.std.specs.Prelude.{false, IsTrue, if◌then◌else◌}
use Rattle.std.specs.Int.{w16, w32, w64, to_be_bytes}
use Rattle.std.specs.List.{AllByRecursion}
use Rattle.std.specs.Ordering.{is_lt, is_eq}
use Rattle.std.specs.declared.cmp.Ordering.TheVariants.{Less}
use Rattle.mds_base.specs.declared.attr.Attr.{Attr}
use Rattle.mds_base.specs.declared.row_key.RowKey.{RowKey}
use Rattle.mds_base.specs.Entries.{is_stamped}
use Rattle.mds_base.specs.Name.{is_name}
use Rattle.mds_base.specs.RowKeys.{row_key_cmp}
use Rattle.sorted_table.specs.declared.table_row.TableRow.{TableRow}
use Rattle.sorted_table.specs.declared.table_row.Held.{Held}
use Rattle.sorted_table.specs.declared.table_row.Held.TheVariants.{Absent, Tomb, Row}

-- ---- what has a spelling

-- the mode is at most 4095, the directory, which is 0 for a file, below 2^48, and the other numbers are within their
-- widths
pub record IsAttr (attr : Attr) : Type 0 where
  pub dir : attr.dir < 2 ^ 48
  pub mode : attr.mode ≤ 4095
  pub size : attr.size < 2 ^ 64
  pub owner : attr.owner < 2 ^ 32
  pub mtime : attr.mtime < 2 ^ 64

-- a tombstone, or a row with such attributes
abbrev pub IsMarked : Option Attr → Type 0
IsMarked None = ⊤
IsMarked (Some attr) = IsAttr attr

pub record IsKey (key : RowKey) : Type 0 where
  pub dir : key.dir < 2 ^ 64
  pub part : key.part < 2 ^ 32
  pub rev : key.rev < 2 ^ 64
  pub name : IsTrue (is_name key.name)

pub record IsRow (row : TableRow) : Type 0 where
  pub key : IsKey row.key
  pub attr : IsMarked row.attr

-- ---- the spellings

-- attributes without owner and time
abbrev pub plain_spelling : Attr → List ℕ
plain_spelling attr = to_be_bytes w64 attr.dir ++ (to_be_bytes w16 attr.mode ++ to_be_bytes w64 attr.size)

abbrev pub stamp_spelling : Attr → List ℕ
stamp_spelling attr = to_be_bytes w32 attr.owner ++ to_be_bytes w64 attr.mtime

-- mark 0 for a tombstone, 2 where owner or time is not 0, else 1, and the attributes of the mark
abbrev pub marked_spelling : Option Attr → List ℕ
marked_spelling None = 0 ∷ []
marked_spelling (Some attr) =
    if is_stamped attr then 2 ∷ (plain_spelling attr ++ stamp_spelling attr) else 1 ∷ plain_spelling attr

-- directory, partition, reversed hash, and the name behind its length
abbrev pub key_spelling : RowKey → List ℕ
key_spelling key =
    to_be_bytes w64 key.dir ++ (to_be_bytes w32 key.part ++ (to_be_bytes w64 key.rev ++ (length key.name ∷ key.name)))

abbrev pub row_spelling : TableRow → List ℕ
row_spelling row = key_spelling row.key ++ marked_spelling row.attr

abbrev pub rows_spelling : List TableRow → List ℕ
rows_spelling [] = []
rows_spelling (row ∷ rows) = row_spelling row ++ rows_spelling rows

-- ---- rows in order

-- each row's key is above those of the rows before it
abbrev pub Rises : List TableRow → Type 0
Rises [] = ⊤
Rises (row ∷ rows) = AllByRecursion (λ later. row_key_cmp row.key later.key ≡ Less) rows × Rises rows

-- ---- what a list of rows answers

-- what a row says of its key
abbrev pub held_of : Option Attr → Held
held_of None = Tomb
held_of (Some attr) = Row attr

-- what the row of this key says; Absent where there is none
abbrev pub held_in : List TableRow → RowKey → Held
held_in [] key = Absent
held_in (row ∷ rows) key = if is_eq (row_key_cmp row.key key) then held_of row.attr else held_in rows key

-- the first row whose key does not pass this test
abbrev pub row_behind : (RowKey → Bool) → List TableRow → Option TableRow
row_behind before [] = None
row_behind before (row ∷ rows) = if before row.key then row_behind before rows else Some row

-- the first row that is not below this key
abbrev pub row_from : List TableRow → RowKey → Option TableRow
row_from rows key = row_behind (λ other. is_lt (row_key_cmp other key)) rows

-- its key
abbrev pub key_of : Option TableRow → Option RowKey
key_of None = None
key_of (Some row) = Some row.key

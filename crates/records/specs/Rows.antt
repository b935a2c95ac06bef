-- Names, attributes and rows as bytes, and rows that rise in the order of a scan.
use Rattle.std.specs.Prelude.{◌≡◌, ℕ, ◌-◌, ◌<◌, ◌≤◌, ◌^◌, List, [], ◌∷◌, ◌++◌, length, Option, Some, None, Bool, true}
use Rattle.std.specs.Prelude.{false, IsTrue}
use Rattle.std.specs.Int.{w16, w32, w64, to_be_bytes}
use Rattle.std.specs.List.{flat_map, slice_get}
use Rattle.std.specs.Ordering.{is_lt}
use Rattle.mds_base.specs.declared.attr.Attr.{Attr}
use Rattle.mds_base.specs.declared.row.Row.{Row}
use Rattle.mds_base.specs.Name.{is_name}
use Rattle.name_hash.specs.ScanOrder.{scan_cmp}

-- ---- the spellings

-- the length of a name in one byte, and its bytes
abbrev pub name_spelling : List ℕ → List ℕ
name_spelling name = length name ∷ name

-- the directory (0 for a file), the mode and the size; with a stamp the owner and the time too
abbrev pub attr_spelling : Bool → Attr → List ℕ
attr_spelling false attr = to_be_bytes w64 attr.dir ++ (to_be_bytes w16 attr.mode ++ to_be_bytes w64 attr.size)
attr_spelling true attr = to_be_bytes w64 attr.dir
    ++ (to_be_bytes w16 attr.mode
    ++ (to_be_bytes w64 attr.size ++ (to_be_bytes w32 attr.owner ++ to_be_bytes w64 attr.mtime)))

abbrev pub row_spelling : Bool → Row → List ℕ
row_spelling stamped row = name_spelling row.name ++ attr_spelling stamped row.attr

-- how many rows there are, and each of them
abbrev pub rows_spelling : Bool → List Row → List ℕ
rows_spelling stamped rows = to_be_bytes w32 (length rows) ++ flat_map (row_spelling stamped) rows

-- ---- what has a spelling

-- without a stamp owner and time are 0
abbrev pub IsStamped : Bool → Attr → Type 0
IsStamped false attr = (attr.owner ≡ 0) × (attr.mtime ≡ 0)
IsStamped true attr = (attr.owner < 2 ^ 32) × (attr.mtime < 2 ^ 64)

-- a row of which each number is within its width
pub record IsRow (stamped : Bool) (row : Row) : Type 0 where
  pub named : IsTrue (is_name row.name)
  pub dir : row.attr.dir < 2 ^ 48
  pub mode : row.attr.mode ≤ 4095
  pub size : row.attr.size < 2 ^ 64
  pub stamp : IsStamped stamped row.attr

-- the last of some rows
abbrev pub last_of : List Row → Option Row
last_of rows = slice_get rows (length rows - 1)

-- whether a name stands behind that of a row in the order of a scan; each does where there is no row
abbrev pub comes_after : Option Row → List ℕ → Bool
comes_after None name = true
comes_after (Some row) name = is_lt (scan_cmp row.name name)

-- Rows that rise behind a row, as far as can be said while the last `missing` bytes of their spelling are still to
-- come: a name of which some byte is still to come is taken to rise, whatever its hash.
abbrev pub AreRising : Bool → ℕ → Option Row → List Row → Type 0
AreRising stamped missing before [] = Unit {0}
AreRising stamped missing before (row ∷ rows) =
    (missing ≤ length (attr_spelling stamped row.attr ++ flat_map (row_spelling stamped) rows)
    → comes_after before row.name ≡ true) × AreRising stamped missing (Some row) rows

-- What a map of rows has behind a start.
use Rattle.std.specs.Prelude.{◌≡◌, ℕ, List, Option, None, Some, Bool, true, false, not, unwrap_or, is_some}
use Rattle.std.specs.Prelude.{[], if◌then◌else◌}
use Rattle.std.specs.declared.cmp.Ordering.TheVariants.{Less}
use Rattle.std.specs.FinMap as map
use Rattle.std.specs.List.{slice_get}
use Rattle.std.specs.Option.{option_map}
use Rattle.std.specs.Ordering.{is_lt}
use Rattle.mds_base.specs.declared.attr.Attr.{Attr}
use Rattle.mds_base.specs.declared.cursor.Cursor.{Cursor}
use Rattle.mds_base.specs.declared.row.Row.{Row}
use Rattle.mds_base.specs.declared.row_key.RowKey.{RowKey}
use Rattle.mds_base.specs.RowKeys.{RowMap, row_key_cmp}
use Rattle.mds_out.specs.Disk.{Image}
use Rattle.row_store.specs.Rows.{laid_over, rows_of, rows_under}
use Rattle.row_store.specs.Value.{HaveRows}
use Rattle.sorted_table.specs.Starts.{before_at}
use Rattle.sorted_table.specs.declared.table_row.TableRow.{TableRow}
use Rattle.sorted_table.specs.Tables.{TableState}

-- the least key of the map that is not below this one
abbrev pub least_from : RowMap → RowKey → Option RowKey
least_from rows key = option_map (λ row. row.0) (slice_get
    (map.entries (map.retain_keys rows (λ other. not (is_lt (row_key_cmp other key))))) 0)

-- the map of open tables with what was said since over it
pub record IsMapOf (tables : List TableState) (said : List (RowKey × Option Attr)) (rows : RowMap)
    (image : Image) : Type 0 where
  pub under : List (List TableRow)
  pub have : HaveRows tables under image
  pub is : rows ≡ laid_over (rows_under under) (rows_of said)

-- No row of the map is between a start and this key, which is not before the start; where there is no key, none is
-- behind the start. The test says which keys are before it.
abbrev pub PassesNone : RowMap → (RowKey → Bool) → Option RowKey → Type 0
PassesNone rows before None = (key : RowKey) → before key ≡ false → map.get rows key ≡ None
PassesNone rows before (Some found) = (before found ≡ false)
    × ((key : RowKey) → before key ≡ false → row_key_cmp key found ≡ Less → map.get rows key ≡ None)

-- the first row of the map that is not before a start
abbrev pub IsFirst : RowMap → (RowKey → Bool) → Option (RowKey × Attr) → Type 0
IsFirst rows before None = PassesNone rows before None
IsFirst rows before (Some row) = PassesNone rows before (Some row.0) × (map.get rows row.0 ≡ Some row.1)

-- the lesser of two keys
abbrev pub lesser : Option RowKey → Option RowKey → Option RowKey
lesser None other = other
lesser (Some one) None = Some one
lesser (Some one) (Some other) = if is_lt (row_key_cmp other one) then Some other else Some one

-- whether a key is before the place at which a page of a partition goes on: behind its last row, whose reversed hash is
-- this, or behind the cursor where it has none yet
abbrev pub before_next : ℕ → ℕ → Cursor → ℕ → Option Row → RowKey → Bool
before_next dir part from rev (Some row) key =
    before_at (record { dir = dir; part = part; rev = rev; name = row.name }) true key
before_next dir part from rev None key = before_at
    (record { dir = dir; part = part; rev = from.at; name = unwrap_or from.after [] }) (is_some from.after) key

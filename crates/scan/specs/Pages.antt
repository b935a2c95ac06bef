-- Pages as they are asked for one after another, and what they list.
use Rattle.std.specs.Prelude.{◌≡◌, ℕ, List, [], ◌∷◌, Option, Some, None, Bool, false, true}
use Rattle.std.specs.List.{AllByRecursion}
use Rattle.std.specs.declared.cmp.Ordering.TheVariants.{Less}
use Rattle.mds_base.specs.declared.cursor.Cursor.{Cursor}
use Rattle.mds_base.specs.declared.row.Row.{Row}
use Rattle.mds_base.specs.declared.row_key.RowKey.{RowKey}
use Rattle.mds_base.specs.RowKeys.{is_past}
use Rattle.name_hash.specs.ScanOrder.{place_of, scan_cmp}
use Rattle.scan.specs.Scans.{Scan, taken}

-- where the row of a name stands among those of its partition
abbrev pub scan_key : List ℕ → RowKey
scan_key name = record { dir = 0; part = 0; rev = place_of name; name = name }

-- whether a row is past a cursor
abbrev pub row_passes : Cursor → Row → Bool
row_passes cursor row = is_past cursor (scan_key row.name)

-- whether a row is left for later pages; nothing is after the last one
abbrev pub is_left : Option Cursor → Row → Bool
is_left None row = false
is_left (Some cursor) row = row_passes cursor row

-- the rows stand in the order of a scan, each name once
abbrev pub Rise : List Row → Type 0
Rise [] = Unit {0}
Rise (row ∷ rows) = AllByRecursion (λ later. scan_cmp row.name later.name ≡ Less) rows × Rise rows

pub record Page : Type 0 where
  pub rows : List Row
  pub next : Option Cursor

-- a page that was asked for from a cursor: its rows rise, each is past that cursor, and none is left for later; a page
-- without rows does not go back
pub record IsPageFrom (cursor : Cursor) (page : Page) : Type 0 where
  pub rise : Rise page.rows
  pub past : AllByRecursion (λ row. row_passes cursor row ≡ true) page.rows
  pub within : AllByRecursion (λ row. is_left page.next row ≡ false) page.rows
  pub onward : page.rows ≡ [] → (row : Row) → row_passes cursor row ≡ false → is_left page.next row ≡ false

-- the pages of a scan that goes on from here, each asked for from where the one before it ended
abbrev pub ArePages : List Page → Option Cursor → Type 0
ArePages [] next = Unit {0}
ArePages (page ∷ pages) None = ⊥
ArePages (page ∷ pages) (Some cursor) = IsPageFrom cursor page × ArePages pages page.next

-- the scan once these pages were taken
abbrev pub after_pages : Scan → List Page → Scan
after_pages scan [] = scan
after_pages scan (page ∷ pages) = after_pages (taken scan page.rows page.next) pages

-- A scan of a directory as its client keeps it: the rows that its pages listed, and from where it goes on.
use Rattle.std.specs.Prelude.{List, [], ◌++◌, Option, Some, None}
use Rattle.mds_base.specs.declared.cursor.Cursor.{Cursor}
use Rattle.mds_base.specs.declared.row.Row.{Row}

pub record Scan : Type 0 where
  -- the rows of the pages that were taken, in their order
  pub listed : List Row
  -- the cursor from which the next page is asked for; none once the last page was taken
  pub next : Option Cursor

-- before all names of a directory
abbrev pub start : Cursor
start = record { at = 0; after = None }

abbrev pub new_scan : Scan
new_scan = record { listed = []; next = Some start }

-- the scan once a page with these rows and this next cursor was taken
abbrev pub taken : Scan → List Row → Option Cursor → Scan
taken scan rows next = record { listed = scan.listed ++ rows; next = next }

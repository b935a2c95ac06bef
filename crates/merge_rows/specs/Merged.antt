-- What several tables say of a key, and the rows that say the same.
use Rattle.std.specs.Prelude.{◌≡◌, List, [], ◌∷◌}
use Rattle.mds_base.specs.declared.row_key.RowKey.{RowKey}
use Rattle.sorted_table.specs.declared.table_row.TableRow.{TableRow}
use Rattle.sorted_table.specs.declared.table_row.Held.{Held}
use Rattle.sorted_table.specs.declared.table_row.Held.TheVariants.{Absent, Tomb, Row}
use Rattle.sorted_table.specs.TableRows.{Rises, held_in}

-- what a newer table says of a key, or else what older ones say
abbrev pub or_older : Held → Held → Held
or_older Absent older = older
or_older Tomb older = Tomb
or_older (Row attr) older = Row attr

-- what the newest of these tables that has a row of the key says of it: the tables stand newest first, each the list of
-- its rows
abbrev pub newest : List (List TableRow) → RowKey → Held
newest [] key = Absent
newest (rows ∷ older) key = or_older (held_in rows key) (newest older key)

-- the same where tombstones are dropped
abbrev pub live : Held → Held
live Absent = Absent
live Tomb = Absent
live (Row attr) = Row attr

-- These rows are each key's newest row, without tombstones.
pub record IsMerged (tables : List (List TableRow)) (rows : List TableRow) : Type 0 where
  pub rise : Rises rows
  pub each : (key : RowKey) → held_in rows key ≡ live (newest tables key)

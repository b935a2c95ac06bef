-- Where a seek begins, and which keys are before it.
use Rattle.std.specs.Prelude.{Bool, if◌then◌else◌}
use Rattle.std.specs.Ordering.{is_lt, is_le}
use Rattle.mds_base.specs.declared.row_key.RowKey.{RowKey}
use Rattle.mds_base.specs.RowKeys.{row_key_cmp}
use Rattle.sorted_table.specs.declared.start.Start.{Start}

-- the place in the order of keys at which it stands; its name may be any bytes
abbrev pub place_of : Start → RowKey
place_of start = record { dir = start.dir; part = start.part; rev = start.rev; name = start.name.now }

-- whether a key is before a place, or past it
abbrev pub before_at : RowKey → Bool → RowKey → Bool
before_at place past key = if past then is_le (row_key_cmp key place) else is_lt (row_key_cmp key place)

-- whether a key is before a start: below its place, or at it where the start is past the place
abbrev pub is_before : Start → RowKey → Bool
is_before start key = before_at (place_of start) start.past key

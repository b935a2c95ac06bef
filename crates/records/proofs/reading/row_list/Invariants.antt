use Rattle.std.proofs.Common.{◌≡◌, ◌-◌, []}
use Rattle.records.specs.Reading.{list_after, row_at}
use Rattle.records.proofs.reading.row_list.Given as goal

abbrev pub invariant-loop-place : goal.invariant-loop-place
invariant-loop-place l = list_after (row_at l.stamped) l.rows (l.count - l.place) l.rest ≡ list_after (row_at l.stamped) [] l.count l.bytes

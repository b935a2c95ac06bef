use Rattle.std.proofs.Common.{◌-◌, length}
use Rattle.node_store.specs.Reading.{IsRead}
use Rattle.node_store.proofs.reading.read_body.Given as goal

-- the records so far were replayed
abbrev pub invariant-records : goal.invariant-records
invariant-records l = IsRead (record { node = l.fn.node; rows = l.fn.rows }) l.body l.offset (record { node = l.node; rows = l.rows })

abbrev pub decreases-records : goal.decreases-records
decreases-records l = length l.body - l.offset

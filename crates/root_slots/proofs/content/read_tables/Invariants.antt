use Rattle.std.proofs.Common.{◌≡◌, ◌-◌, ◌*◌, ◌++◌, length}
use Rattle.root_slots.specs.Slot.{tables_in}
use Rattle.root_slots.proofs.content.read_tables.Given as goal

abbrev pub invariant-loop-table : goal.invariant-loop-table
invariant-loop-table l =
    (l.tables ++ tables_in (l.count - l._table) l.rest ≡ tables_in l.fn.count l.fn.bytes) × (length l.rest ≡ 4 * (l.count - l._table))

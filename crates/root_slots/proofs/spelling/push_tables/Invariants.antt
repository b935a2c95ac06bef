use Rattle.std.proofs.Common.{◌≡◌, ◌++◌, drop}
use Rattle.root_slots.specs.Slot.{listed}
use Rattle.root_slots.proofs.spelling.push_tables.Given as goal

abbrev pub invariant-loop-table : goal.invariant-loop-table
invariant-loop-table l = l.bytes.items ++ listed (drop l.table-index l.tables) ≡ l.initial.bytes.items ++ listed l.tables

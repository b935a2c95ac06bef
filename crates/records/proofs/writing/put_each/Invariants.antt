use Rattle.std.proofs.Common.{◌≡◌, ◌++◌, take}
use Rattle.std.specs.List.{flat_map}
use Rattle.records.specs.Rows.{row_spelling}
use Rattle.records.specs.Writing.{OnlyGrows}
use Rattle.records.proofs.writing.put_each.Given as goal

abbrev pub invariant-loop-row : goal.invariant-loop-row
invariant-loop-row l = record { written : l.out.items ≡ l.fn.out.items ++ flat_map (row_spelling l.stamped) (take l.row-index l.rows); grows : OnlyGrows l.fn.out.items l.out.items }

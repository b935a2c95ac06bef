use Rattle.std.proofs.Common.{◌≡◌, ◌++◌, take}
use Rattle.std.specs.List.{flat_map}
use Rattle.records.specs.Spelling.{record_spelling}
use Rattle.node_store.proofs.serve.spelled.Given as goal

abbrev pub invariant-loop-item : goal.invariant-loop-item
invariant-loop-item l = l.body.items ≡ l.initial.body.items ++ flat_map record_spelling (take l.item-index l.items)

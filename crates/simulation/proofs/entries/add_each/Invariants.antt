use Rattle.std.proofs.Common.{◌≡◌, ◌++◌, take}
use Rattle.simulation.specs.Entries.{changes_of}
use Rattle.simulation.proofs.entries.add_each.Given as goal

abbrev pub invariant-loop-item : goal.invariant-loop-item
invariant-loop-item l =
    (l.messages.made ≡ l.fn.messages.made ++ changes_of (take l.item-index l.item-items)) × (l.messages.sent ≡ l.fn.messages.sent)

use Rattle.std.proofs.Common.{◌≡◌}
use Rattle.sorted_table.specs.Starts.{is_before}
use Rattle.row_store.proofs.SaidBehind.{first_of}
use Rattle.row_store.proofs.behind.first_behind.Given as goal

abbrev pub invariant-loop-key : goal.invariant-loop-key
invariant-loop-key l = first_of (is_before l.start) l.key-iterator ≡ first_of (is_before l.start) l.initial.key-iterator

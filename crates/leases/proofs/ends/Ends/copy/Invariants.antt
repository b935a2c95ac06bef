use Rattle.leases.proofs.Above.{Copies}
use Rattle.leases.proofs.ends.Ends.copy.Given as goal

abbrev pub invariant-loop-name : goal.invariant-loop-name
invariant-loop-name l = Copies l.copy l.name-iterator l.initial.name-iterator

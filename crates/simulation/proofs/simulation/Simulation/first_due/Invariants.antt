use Rattle.simulation.specs.Shows.{IsDue, IsFirst}
use Rattle.simulation.proofs.simulation.Simulation.first_due.Given as goal

abbrev pub invariant-loop-server : goal.invariant-loop-server
invariant-loop-server g l = IsFirst (IsDue l.fn.self l.server) l.first

use Rattle.std.proofs.Common.{◌≡◌, ◌++◌, map}
use Rattle.sessions.specs.Kept.{session_of}
use Rattle.sessions.proofs.kept.Sessions.list.Given as goal

abbrev pub invariant-loop-client : goal.invariant-loop-client
invariant-loop-client l = l.list ++ map session_of l.client-iterator ≡ map session_of l.initial.client-iterator

use Rattle.std.proofs.Common.{◌≡◌, ◌+◌, drop}
use Rattle.simulation.specs.Moves.{awaiting_all}
use Rattle.simulation.proofs.waiting.await_all.Given as goal

abbrev pub invariant-loop-msg : goal.invariant-loop-msg
invariant-loop-msg l =
    (awaiting_all l.waiting (drop l.msg-index l.msg-items) l.message ≡ awaiting_all l.fn.waiting l.msg-items l.fn.first)
    × (l.message ≡ l.fn.first + l.msg-index)

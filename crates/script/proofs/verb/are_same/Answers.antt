use Rattle.std.proofs.Common.{sym, arith}
use Rattle.script.proofs.SameWords.{same_words}
use Rattle.script.proofs.verb.are_same.Goals as goal

pub returns : goal.returns
returns c = sym (same_words c.args.a.now c.args.b.now c.loop-at.at (omega (arith, c.loop-at-test.false)) (omega (arith, c.if-a-b.false)) c.loop-at.invariant)

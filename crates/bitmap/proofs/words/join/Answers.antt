use Rattle.std.proofs.Common.{arith}
use Rattle.bitmap.proofs.Edits.{set_joined, whole_joined}
use Rattle.bitmap.proofs.words.join.Goals as goal

pub returns-clause-spelled : goal.returns-clause-spelled
returns-clause-spelled c =
    set_joined c.loop-i.words c.args.words.now c.args.more.now (λ k lt. c.loop-i.invariant.joined k (omega arith))

pub returns-clause-whole : goal.returns-clause-whole
returns-clause-whole c =
    whole_joined c.loop-i.words c.args.words.now c.args.more.now (λ k lt. c.loop-i.invariant.joined k (omega arith)) c.loop-i.invariant.count

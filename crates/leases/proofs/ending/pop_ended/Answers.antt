use Rattle.std.proofs.Common.{arith}
use Rattle.leases.proofs.Endings.{until_from}
use Rattle.leases.proofs.ending.pop_ended.Goals as goal

pub returns-then-branch-now-clause-above : goal.returns-then-branch-now-clause-above
returns-then-branch-now-clause-above c = λ q has. let from = until_from c.in_ok-first.field-0.now q (c.in_ok-first.ensures.least q has) in omega arith

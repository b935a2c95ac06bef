use Rattle.std.proofs.Common.{arith, true, ◌≡◌, rules}
use Rattle.mds_out.specs.Calls.{is_failing}
use Rattle.mds_out.proofs.Failing.{one_more_failed}
use Rattle.mds_out.proofs.calls.Calls.make.Goals as goal

pub returns-then-contains-clause-cause : goal.returns-then-contains-clause-cause
returns-then-contains-clause-cause c =
    let is : is_failing c.args.self.now.fails.items c.args.self.now.made ≡ true = (let h = c.contains.ensures.value in search rules) in
    let more = one_more_failed c.args.self.now.fails.items c.args.self.now.made is in
    record { later = omega (arith, more); failed = omega (arith, more); kept = tt }

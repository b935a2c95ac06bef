use Rattle.std.proofs.Common.{◌≡◌, ◌∙◌, sym, ap, inr, refl, Bool, true, false, arith}
use Rattle.sorted_table.specs.Checks.{IsSpelled}
use Rattle.sorted_table.proofs.Verdicts.{sum_other, table_is, no_blocks, no_counts}
use Rattle.sorted_table.proofs.opening.verdict.Goals as goal

pub returns-then-not-is_same-clause-verdict : goal.returns-then-not-is_same-clause-verdict
returns-then-not-is_same-clause-verdict c = λ bytes front is k aligned whole hashed at long.
    sum_other bytes front c.args.counts.now c.args.kept c.args.found whole hashed c.requires.sum long c.args.end at (λ same. absurd (let never : ◌≡◌ {A = Bool} true false = sym (c.is_same.ensures.1 same) ∙ c.if-not-is_same.true in cc))

pub returns-in_default-clause-verdict : goal.returns-in_default-clause-verdict
returns-in_default-clause-verdict c = λ bytes front is k aligned whole hashed at long.
    inr (no_blocks bytes front c.args.counts.now c.args.kept c.args.found whole hashed c.requires.sum long k aligned c.requires.small (rw c.in_default.is at is) (c.is_same.ensures.0 c.if-not-is_same.false))

pub returns-then-not-has_counts-clause-verdict : goal.returns-then-not-has_counts-clause-verdict
returns-then-not-has_counts-clause-verdict c = λ bytes front is k aligned whole hashed at long.
    let spelled : IsSpelled c.in-Some.checked front = rw c.in-Some.is at is in
    inr (no_counts bytes front c.args.counts.now c.args.kept c.args.found whole hashed c.requires.sum long k c.in-Some.checked aligned c.requires.small spelled (λ counted. absurd (let never : ◌≡◌ {A = Bool} true false = sym (c.has_counts.ensures.1 counted) ∙ c.if-not-has_counts.true in cc)) (c.is_same.ensures.0 c.if-not-is_same.false))

pub returns-clause-verdict : goal.returns-clause-verdict
returns-clause-verdict c = λ bytes front is k aligned whole hashed at long.
    let spelled : IsSpelled c.in-Some.checked front = rw c.in-Some.is at is in
    (refl, table_is bytes front c.args.counts.now c.args.kept c.args.found whole hashed c.requires.sum long _ c.in-Some.checked (λ i. omega (arith, c.type_inv.counts i)) spelled refl (c.has_counts.ensures.0 c.if-not-has_counts.false) (c.is_same.ensures.0 c.if-not-is_same.false))

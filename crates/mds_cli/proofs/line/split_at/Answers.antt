use Rattle.std.proofs.Common.{◌∙◌, ap, sym, ◌∷◌, ◌++◌, arith, take, ◌+◌, eqb-true}
use Rattle.mds_cli.proofs.ByteParts.{none_found, split_found, lacks_before}
use Rattle.std.proofs.lemmas.List.{take_rest}
use Rattle.mds_cli.proofs.line.split_at.Goals as goal

pub returns-in_default : goal.returns-in_default
returns-in_default c = none_found c.args.stop c.args.bytes.now c.in_default.ensures

pub returns : goal.returns
returns c = (
  lacks_before c.args.stop c.args.bytes.now c.in-Some.at (λ k below is. c.in-Some.ensures.0.before k (omega arith) below is),
  split_found c.args.stop c.args.bytes.now c.in-Some.at c.in-Some.ensures.0.high (eqb-true _ _ c.in-Some.ensures.1)
      ∙ ap (λ l. take c.in-Some.at c.args.bytes.now ++ c.args.stop ∷ l) (sym (take_rest c.args.bytes.now (c.in-Some.at + 1))),
)

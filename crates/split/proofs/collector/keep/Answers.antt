use Rattle.std.proofs.Common.{◌≡◌, get_or, set, false, None, Some, is_some, rules}
use Rattle.mds_base.proofs.Results.{on_err}
use Rattle.split.proofs.Joining.{unset, no_piece}
use Rattle.split.proofs.collector.keep.Goals as goal

pub returns-then-is_err-clause-err : goal.returns-then-is_err-clause-err
returns-then-is_err-clause-err c =
    let pieces = c.args.pieces.now.items in
    let none : is_some (get_or pieces c.args.index None) ≡ false = search rules in
    on_err c.whole-given.result _ (unset pieces c.args.index (Some c.in_ok-copy.field-0) (no_piece _ none))

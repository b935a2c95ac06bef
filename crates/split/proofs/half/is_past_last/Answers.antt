use Rattle.std.proofs.Common.{◌≡◌, ◌∙◌, sym, ap, ◌-◌, Some, length, rules}
use Rattle.std.specs.List.{slice_get}
use Rattle.std.specs.Ordering.{is_lt}
use Rattle.mds_base.specs.RowKeys.{row_key_cmp}
use Rattle.split.specs.Halves.{is_behind}
use Rattle.split.proofs.Moving.{last_is}
use Rattle.split.proofs.half.is_past_last.Goals as goal

pub returns-in-Some : goal.returns-in-Some
returns-in-Some c =
    let last : slice_get c.args.half.now (length c.args.half.now - 1) ≡ Some c.in-Some.field-0.now = search rules in
    let less : c.lt.result ≡ is_lt (row_key_cmp c.in-Some.field-0.now.0 c.args.key.now) = search rules in
    less ∙ sym (ap (λ before. is_behind before c.args.key.now) (last_is c.args.half.now c.in-Some.field-0.now last))

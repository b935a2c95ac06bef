use Rattle.std.proofs.Common.{◌∙◌, sym, ap, refl, ◌++◌, ◌∷◌, [], Some}
use Rattle.mds_base.specs.declared.row_key.RowKey.{RowKey}
use Rattle.sorted_table.proofs.Filling.{checked_push}
use Rattle.sorted_table.proofs.checked.Checked.push.Goals as goal

pub returns-clause-checked : goal.returns-clause-checked
returns-clause-checked c = λ _ blocks kept.
    checked_push c.args.self.now _ c.args.rows.now c.in-Some-Some.first.now c.in-Some-Some.last.now blocks (sym c.in-Some-Some.ensures.value) (sym c.in-Some-Some.ensures'.value)
    (c.in_ok-push.ensures.items ∙ ap (λ (k : RowKey). c.args.self.now.firsts.items ++ k ∷ []) c.in_ok-first_key.ensures) refl (ap (λ (k : RowKey). Some k) c.in_ok-last_key.ensures) c.requires.size kept

use Rattle.std.proofs.Common.{◌∙◌, ap, ◌++◌, ◌∷◌, [], append_assoc}
use Rattle.std.proofs.lemmas.Result.{on_ok_weaker}
use Rattle.sorted_table.specs.TableRows.{plain_spelling}
use Rattle.sorted_table.proofs.spelling.put_unstamped.Goals as goal

pub returns : goal.returns
returns c =
    let plain = plain_spelling c.args.attr.now in
    on_ok_weaker c.put_plain.result (λ is. is ∙ ap (λ l. l ++ plain) c.in_ok-push.ensures.items ∙ append_assoc c.args.out.now.items (1 ∷ []) plain) c.put_plain.ensures

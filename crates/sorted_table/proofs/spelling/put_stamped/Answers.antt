use Rattle.std.proofs.Common.{◌≡◌, ◌∙◌, ap, ◌++◌, ◌∷◌, [], List, ℕ, append_assoc}
use Rattle.std.proofs.lemmas.Result.{on_ok_weaker}
use Rattle.sorted_table.specs.TableRows.{plain_spelling, stamp_spelling}
use Rattle.sorted_table.proofs.spelling.put_stamped.Goals as goal

joined : (old p s : List ℕ) (mark : ℕ) → ((old ++ mark ∷ []) ++ p) ++ s ≡ old ++ mark ∷ (p ++ s)
joined old p s mark = ap (λ l. l ++ s) (append_assoc old (mark ∷ []) p) ∙ append_assoc old (mark ∷ p) s

pub returns : goal.returns
returns c =
    let plain = plain_spelling c.args.attr.now in
    let stamp = stamp_spelling c.args.attr.now in
    on_ok_weaker c.put_stamp.result
    (λ is. is ∙ ap (λ l. l ++ stamp) (c.in_ok-put_plain.ensures ∙ ap (λ l. l ++ plain) c.in_ok-push.ensures.items) ∙ joined c.args.out.now.items plain stamp 2)
    c.put_stamp.ensures

use Rattle.std.proofs.Common.{◌≡◌, ◌∙◌, ◌+◌, ◌++◌, List, [], ◌∷◌, ap, suc, replicate, arith}
use Rattle.merge_rows.specs.Cursors.{CursorState, at_front}
use Rattle.merge_rows.proofs.Along.{replicate_last}
use Rattle.merge_rows.proofs.cursors.cursors_of.Goals as goal

pub loop-place-preserved : goal.loop-place-preserved
loop-place-preserved c =
    let further : suc c.loop-place._place ≡ c.loop-place._place + 1 = omega arith in
    c.in_ok-push.ensures.items
    ∙ ap (λ (l : List CursorState). l ++ c.new.result ∷ []) c.loop-place.invariant
    ∙ ap (λ (x : CursorState). replicate c.loop-place._place at_front ++ x ∷ []) c.new.ensures
    ∙ replicate_last c.loop-place._place at_front
    ∙ ap (λ n. replicate n at_front) further

use Rattle.std.proofs.Common.{◌∙◌, ◌++◌, ap, sym, map, drop, set, List}
use Rattle.std.proofs.lemmas.List.{append-nil, take_all, drop_all}
use Rattle.std.proofs.lemmas.List.Edits.{map_over_more}
use Rattle.merge_rows.specs.Cursors.{CursorState, cursor_passed}
use Rattle.merge_rows.proofs.cursors.pass_all.Goals as goal

pub returns : goal.returns
returns c =
    let f = cursor_passed c.args.key.now in
    let old = c.args.cursors.now in
    c.loop-cursor.invariant
    ∙ ap (λ (l : List CursorState). map f l ++ drop c.loop-cursor.cursor-index old) (take_all c.loop-cursor.cursor-index old c.loop-cursor-test.false)
    ∙ ap (λ (l : List CursorState). map f old ++ l) (drop_all c.loop-cursor.cursor-index old c.loop-cursor-test.false)
    ∙ append-nil (map f old)

pub loop-cursor-preserved : goal.loop-cursor-preserved
loop-cursor-preserved c =
    let f = cursor_passed c.args.key.now in
    ap (λ x. set c.loop-cursor.cursors c.loop-cursor.cursor-index x) (c.pass.ensures ∙ ap f (sym c.cursor-item.is))
    ∙ map_over_more f c.args.cursors.now c.loop-cursor.cursors c.loop-cursor.cursor-index c.cursor-item.result c.loop-cursor-test.true c.loop-cursor.invariant c.cursor-item.is

use Rattle.std.proofs.Common.{◌≡◌, ◌∙◌, sym, ap, ◌++◌, [], get_or, take, unwrap_or, rules}
use Rattle.split.specs.Pieces.{all_rows}
use Rattle.split.proofs.Joining.{joined_more}
use Rattle.split.proofs.collector.join.Goals as goal

pub loop-piece-preserved : goal.loop-piece-preserved
loop-piece-preserved c =
    let pieces = c.args.pieces.now in
    let i = c.loop-piece.piece-index in
    let piece = c.piece-item.result in
    let item : piece ≡ get_or pieces i piece = search rules in
    let pushed : c.push_copies.new.list ≡ c.loop-piece.rows ++ unwrap_or piece [] = search rules in
    pushed
    ∙ ap (λ rows. rows ++ unwrap_or piece []) c.loop-piece.invariant
    ∙ ap (λ p. all_rows (take i pieces) ++ unwrap_or p []) item
    ∙ sym (joined_more pieces i piece c.loop-piece-test.true)

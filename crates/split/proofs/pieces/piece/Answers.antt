use Rattle.std.proofs.Common.{◌≡◌, ◌∙◌, ◌-◌, ◌+◌, ◌*◌, take, drop, min, length, arith, rules}
use Rattle.split.proofs.Joining.{piece_between}
use Rattle.split.proofs.pieces.piece.Goals as goal

pub returns : goal.returns
returns c =
    let start = c.min-start.result in
    let end = c.min-end.result in
    let cut : c.push_copies.new.list ≡ take (end - start) (drop start c.args.rows.now) = search rules in
    cut ∙ piece_between c.args.rows.now c.args.index start end (search rules) (search rules)

use Rattle.std.proofs.Common.{◌≡◌, List, ℕ, drop, length, arith, ◌∙◌, ap}
use Rattle.std.proofs.lemmas.List.{drop_at, length-append}
use Rattle.std.proofs.lemmas.Result.{IfOk-weaker}
use Rattle.records.specs.Spelling.{record_spelling}
use Rattle.records.proofs.Lengths.{record_short}
use Rattle.node_store.proofs.opening.piece.Goals as goal

pub end-requires-clause-short : goal.end-requires-clause-short
end-requires-clause-short c =
    let short = record_short c.args.item.now c.requires.spelled in
    let rows = ap length c.requires.without_rows in
    let long = ap length c.in_ok-write.ensures.ok ∙ length-append c.in_ok-body.body.items (record_spelling c.args.item.now) in
    omega (arith, long, c.in_ok-body.ensures, short, rows)

pub returns : goal.returns
returns c =
    let body : drop 4 c.write.new.out.items ≡ record_spelling c.args.item.now =
    ap (drop 4) c.in_ok-write.ensures.ok ∙ drop_at c.in_ok-body.body.items (record_spelling c.args.item.now) 4 c.in_ok-body.ensures in
    IfOk-weaker c.end.result (λ (piece : List ℕ). piece ≡ drop 4 c.write.new.out.items) (λ piece. piece ≡ record_spelling c.args.item.now) (λ piece is. is ∙ body) c.end.ensures

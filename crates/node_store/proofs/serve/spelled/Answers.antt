use Rattle.std.proofs.Common.{◌≡◌, List, ℕ, take, drop, ◌∙◌, ap, arith}
use Rattle.std.proofs.lemmas.List.{drop_at, take_all}
use Rattle.std.proofs.lemmas.Result.{IfOk-weaker}
use Rattle.std.specs.List.{flat_map}
use Rattle.records.specs.Spelling.{record_spelling}
use Rattle.node_store.proofs.serve.spelled.Goals as goal

pub returns : goal.returns
returns c =
    let all : take c.loop-item.item-index c.args.items.now ≡ c.args.items.now = take_all c.loop-item.item-index c.args.items.now (omega (arith, c.loop-item-test.false)) in
    let body : drop 4 c.loop-item.body.items ≡ flat_map record_spelling c.args.items.now =
    ap (drop 4) c.loop-item.invariant ∙ drop_at c.in_ok-body.body.items (flat_map record_spelling (take c.loop-item.item-index c.args.items.now)) 4 c.in_ok-body.ensures ∙ ap (flat_map record_spelling) all in
    IfOk-weaker c.end.result (λ (piece : List ℕ). piece ≡ drop 4 c.loop-item.body.items) (λ piece. piece ≡ flat_map record_spelling c.args.items.now) (λ piece is. is ∙ body) c.end.ensures

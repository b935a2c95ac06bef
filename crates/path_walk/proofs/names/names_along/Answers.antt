use Rattle.std.proofs.Common.{◌≡◌, ◌∙◌, sym, ap, length, true, [], ◌∷◌, Ok, Err, rules, tests, arith}
use Rattle.std.specs.Prelude.{◌==◌, not, slice_index}
use Rattle.std.proofs.lemmas.List.{map-append}
use Rattle.std.proofs.lemmas.Iterator.Consumers.{YieldsList-at, YieldsList-so_far, YieldsList-turn, YieldsList-end}
use Rattle.path_walk.proofs.Pieces.{pieces_of, passing}
use Rattle.path_walk.specs.Paths.{names_from}
use Rattle.path_walk.proofs.Reading.{names_more, with_slash, stopped, reads_stop}
use Rattle.path_walk.proofs.names.names_along.Goals as goal

pub returns-in_err-name-clause-names : goal.returns-in_err-name-clause-names
returns-in_err-name-clause-names c =
    let road = YieldsList-at c.into_iter-component-iterator.ensures.into_iter_gives
    (passing _ _ (λ piece. not (length piece == 0)) (YieldsList-at c.filter-component-items.ensures.source (pieces_of _ _ (λ byte. byte == 47) c.args.path.now c.split.ensures.runs c.split.ensures.rest c.split.ensures.done c.split.ensures.closure (λ x r q k. search (rules, tests)))) c.filter-component-items.ensures.runs c.filter-component-items.ensures.closure (λ x r q k. search (rules, tests))) in
    let far = YieldsList-so_far road c.loop-component.yielded _ c.loop-component.yielded_by in
    let turn = YieldsList-turn road c.loop-component.yielded _ c.loop-component.yielded_by _ _ c.in-Some.component c.in-Some.is c.next.ensures.steps in
    let (_, _, read, _) = c.loop-component.invariant in
    let slash : (slice_index c.args.path.now 0 == 47) ≡ true = sym c.begins_with_slash.ensures ∙ c.if-not-begins_with_slash.false in
    let place : c.len.result ≡ length c.loop-component.names.items = let m = c.loop-component.names.ok in let l = c.len.ensures in omega (arith, m, l) in
    reads_stop (λ names. names.items) c.from_residual.result c.in_err-name.field-0.0 c.len.result _ _ c.from_residual.ensures.1 c.in_err-name.ensures.name
    (λ none. stopped c.args.path.now _ _ _ c.loop-component.names.items slash read far turn.0 turn.1 none ∙ ap Err (sym place))

pub loop-component-preserved : goal.loop-component-preserved
loop-component-preserved c =
    let (_, _, read, few) = c.loop-component.invariant in (
      search rules,
      search rules,
      ap (names_from 0) (map-append (λ piece. piece.now) c.loop-component.yielded (c.in-Some.component ∷ [])) ∙ names_more 0 _ _ c.in_ok-name.name c.loop-component.names.items read c.in_ok-name.ensures.name ∙ ap Ok (sym c.in_ok-push.ensures.items),
      (let n = c.in_ok-name.ensures.few in let m = c.loop-component.names.ok in let l = c.len.ensures in omega (arith, n, m, l, ap length c.in_ok-push.ensures.items)),
    )

pub returns-clause-names : goal.returns-clause-names
returns-clause-names c =
    let road = YieldsList-at c.into_iter-component-iterator.ensures.into_iter_gives
    (passing _ _ (λ piece. not (length piece == 0)) (YieldsList-at c.filter-component-items.ensures.source (pieces_of _ _ (λ byte. byte == 47) c.args.path.now c.split.ensures.runs c.split.ensures.rest c.split.ensures.done c.split.ensures.closure (λ x r q k. search (rules, tests)))) c.filter-component-items.ensures.runs c.filter-component-items.ensures.closure (λ x r q k. search (rules, tests))) in
    let all = YieldsList-end road c.loop-component.yielded _ c.loop-component.yielded_by _ _ c.in-None.is c.next.ensures.steps in
    let (_, _, read, _) = c.loop-component.invariant in
    with_slash c.args.path.now (sym c.begins_with_slash.ensures ∙ c.if-not-begins_with_slash.false) ∙ ap (names_from 0) (sym all.0) ∙ read

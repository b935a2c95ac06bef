use Rattle.std.proofs.Common.{◌≡◌, ◌∙◌, sym, ap, subst, ◌≤◌, IfNone, Some, None}
use Rattle.std.specs.FinMap as map
use Rattle.std.proofs.lemmas.Bool.{false≢true}
use Rattle.leases.specs.Leases.{Ends, end_of}
use Rattle.leases.proofs.Endings.{no_ends, end_there, upto_last}
use Rattle.leases.proofs.ends.Ends.last.Goals as goal

pub returns-in_err-last-clause-none : goal.returns-in_err-last-clause-none
returns-in_err-last-clause-none c =
    let none : c.args.self.now ≡ map.empty = sym c.self.view_is ∙ no_ends c.self.inside.order.keys (map.from_entries c.self.inside.by_name.entries) c.self.invariant (λ some. false≢true (c.in_err-last.ensures.variant.1 some)) in
    elim c.from_residual.result as (λ o. IfNone o (c.args.self.now ≡ map.empty)) [ None ↦ none | Some last ↦ tt ]

pub returns-clause-reached : goal.returns-clause-reached
returns-clause-reached c =
    (c.in_ok-last.field-0.now.name, ap (λ (m : Ends). map.get m c.in_ok-last.field-0.now.name) (sym c.self.view_is) ∙ end_there c.self.inside.order.keys (map.from_entries c.self.inside.by_name.entries) c.in_ok-last.field-0.now c.self.invariant c.in_ok-last.ensures.member)

pub returns-clause-greatest : goal.returns-clause-greatest
returns-clause-greatest c = λ name.
    subst (λ (m : Ends). end_of m name ≤ c.in_ok-last.field-0.now.until) c.self.view_is (upto_last c.self.inside.order.keys (map.from_entries c.self.inside.by_name.entries) c.in_ok-last.field-0.now c.self.invariant c.in_ok-last.ensures.greatest name)

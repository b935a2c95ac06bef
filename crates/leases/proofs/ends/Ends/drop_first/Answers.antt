use Rattle.std.proofs.Common.{◌≡◌, ◌∙◌, sym, ap, subst, ◌<◌}
use Rattle.std.specs.FinMap as map
use Rattle.std.proofs.lemmas.Cmp.{nat_list_cmp_total}
use Rattle.std.proofs.lemmas.Map.Lookups.{exact_bytes}
use Rattle.mds_base.proofs.Maps.{one_taken}
use Rattle.leases.specs.Leases.{Ends, ends_above}
use Rattle.leases.proofs.Endings.{first_taken, none_taken}
use Rattle.leases.proofs.ends.Ends.drop_first.Goals as goal
use Rattle.leases.proofs.ends.Ends.drop_first.Goals.{in-Long-1, in-Short-1}

below : (m n old new : Ends) → new ≡ n → m ≡ old → map.len n < map.len m → map.len new < map.len old
below m n old new is was fewer = subst (λ (n : Ends). map.len n < map.len old) (sym is) (subst (λ (m : Ends). map.len n < map.len m) was fewer)

pub invariant_of-self-in-Some : goal.invariant_of-self-in-Some
invariant_of-self-in-Some c =
    let removed = one_taken nat_list_cmp_total exact_bytes c.self.inside.by_name.entries c.remove.new.self.entries c.in-Some.ended.name c.remove.ensures.updates.0 in
    (first_taken c.self.inside.order.keys c.pop_ended.new.order.keys _ _ c.in-Some.ended c.args.now c.self.invariant c.in-Some.ensures.member c.in-Some.ensures.taken removed c.in-Some.ensures.ended).endings

pub invariant_of-self-in-Some-2 : goal.invariant_of-self-in-Some-2
invariant_of-self-in-Some-2 c =
    let removed = one_taken nat_list_cmp_total exact_bytes c.self.inside.by_name.entries c.remove.new.self.entries c.in-Some.ended.name c.remove.ensures.updates.0 in
    (first_taken c.self.inside.order.keys c.pop_ended.new.order.keys _ _ c.in-Some.ended c.args.now c.self.invariant c.in-Some.ensures.member c.in-Some.ensures.taken removed c.in-Some.ensures.ended).endings

pub returns-in-None-clause-none : goal.returns-in-None-clause-none
returns-in-None-clause-none c =
    none_taken c.self.inside.order.keys (map.from_entries c.self.inside.by_name.entries) c.args.now c.self.invariant c.in-None.ensures.above
    ∙ ap (λ (m : Ends). ends_above m c.args.now) c.self.view_is

pub returns-in-Some-clause-same : goal.returns-in-Some-clause-same
returns-in-Some-clause-same c =
    let removed = one_taken nat_list_cmp_total exact_bytes c.self.inside.by_name.entries c.remove.new.self.entries c.in-Some.ended.name c.remove.ensures.updates.0 in
    let taken = first_taken c.self.inside.order.keys c.pop_ended.new.order.keys _ _ c.in-Some.ended c.args.now c.self.invariant c.in-Some.ensures.member c.in-Some.ensures.taken removed c.in-Some.ensures.ended in
    let is : c.match-ended.self ≡ map.from_entries c.remove.new.self.entries = elim c.match-ended.branch [ in-Long-1 w ↦ w.self-is | in-Short-1 w ↦ w.self-is ] in
    ap (λ (m : Ends). ends_above m c.args.now) is ∙ taken.same ∙ ap (λ (m : Ends). ends_above m c.args.now) c.self.view_is

pub returns-in-Some-clause-fewer : goal.returns-in-Some-clause-fewer
returns-in-Some-clause-fewer c =
    let removed = one_taken nat_list_cmp_total exact_bytes c.self.inside.by_name.entries c.remove.new.self.entries c.in-Some.ended.name c.remove.ensures.updates.0 in
    let taken = first_taken c.self.inside.order.keys c.pop_ended.new.order.keys _ _ c.in-Some.ended c.args.now c.self.invariant c.in-Some.ensures.member c.in-Some.ensures.taken removed c.in-Some.ensures.ended in
    let is : c.match-ended.self ≡ map.from_entries c.remove.new.self.entries = elim c.match-ended.branch [ in-Long-1 w ↦ w.self-is | in-Short-1 w ↦ w.self-is ] in
    below _ _ _ _ is c.self.view_is taken.fewer

use Rattle.std.proofs.Common.{◌≡◌, ◌++◌, ◌∙◌, sym, ap, map}
use Rattle.std.proofs.lemmas.List.{append-nil}
use Rattle.std.specs.Map.Iter.{deref_pair}
use Rattle.std.specs.FinMap as map
use Rattle.std.proofs.lemmas.Map.Iter.{rest_all}
use Rattle.mds_base.proofs.Maps.{entries_of_sorted}
use Rattle.mds_base.proofs.Places.{places_total, exact_places}
use Rattle.bulk.specs.Trees.{row_of}
use Rattle.bulk.proofs.object.Object.rows.Goals as goal

pub returns : goal.returns
returns c =
    let done = rest_all deref_pair c.loop-place.place-iterator _ c.next.result c.in-None.is c.next.ensures.steps in
    let whole : c.into_iter-place-iterator.result ≡ c.self.inside.members.entries = c.into_iter-place-iterator.ensures.into_iter_gives.0 in
    let all = ap (λ es. map (row_of c.args.first) es) (sym (entries_of_sorted places_total exact_places c.self.inside.members.entries c.len-members.ensures.ordered) ∙ ap map.entries c.self.view_is) in
    sym (ap (λ es. c.loop-place.rows ++ map (row_of c.args.first) es) done ∙ append-nil _) ∙ c.loop-place.invariant ∙ ap (λ es. map (row_of c.args.first) es) whole ∙ all

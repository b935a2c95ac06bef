use Rattle.std.proofs.Common.{◌≡◌, ◌++◌, ◌∙◌, sym, ap, map}
use Rattle.std.proofs.lemmas.List.{append-nil}
use Rattle.std.specs.Map.Iter.{deref_pair}
use Rattle.std.specs.FinMap as map
use Rattle.std.proofs.lemmas.Map.Iter.{rest_all}
use Rattle.sessions.specs.Kept.{session_of}
use Rattle.sessions.proofs.Lists.{entries_rising}
use Rattle.sessions.proofs.kept.Sessions.list.Goals as goal

pub returns : goal.returns
returns c =
    let done = rest_all deref_pair c.loop-client.client-iterator _ c.next.result c.in-None.is c.next.ensures.steps in
    let whole : c.into_iter-client-iterator.result ≡ c.self.inside.kept.entries = c.into_iter-client-iterator.ensures.into_iter_gives.0 in
    let all = ap (λ es. map session_of es) (sym (entries_rising c.self.inside.kept.entries c.len-clients.ensures.ordered) ∙ ap map.entries c.self.view_is) in
    sym (ap (λ es. c.loop-client.list ++ map session_of es) done ∙ append-nil _) ∙ c.loop-client.invariant ∙ ap (λ es. map session_of es) whole ∙ all

use Rattle.std.proofs.Common.{◌≡◌, IfOk, subst, ◌∙◌, ap}
use Rattle.sessions.specs.Kept.{from_listed}
use Rattle.sessions.proofs.Lists.{from_own_list}
use Rattle.sessions.proofs.kept.Sessions.copy.Goals as goal

pub returns : goal.returns
returns c =
    let e : from_listed c.in_ok-list.list ≡ c.args.self.now = ap from_listed c.in_ok-list.ensures ∙ from_own_list c.args.self.now in
    subst (λ m. IfOk c.from_list.result (λ s. s ≡ m)) e c.from_list.ensures

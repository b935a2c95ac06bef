use Rattle.std.proofs.Common.{sym, ◌∙◌, ap}
use Rattle.sessions.specs.Kept.{judge_kept}
use Rattle.sessions.proofs.Lists.{kept_is}
use Rattle.sessions.proofs.kept.Sessions.judge.Goals as goal

pub returns-in-None : goal.returns-in-None
returns-in-None c = sym (ap (λ o. judge_kept o c.args.seq) (kept_is _ _ c.args.client _ c.self.view_is c.in-None.ensures.value))

pub returns-in-Some : goal.returns-in-Some
returns-in-Some c = c.judge.ensures ∙ sym (ap (λ o. judge_kept o c.args.seq) (kept_is _ _ c.args.client _ c.self.view_is c.in-Some.ensures.value))

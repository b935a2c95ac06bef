use Rattle.std.proofs.Common.{◌∙◌, sym}
use Rattle.sessions.proofs.Lists.{kept_is}
use Rattle.sessions.proofs.kept.Sessions.kept.Goals as goal

pub returns : goal.returns
returns c = sym (kept_is c.self.inside.kept.entries c.args.self.now c.args.client _ c.self.view_is (c.copied.ensures ∙ c.get.ensures.value))

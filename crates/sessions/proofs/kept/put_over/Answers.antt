use Rattle.std.proofs.Common.{◌∙◌, sym, ap, Some}
use Rattle.std.specs.FinMap as map
use Rattle.sessions.specs.Kept.{restored}
use Rattle.sessions.proofs.Lists.{put_there, put_nowhere}
use Rattle.sessions.proofs.kept.put_over.Goals as goal

pub returns-in-Some : goal.returns-in-Some
returns-in-Some c = put_there c.args.held.now.entries (c.get_mut.follows.lender c.args.kept).entries c.args.client c.in-Some.slot.now c.args.kept c.in-Some.ensures.value (λ some. ((c.get_mut.follows.holds c.args.kept).3 some).0)

pub returns-in_default : goal.returns-in_default
returns-in_default c = ap (λ m. map.from_entries m.entries) c.get_mut.follows.holds-at-none ∙ put_nowhere c.args.held.now.entries c.args.client c.args.kept c.in_default.ensures.value

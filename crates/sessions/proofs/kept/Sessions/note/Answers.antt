use Rattle.std.proofs.Common.{◌∙◌, ap}
use Rattle.std.specs.Cmp.{nat_cmp_total}
use Rattle.std.specs.FinMap as map
use Rattle.std.proofs.lemmas.Map.Lookups.{exact_unsigned}
use Rattle.mds_base.proofs.Maps.{one_put}
use Rattle.sessions.proofs.kept.Sessions.note.Goals as goal

pub returns-clause-ok : goal.returns-clause-ok
returns-clause-ok c = one_put nat_cmp_total exact_unsigned c.self.inside.kept.entries c.insert.new.self.entries c.args.client (record { seq = c.args.seq; said = c.args.said }) c.in_ok-insert.ensures.updates.0
    ∙ ap (λ m. map.insert m c.args.client (record { seq = c.args.seq; said = c.args.said })) c.self.view_is

use Rattle.std.proofs.Common.{◌∙◌, sym, ap}
use Rattle.std.specs.Cmp.{nat_cmp_total}
use Rattle.std.specs.FinMap as map
use Rattle.std.proofs.lemmas.Map.Lookups.{exact_unsigned}
use Rattle.mds_base.proofs.Maps.{one_taken}
use Rattle.sessions.specs.Kept.{restored}
use Rattle.sessions.proofs.kept.Sessions.restore.Goals as goal

pub returns-in-None : goal.returns-in-None
returns-in-None c =
    one_taken nat_cmp_total exact_unsigned c.self.inside.kept.entries c.remove.new.self.entries c.args.client c.remove.ensures.updates.0
    ∙ ap (λ m. map.remove m c.args.client) c.self.view_is
    ∙ ap (restored c.args.self.now c.args.client) (sym c.in-None.is)

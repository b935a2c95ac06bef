use Rattle.std.proofs.Common.{◌∙◌, ap}
use Rattle.std.specs.FinMap as map
use Rattle.mds_base.proofs.Maps.{one_put}
use Rattle.mds_base.proofs.Places.{places_total, exact_places}
use Rattle.plain_dir.proofs.directory.PlainDir.insert.Goals as goal

pub returns-clause-ok : goal.returns-clause-ok
returns-clause-ok c = one_put places_total exact_places c.self.inside.entries.entries c.insert.new.self.entries c.args.place c.args.attr c.in_ok-insert.ensures.updates.0 ∙ ap (λ m. map.insert m c.args.place c.args.attr) c.self.view_is

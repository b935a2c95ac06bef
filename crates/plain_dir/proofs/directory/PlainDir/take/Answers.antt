use Rattle.std.proofs.Common.{◌∙◌, ap}
use Rattle.std.specs.FinMap as map
use Rattle.mds_base.proofs.Maps.{one_taken}
use Rattle.mds_base.proofs.Places.{places_total, exact_places}
use Rattle.plain_dir.proofs.directory.PlainDir.take.Goals as goal

pub returns : goal.returns
returns c = one_taken places_total exact_places c.self.inside.entries.entries c.remove.new.self.entries c.args.place.now c.remove.ensures.updates.0 ∙ ap (λ m. map.remove m c.args.place.now) c.self.view_is

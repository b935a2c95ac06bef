use Rattle.std.proofs.Common.{◌∙◌, sym, ap}
use Rattle.std.specs.FinMap as map
use Rattle.mds_base.proofs.Maps.{get_entries}
use Rattle.mds_base.proofs.Places.{places_total, exact_places}
use Rattle.plain_dir.proofs.directory.PlainDir.get.Goals as goal

pub returns : goal.returns
returns c = c.copied.ensures ∙ c.get.ensures.value ∙ sym (get_entries places_total exact_places c.self.inside.entries.entries c.args.place.now) ∙ ap (λ m. map.get m c.args.place.now) c.self.view_is

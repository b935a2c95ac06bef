use Rattle.std.proofs.Common.{◌≡◌, ◌∙◌, ap}
use Rattle.std.specs.FinMap as map
use Rattle.chains.specs.Reversed.{reversed}
use Rattle.name_hash.specs.ScanOrder.{place_of}
use Rattle.mds_base.proofs.Maps.{one_put}
use Rattle.mds_base.proofs.Places.{places_total, exact_places}
use Rattle.mds_base.specs.Entries.{Place}
use Rattle.bulk.proofs.object.Object.add.Goals as goal

pub returns : goal.returns
returns c =
    let key : Place = (c.reverse.result, c.args.name) in
    let turned : c.reverse.result ≡ place_of c.args.name = c.reverse.ensures ∙ ap (reversed 64) c.hash.ensures in
    one_put places_total exact_places c.self.inside.members.entries c.insert.new.self.entries key c.args.kind c.in_ok-insert.ensures.updates.0
    ∙ ap (λ m. map.insert m key c.args.kind) c.self.view_is
    ∙ ap (λ rev. map.insert c.args.self.now (rev, c.args.name) c.args.kind) turned

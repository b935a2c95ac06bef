use Rattle.plain_dir.proofs.Applied.{has_by}
use Rattle.plain_dir.proofs.directory.PlainDir.has_entry.Goals as goal

pub returns : goal.returns
returns c = has_by c.self.inside.entries.entries c.args.self.now c.args.dir c.has_place_in.result c.self.view_is c.has_place_in.ensures

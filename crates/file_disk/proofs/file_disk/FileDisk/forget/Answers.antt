use Rattle.std.proofs.Common.{◌∙◌, ap}
use Rattle.file_disk.specs.Noted.{Noted, forgotten}
use Rattle.file_disk.proofs.Lengths.{taking_forgets}
use Rattle.file_disk.proofs.file_disk.FileDisk.forget.Goals as goal

pub returns : goal.returns
returns g c = taking_forgets c.self.inside.lengths.entries c.remove.new.self.entries c.self.inside.faults c.self.inside.asked c.self.inside.changes c.args.file c.remove.ensures.updates.0 ∙ ap (λ (d : Noted). forgotten d c.args.file) c.self.view_is

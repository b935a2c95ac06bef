use Rattle.std.proofs.Common.{◌∙◌, sym, ap}
use Rattle.file_disk.specs.Noted.{Noted, told_length}
use Rattle.file_disk.proofs.Lengths.{told_entry}
use Rattle.file_disk.proofs.file_disk.FileDisk.told.Goals as goal

pub returns : goal.returns
returns g c = c.copied.ensures ∙ c.get.ensures.value ∙ sym (told_entry c.self.inside.lengths.entries c.self.inside.faults c.self.inside.asked c.self.inside.changes c.args.file) ∙ ap (λ (d : Noted). told_length d c.args.file) c.self.view_is

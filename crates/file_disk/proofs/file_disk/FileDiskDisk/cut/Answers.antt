use Rattle.std.proofs.Common.{◌∙◌, ap}
use Rattle.mds_out.specs.Images.{IsShortened}
use Rattle.mds_out.proofs.Acted.{uncut_shortened}
use Rattle.file_disk.specs.Noted.{Noted, told_length, noted, forgotten, change_counted}
use Rattle.file_disk.proofs.Lengths.{noted_here, noted_apart, forgotten_apart}
use Rattle.file_disk.proofs.Owed.{refused_told, elsewhere, anything_follows}
use Rattle.file_disk.proofs.file_disk.FileDiskDisk.cut.Goals as goal

pub returns-then-not-note-clause-crash : goal.returns-then-not-note-clause-crash
returns-then-not-note-clause-crash g c = anything_follows c.args.file (IsShortened c.args.to) (uncut_shortened c.args.to)

pub returns-in-Ok-clause-size : goal.returns-in-Ok-clause-size
returns-in-Ok-clause-size g c = ap (λ (d : Noted). told_length d c.args.file) (c.self.view_is ∙ c.if-not-note.ensures.value) ∙ noted_here c.count_change.new.self c.args.file c.args.to

pub returns-in-Ok-clause-elsewhere : goal.returns-in-Ok-clause-elsewhere
returns-in-Ok-clause-elsewhere g c = elsewhere c.args.file (told_length c.args.self.now) _ (λ other apart.
    ap (λ (d : Noted). told_length d other) (c.self.view_is ∙ c.if-not-note.ensures.value)
    ∙ noted_apart c.count_change.new.self c.args.file c.args.to other apart
    ∙ ap (λ (d : Noted). told_length d other) c.count_change.ensures)

pub returns-in-Ok-clause-crash : goal.returns-in-Ok-clause-crash
returns-in-Ok-clause-crash g c = anything_follows c.args.file (IsShortened c.args.to) (uncut_shortened c.args.to)

pub returns-in-Err-clause-elsewhere : goal.returns-in-Err-clause-elsewhere
returns-in-Err-clause-elsewhere g c = elsewhere c.args.file (told_length c.args.self.now) (told_length c.refuse.new.self) (λ other apart.
    ap (λ (d : Noted). told_length d other) c.refuse.ensures.value ∙ refused_told c.refuse.result c.forget.new.self other
    ∙ ap (λ (d : Noted). told_length d other) (c.forget.ensures ∙ ap (λ (d : Noted). forgotten d c.args.file) (c.self.view_is ∙ c.if-not-note.ensures.value ∙ ap (λ (d : Noted). noted d c.args.file c.args.to) c.count_change.ensures))
    ∙ forgotten_apart (noted (change_counted c.args.self.now) c.args.file c.args.to) c.args.file other apart
    ∙ noted_apart (change_counted c.args.self.now) c.args.file c.args.to other apart)

pub returns-in-Err-clause-crash : goal.returns-in-Err-clause-crash
returns-in-Err-clause-crash g c = anything_follows c.args.file (IsShortened c.args.to) (uncut_shortened c.args.to)

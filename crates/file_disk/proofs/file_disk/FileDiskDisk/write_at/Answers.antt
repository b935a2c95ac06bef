use Rattle.std.proofs.Common.{◌≡◌, ◌+◌, ◌∙◌, sym, ap, subst, length, max}
use Rattle.mds_out.specs.Images.{IsTorn}
use Rattle.mds_out.specs.Known.{OnKnown}
use Rattle.mds_out.proofs.Acted.{untouched_torn}
use Rattle.file_disk.specs.Noted.{Noted, told_length, forgotten, grown, change_counted}
use Rattle.file_disk.proofs.Lengths.{grown_here, grown_apart, forgotten_apart}
use Rattle.file_disk.proofs.Owed.{refused_told, elsewhere, anything_follows}
use Rattle.file_disk.proofs.file_disk.FileDiskDisk.write_at.Goals as goal

pub returns-in-Ok-clause-size : goal.returns-in-Ok-clause-size
returns-in-Ok-clause-size g c =
    let end = c.args.at + length c.args.bytes.now in
    let is = c.grow.ensures ∙ ap (λ (d : Noted). grown (told_length d c.args.file) d c.args.file end) (c.self.view_is ∙ c.count_change.ensures) in
    subst (λ (d : Noted). OnKnown (told_length c.args.self.now c.args.file) (told_length d c.args.file) (λ old new. new ≡ max old end)) (sym is) (grown_here (told_length c.args.self.now c.args.file) (change_counted c.args.self.now) c.args.file end)

pub returns-in-Ok-clause-elsewhere : goal.returns-in-Ok-clause-elsewhere
returns-in-Ok-clause-elsewhere g c =
    let end = c.args.at + length c.args.bytes.now in
    let is = c.grow.ensures ∙ ap (λ (d : Noted). grown (told_length d c.args.file) d c.args.file end) (c.self.view_is ∙ c.count_change.ensures) in
    elsewhere c.args.file (told_length c.args.self.now) (told_length c.grow.new.self) (λ other apart.
    ap (λ (d : Noted). told_length d other) is ∙ grown_apart (told_length c.args.self.now c.args.file) (change_counted c.args.self.now) c.args.file end other apart)

pub returns-in-Ok-clause-crash : goal.returns-in-Ok-clause-crash
returns-in-Ok-clause-crash g c = anything_follows c.args.file (IsTorn c.args.at (length c.args.bytes.now)) (untouched_torn c.args.at (length c.args.bytes.now))

pub returns-in-Err-clause-elsewhere : goal.returns-in-Err-clause-elsewhere
returns-in-Err-clause-elsewhere g c = elsewhere c.args.file (told_length c.args.self.now) (told_length c.refuse.new.self) (λ other apart.
    ap (λ (d : Noted). told_length d other) c.refuse.ensures.value ∙ refused_told c.refuse.result c.forget.new.self other
    ∙ ap (λ (d : Noted). told_length d other) (c.forget.ensures ∙ ap (λ (d : Noted). forgotten d c.args.file) (c.self.view_is ∙ c.count_change.ensures))
    ∙ forgotten_apart (change_counted c.args.self.now) c.args.file other apart)

pub returns-in-Err-clause-crash : goal.returns-in-Err-clause-crash
returns-in-Err-clause-crash g c = anything_follows c.args.file (IsTorn c.args.at (length c.args.bytes.now)) (untouched_torn c.args.at (length c.args.bytes.now))

use Rattle.std.proofs.Common.{◌≡◌, ◌∙◌, sym, ap, subst, Ok}
use Rattle.mds_out.specs.Known.{OnTold}
use Rattle.file_disk.specs.Noted.{Noted, told_length, noted, counted}
use Rattle.file_disk.proofs.Lengths.{noted_here}
use Rattle.file_disk.proofs.Owed.{Reads, reading_noted}
use Rattle.file_disk.proofs.file_disk.FileDiskDisk.length.Goals as goal

pub returns-then-note-clause-told : goal.returns-then-note-clause-told
returns-then-note-clause-told g c =
    let is : c.note.new.self ≡ noted (counted c.args.self.now) c.args.file c.in-Some.length = c.if-note.ensures.value ∙ ap (λ (d : Noted). noted d c.args.file c.in-Some.length) (c.length_of.ensures.value ∙ c.count.ensures) in
    let told = subst (λ (d : Noted). OnTold (told_length d c.args.file) (λ before. c.in-Some.length ≡ before)) c.count.ensures c.in-Some.ensures.told in
    (ap (λ (d : Noted). told_length d c.args.file) is ∙ noted_here (counted c.args.self.now) c.args.file c.in-Some.length, told)

pub returns-then-note-clause-call : goal.returns-then-note-clause-call
returns-then-note-clause-call g c =
    let is : c.note.new.self ≡ noted (counted c.args.self.now) c.args.file c.in-Some.length = c.if-note.ensures.value ∙ ap (λ (d : Noted). noted d c.args.file c.in-Some.length) (c.length_of.ensures.value ∙ c.count.ensures) in
    let told = subst (λ (d : Noted). OnTold (told_length d c.args.file) (λ before. c.in-Some.length ≡ before)) c.count.ensures c.in-Some.ensures.told in
    subst (λ (d : Noted). Reads c.args.self.now d (Ok c.in-Some.length)) (sym is) (reading_noted c.args.self.now c.args.file c.in-Some.length told)

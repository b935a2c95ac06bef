use Rattle.std.proofs.Common.{◌∙◌, refl, sym, ap, subst, IsSome}
use Rattle.file_disk.specs.Noted.{Noted, told_length, noted}
use Rattle.file_disk.proofs.Lengths.{disk_of, told_entry, put_notes}
use Rattle.file_disk.proofs.file_disk.FileDisk.note.Goals as goal
use Rattle.file_disk.proofs.file_disk.FileDisk.note.Goals.{in-Ok, in-Err}

pub returns-clause-value : goal.returns-clause-value
returns-clause-value g c = elim c.match-insert.branch [
  | in-Ok w ↦ rw w.result-is (put_notes c.self.inside.lengths.entries c.insert.new.self.entries c.self.inside.faults c.self.inside.asked c.self.inside.changes c.args.file c.args.length w.in-Ok.ensures.updates.0
      ∙ ap (λ (d : Noted). noted d c.args.file c.args.length) c.self.view_is)
  | in-Err w ↦ rw w.result-is (ap (λ es. disk_of es c.self.inside.faults c.self.inside.asked c.self.inside.changes) w.in-Err.ensures.err ∙ c.self.view_is)
]

pub returns-clause-known : goal.returns-clause-known
returns-clause-known g c = elim c.match-insert.branch [
  | in-Ok w ↦ λ some. rw w.result-is refl
  | in-Err w ↦ λ some.
      let none = ap (λ (d : Noted). told_length d c.args.file) (sym c.self.view_is) ∙ told_entry c.self.inside.lengths.entries c.self.inside.faults c.self.inside.asked c.self.inside.changes c.args.file ∙ w.in-Err.ensures.absent in
      let missing = subst IsSome none some in cc
]

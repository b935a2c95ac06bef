use Rattle.std.proofs.Common.{◌∙◌, sym, ap, refl, length}
use Rattle.std.specs.FinSet as set
use Rattle.std.specs.List.{slice_get}
use Rattle.std.proofs.lemmas.Option.{slice_get_past, slice_get_read}
use Rattle.simulation.proofs.MessageMarks.{is_marked, contains_marked}
use Rattle.simulation.proofs.places.Places.contains.Goals as goal

pub returns-in-None : goal.returns-in-None
returns-in-None c =
    let marks = c.self.inside.marks.items in
    let past = slice_get_past c.deref.result.now c.args.message c.in-None.ensures.lookup.3 in
    sym (contains_marked marks c.args.message ∙ ap is_marked (ap (λ l. slice_get l c.args.message) (sym c.deref.ensures.value) ∙ past)) ∙ ap (λ s. set.contains s c.args.message) c.self.view_is

pub returns-in-Some : goal.returns-in-Some
returns-in-Some c =
    let marks = c.self.inside.marks.items in
    let at = c.in-Some.ensures.lookup in
    let there = slice_get_read c.deref.result.now (length c.deref.result.now) c.args.message c.in-Some.marked.now refl at.3.0 at.1 in
    sym (contains_marked marks c.args.message ∙ ap is_marked (ap (λ l. slice_get l c.args.message) (sym c.deref.ensures.value) ∙ there)) ∙ ap (λ s. set.contains s c.args.message) c.self.view_is

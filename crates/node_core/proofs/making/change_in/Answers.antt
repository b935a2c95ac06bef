use Rattle.std.proofs.Common.{◌≡◌, sym, ◌∙◌, ap, subst, None, List, length, ◌≤◌}
use Rattle.std.specs.Map.{lookup}
use Rattle.std.specs.BTreeMap.{is_at}
use Rattle.std.specs.FinMap.{from_entries}
use Rattle.partition.specs.declared.edits.RowEdit.{RowEdit}
use Rattle.node_core.specs.Nodes.{part_cmp}
use Rattle.node_core.specs.Edits.{parts_noted}
use Rattle.node_core.proofs.Parts.{new_there, new_absent, part_unchanged, noted_there, noted_new, taken_back, none_in_part, on_ok, on_err}
use Rattle.node_core.proofs.making.change_in.Goals as goal

pub note-requires : goal.note-requires
note-requires g c = record { newer = new_there c.args.parts.now.entries (c.args.change.dir, c.args.change.part) c.in-Some.part.now c.in-Some.ensures.value c.args.floor c.args.change.session.client c.args.change.session.seq c.requires.newer }

pub begun-requires : goal.begun-requires
begun-requires g c = record { newer = new_absent c.args.parts.now.entries (c.args.change.dir, c.args.change.part) c.in_default.ensures.value c.args.floor c.args.change.session.client c.args.change.session.seq c.requires.newer }

pub returns-in-Some-clause-parts : goal.returns-in-Some-clause-parts
returns-in-Some-clause-parts g c =
    on_ok c.note.result _ _ (λ same. noted_there c.args.parts.now.entries (c.args.change.dir, c.args.change.part) c.in-Some.part.now c.in-Some.ensures.value (c.get_mut.follows.lender c.note.new.self).entries c.args.floor c.args.change.session c.args.change.count c.note.new.self same
    (λ some. ((c.get_mut.follows.holds c.note.new.self).3 some).0)) c.note.ensures.part

pub returns-in-Some-clause-same : goal.returns-in-Some-clause-same
returns-in-Some-clause-same g c =
    on_err c.note.result _ _ (λ same. part_unchanged c.args.parts.now.entries (c.args.change.dir, c.args.change.part) c.in-Some.part.now c.in-Some.ensures.value (c.get_mut.follows.lender c.note.new.self).entries c.note.new.self same
    (λ some. ((c.get_mut.follows.holds c.note.new.self).3 some).0)) c.note.ensures.err

pub returns-in-Some-clause-unwritten : goal.returns-in-Some-clause-unwritten
returns-in-Some-clause-unwritten g c =
    on_err c.note.result _ _ (none_in_part (g.R.Rows.contents c.args.rows.now) (g.R.Rows.contents c.note.new.rows) c.edits-edits.result.now (subst (λ (es : List RowEdit). length es ≤ 1) (sym c.edits-edits.ensures) c.requires.few)) c.note.ensures.in_part

pub returns-in-Ok-clause-parts : goal.returns-in-Ok-clause-parts
returns-in-Ok-clause-parts g c =
    let same = c.get_mut.follows.holds-at-none in
    noted_new c.get_mut.follows.lender-at-none.entries (c.args.change.dir, c.args.change.part) (c.in_default.ensures.value ∙ sym (ap (λ m. lookup (is_at (part_cmp (c.args.change.dir, c.args.change.part))) m.entries) same))
    c.insert.new.self.entries c.args.floor c.args.change.session c.args.change.count c.in_ok-part.part c.in_ok-part.ensures c.in_ok-insert.ensures.updates.0
    ∙ ap (λ m. parts_noted (from_entries m.entries) c.args.floor (c.args.change.dir, c.args.change.part) c.args.change.session c.args.change.count) same

pub returns-clause-same : goal.returns-clause-same
returns-clause-same g c =
    let same = c.get_mut.follows.holds-at-none in
    taken_back c.get_mut.follows.lender-at-none.entries (c.args.change.dir, c.args.change.part) (c.in_default.ensures.value ∙ sym (ap (λ m. lookup (is_at (part_cmp (c.args.change.dir, c.args.change.part))) m.entries) same))
    c.insert.new.self.entries c.remove.new.self.entries c.in_ok-part.part c.in_ok-insert.ensures.updates.0 c.remove.ensures.updates.0
    ∙ ap (λ m. from_entries {R = part_cmp} m.entries) same

pub returns-clause-unwritten : goal.returns-clause-unwritten
returns-clause-unwritten g c =
    none_in_part (g.R.Rows.contents c.args.rows.now) (g.R.Rows.contents c.write_edits.new.rows) c.edits-edits.result.now (subst (λ (es : List RowEdit). length es ≤ 1) (sym c.edits-edits.ensures) c.requires.few) c.in-Err.ensures.err

use Rattle.std.proofs.Common.{◌∙◌, sym, ap, subst, take, ◌-◌, ◌++◌, drop, length, length-drop, arith}
use Rattle.std.proofs.lemmas.List.{length-take}
use Rattle.mds_cli.specs.Lines.{IsPart}
use Rattle.mds_cli.proofs.LineTaken.{part_within, ends_line, passes_limit, goes_on}
use Rattle.mds_cli.proofs.reader.Reader.take_part.Goals as goal

pub invariant_of-self : goal.invariant_of-self
invariant_of-self c =
    let i = c.self.inside in (
      part_within i.chunk.items i.from i.to c.min.result c.in-Some.part.now c.in-Some.field-0-1.now c.args.line.now.items c.self.invariant.0 c.self.invariant.1
          (omega (arith, c.min.ensures)) (ap (λ l. take c.min.result (take (i.to - i.from) (drop i.from l))) (sym c.deref.ensures.value) ∙ c.in-Some.ensures.1),
      c.self.invariant.1,
      c.self.invariant.2,
    )

pub returns-in-Some-clause-ok : goal.returns-in-Some-clause-ok
returns-in-Some-clause-ok c =
    let i = c.self.inside in
    ends_line i.chunk.items i.from i.to c.min.result c.in-Some.part.now c.in-Some.field-0-1.now c.args.line.now.items c.self.invariant.0 c.self.invariant.1
    (omega (arith, c.min.ensures)) (ap (λ l. take c.min.result (take (i.to - i.from) (drop i.from l))) (sym c.deref.ensures.value) ∙ c.in-Some.ensures.1)
    c.args.self.now c.extend_from_slice.new.self.items c.self.view_is c.in-Some.ensures.0 (omega (arith, c.min.ensures, c.len.ensures, c.requires)) c.in_ok-extend_from_slice.ensures.items

pub returns-then-seen-room-clause-ok : goal.returns-then-seen-room-clause-ok
returns-then-seen-room-clause-ok c =
    let i = c.self.inside in
    passes_limit i.chunk.items i.from i.to c.min.result c.args.self.now c.args.line.now.items c.self.invariant.0 c.self.invariant.1 c.self.view_is
    (subst (λ l. IsPart (take c.min.result (take (i.to - i.from) (drop i.from l)))) c.deref.ensures.value c.in_default.ensures)
    (omega (arith, c.min.ensures, c.len.ensures, c.requires, c.if-seen-room.true, length-take c.min.result (take (i.to - i.from) (drop i.from c.deref.result.now)), length-take (i.to - i.from) (drop i.from c.deref.result.now), length-drop i.from c.deref.result.now, ap length c.deref.ensures.value, c.self.invariant)) (omega (arith, c.min.ensures))

pub returns-clause-ok : goal.returns-clause-ok
returns-clause-ok c =
    let i = c.self.inside in
    goes_on i.chunk.items i.from i.to c.min.result c.args.self.now c.args.line.now.items c.self.invariant.0 c.self.invariant.1 c.self.view_is
    (subst (λ l. IsPart (take c.min.result (take (i.to - i.from) (drop i.from l)))) c.deref.ensures.value c.in_default.ensures)
    c.extend_from_slice-2.new.self.items (omega (arith, c.min.ensures, c.len.ensures, c.requires, c.if-seen-room.false, length-take c.min.result (take (i.to - i.from) (drop i.from c.deref.result.now)), length-take (i.to - i.from) (drop i.from c.deref.result.now), length-drop i.from c.deref.result.now, ap length c.deref.ensures.value, c.self.invariant)) (omega (arith, c.min.ensures, c.len.ensures, c.requires, c.if-seen-room.false, length-take c.min.result (take (i.to - i.from) (drop i.from c.deref.result.now)), length-take (i.to - i.from) (drop i.from c.deref.result.now), length-drop i.from c.deref.result.now, ap length c.deref.ensures.value, c.self.invariant))
    (c.in_ok-extend_from_slice-2.ensures.items ∙ ap (λ l. c.args.line.now.items ++ take c.min.result (take (i.to - i.from) (drop i.from l))) c.deref.ensures.value)

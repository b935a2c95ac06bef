use Rattle.std.proofs.Common.{◌∙◌, sym, refl, length, ◌≡◌, arith}
use Rattle.std.proofs.lemmas.Bool.{eqb-true, eqb-false}
use Rattle.mds_cli.proofs.LineRead.{is_nil, too_long, stops_writing, reads_on, reads_last, reads_none, stops_reading}
use Rattle.mds_cli.proofs.line.next_line.Goals as goal

pub returns-in-TooLong-clause-err : goal.returns-in-TooLong-clause-err
returns-in-TooLong-clause-err g c = too_long _ c.parts.reader (g.S.Source.left c.parts.input) (g.K.Sink.taken c.parts.output) c.parts.pending.items (g.S.Source.faults c.parts.input) (g.K.Sink.faults c.parts.output) c.parts.line.items c.parts.invariant c.take_part.new.self (rw c.in-TooLong.is at c.in_ok-take_part.ensures.ok)

pub returns-in-Err-clause-err : goal.returns-in-Err-clause-err
returns-in-Err-clause-err g c = stops_writing _ c.parts.reader (g.S.Source.left c.parts.input) (g.K.Sink.taken c.parts.output) c.parts.pending.items (g.S.Source.faults c.parts.input) (g.K.Sink.faults c.parts.output) c.parts.line.items c.parts.invariant c.take_part.new.self c.take_part.new.line.items (rw c.in-Open.is at c.in_ok-take_part.ensures.ok) (g.K.Sink.taken c.flush.new.output) c.flush.new.pending.items (g.K.Sink.faults c.flush.new.output) _ _ _ refl refl c.in-Err.ensures.front c.in-Err.ensures.cause.failed

pub parts-preserved : goal.parts-preserved
parts-preserved g c = reads_on _ c.parts.reader (g.S.Source.left c.parts.input) (g.K.Sink.taken c.parts.output) c.parts.pending.items (g.S.Source.faults c.parts.input) (g.K.Sink.faults c.parts.output) c.parts.line.items c.parts.invariant c.take_part.new.self c.take_part.new.line.items (rw c.in-Open.is at c.in_ok-take_part.ensures.ok) (g.K.Sink.taken c.flush.new.output) c.flush.new.pending.items (g.K.Sink.faults c.flush.new.output) c.in-Ok.ensures.whole c.in-Ok.ensures.none c.in-Ok.ensures.cause.kept c.fill.new.self (g.S.Source.left c.fill.new.input) (g.S.Source.faults c.fill.new.input) c.in-Ok-true.ensures.read c.in-Ok-true.ensures.cause.kept

pub returns-in-Ok-false-clause-ok : goal.returns-in-Ok-false-clause-ok
returns-in-Ok-false-clause-ok g c = reads_none _ c.parts.reader (g.S.Source.left c.parts.input) (g.K.Sink.taken c.parts.output) c.parts.pending.items (g.S.Source.faults c.parts.input) (g.K.Sink.faults c.parts.output) c.parts.line.items c.parts.invariant c.take_part.new.self c.take_part.new.line.items (rw c.in-Open.is at c.in_ok-take_part.ensures.ok) (g.K.Sink.taken c.flush.new.output) c.flush.new.pending.items (g.K.Sink.faults c.flush.new.output) c.in-Ok.ensures.whole c.in-Ok.ensures.none c.in-Ok.ensures.cause.kept c.fill.new.self (g.S.Source.left c.fill.new.input) (g.S.Source.faults c.fill.new.input) c.in-Ok-false.ensures.read c.in-Ok-false.ensures.cause.kept (c.in-Ok-false.ensures.end c.in-Ok-false.field-0-test).0 (c.in-Ok-false.ensures.end c.in-Ok-false.field-0-test).1
    (is_nil c.take_part.new.line.items (let e : length c.take_part.new.line.items ≡ 0 = omega (arith, eqb-true _ 0 (sym c.is_empty.ensures ∙ c.if-is_empty.true)) in e))

pub returns-in-Ok-false-2-clause-ok : goal.returns-in-Ok-false-2-clause-ok
returns-in-Ok-false-2-clause-ok g c = reads_last _ c.parts.reader (g.S.Source.left c.parts.input) (g.K.Sink.taken c.parts.output) c.parts.pending.items (g.S.Source.faults c.parts.input) (g.K.Sink.faults c.parts.output) c.parts.line.items c.parts.invariant c.take_part.new.self c.take_part.new.line.items (rw c.in-Open.is at c.in_ok-take_part.ensures.ok) (g.K.Sink.taken c.flush.new.output) c.flush.new.pending.items (g.K.Sink.faults c.flush.new.output) c.in-Ok.ensures.whole c.in-Ok.ensures.none c.in-Ok.ensures.cause.kept c.fill.new.self (g.S.Source.left c.fill.new.input) (g.S.Source.faults c.fill.new.input) c.in-Ok-false.ensures.read c.in-Ok-false.ensures.cause.kept (c.in-Ok-false.ensures.end c.in-Ok-false.field-0-test).0 (c.in-Ok-false.ensures.end c.in-Ok-false.field-0-test).1
    (omega (arith, eqb-false _ 0 (sym c.is_empty.ensures ∙ c.if-is_empty.false)))

pub returns-in-Err-fill-clause-err : goal.returns-in-Err-fill-clause-err
returns-in-Err-fill-clause-err g c = stops_reading _ c.parts.reader (g.S.Source.left c.parts.input) (g.K.Sink.taken c.parts.output) c.parts.pending.items (g.S.Source.faults c.parts.input) (g.K.Sink.faults c.parts.output) c.parts.line.items c.parts.invariant c.take_part.new.self c.take_part.new.line.items (rw c.in-Open.is at c.in_ok-take_part.ensures.ok) (g.K.Sink.taken c.flush.new.output) c.flush.new.pending.items (g.K.Sink.faults c.flush.new.output) c.in-Ok.ensures.whole c.in-Ok.ensures.none c.in-Ok.ensures.cause.kept c.fill.new.self (g.S.Source.left c.fill.new.input) (g.S.Source.faults c.fill.new.input) c.in-Err-fill.ensures.read c.in-Err-fill.ensures.cause.failed c.in-Err-fill.ensures.err

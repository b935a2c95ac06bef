use Rattle.std.proofs.Common.{◌∙◌, sym, ap, subst, refl, arith, Err}
use Rattle.mds_cli.specs.Lines.{without_return}
use Rattle.mds_cli.specs.Turn.{StopsCall}
use Rattle.mds_cli.proofs.LineHalted.{none_bad, long_bad, says_line, refused_line, refused_bad_line, refused_full, refused_memory, carries_line, stops_halted}
use Rattle.mds_cli.proofs.SoFar.{pays_line}
use Rattle.mds_cli.proofs.session.Session.carry_out.Goals as goal

pub returns-then-bytes-gt-LINE_LIMIT-clause-err : goal.returns-then-bytes-gt-LINE_LIMIT-clause-err
returns-then-bytes-gt-LINE_LIMIT-clause-err g c =
    refused_bad_line g.D.Disk.faults g.D.Disk.lasts g.D.Disk.seen g.D.Disk.images c.args.self.now.interpreter.pending.items c.args.self.now.line.items c.args.number c.args.self.now.interpreter.simulation (λ run shows. long_bad c.args.self.now.interpreter.simulation.setup c.args.self.now.interpreter.simulation.setup c.args.self.now.line.items c.without_return-bytes.result.now (c.without_return-bytes.ensures ∙ ap without_return c.deref.ensures.value) refl run (omega (arith, c.if-bytes-gt-LINE_LIMIT.true)))

pub returns-in-Err-NotALine-clause-err : goal.returns-in-Err-NotALine-clause-err
returns-in-Err-NotALine-clause-err g c =
    refused_bad_line g.D.Disk.faults g.D.Disk.lasts g.D.Disk.seen g.D.Disk.images c.args.self.now.interpreter.pending.items c.args.self.now.line.items c.args.number c.args.self.now.interpreter.simulation (λ run shows. none_bad c.args.self.now.interpreter.simulation.setup c.setup.result c.args.self.now.line.items c.without_return-bytes.result.now (c.without_return-bytes.ensures ∙ ap without_return c.deref.ensures.value) c.setup.ensures run (c.in-Err-NotALine.ensures.not_a_line (ap Err c.in-Err-NotALine.field-0-is)))

pub returns-in-Err-OutOfMemory-clause-err : goal.returns-in-Err-OutOfMemory-clause-err
returns-in-Err-OutOfMemory-clause-err g c = refused_memory g.D.Disk.faults g.D.Disk.lasts g.D.Disk.seen g.D.Disk.images c.args.self.now.interpreter.pending.items c.args.self.now.line.items c.args.number c.args.self.now.interpreter.simulation

pub returns-then-not-is_allowed-clause-err : goal.returns-then-not-is_allowed-clause-err
returns-then-not-is_allowed-clause-err g c =
    refused_bad_line g.D.Disk.faults g.D.Disk.lasts g.D.Disk.seen g.D.Disk.images c.args.self.now.interpreter.pending.items c.args.self.now.line.items c.args.number c.args.self.now.interpreter.simulation (λ run shows. refused_line c.args.self.now.interpreter.simulation.setup run c.args.self.now.line.items c.in-Ok.line c.is_allowed.result (says_line c.args.self.now.interpreter.simulation.setup c.setup.result c.args.self.now.line.items c.without_return-bytes.result.now (c.without_return-bytes.ensures ∙ ap without_return c.deref.ensures.value) c.setup.ensures c.in-Ok.line (omega (arith, c.if-bytes-gt-LINE_LIMIT.false)) c.in-Ok.ensures.found) (c.is_allowed.ensures.allowed run shows) c.if-not-is_allowed.true)

pub returns-then-number-gt-LINE_COUNT-clause-err : goal.returns-then-number-gt-LINE_COUNT-clause-err
returns-then-number-gt-LINE_COUNT-clause-err g c =
    refused_full g.D.Disk.faults g.D.Disk.lasts g.D.Disk.seen g.D.Disk.images c.args.self.now.interpreter.pending.items c.args.self.now.line.items c.args.number c.args.self.now.interpreter.simulation (omega (arith, c.if-number-gt-LINE_COUNT.true)) (λ run shows. (c.in-Ok.line, (says_line c.args.self.now.interpreter.simulation.setup c.setup.result c.args.self.now.line.items c.without_return-bytes.result.now (c.without_return-bytes.ensures ∙ ap without_return c.deref.ensures.value) c.setup.ensures c.in-Ok.line (omega (arith, c.if-bytes-gt-LINE_LIMIT.false)) c.in-Ok.ensures.found), sym (c.is_allowed.ensures.allowed run shows) ∙ c.if-not-is_allowed.false))

pub returns-in-Err-clause-err : goal.returns-in-Err-clause-err
returns-in-Err-clause-err g c =
    subst (λ s. StopsCall g.D.Disk.faults g.D.Disk.lasts g.D.Disk.seen g.D.Disk.images s c.args.self.now.interpreter.simulation c.carry_out.new.self.simulation c.args.self.now.interpreter.pending.items c.carry_out.new.self.pending.items c.args.self.now.line.items c.args.number) (sym c.status_of_halt.ensures)
    (stops_halted g.D.Disk.faults g.D.Disk.lasts g.D.Disk.seen g.D.Disk.images c.args.self.now.interpreter.pending.items c.args.self.now.line.items c.args.number c.carry_out.new.self.pending.items c.args.self.now.interpreter.simulation c.carry_out.new.self.simulation c.in-Ok.line (says_line c.args.self.now.interpreter.simulation.setup c.setup.result c.args.self.now.line.items c.without_return-bytes.result.now (c.without_return-bytes.ensures ∙ ap without_return c.deref.ensures.value) c.setup.ensures c.in-Ok.line (omega (arith, c.if-bytes-gt-LINE_LIMIT.false)) c.in-Ok.ensures.found) (λ run shows. sym (c.is_allowed.ensures.allowed run shows) ∙ c.if-not-is_allowed.false) (omega (arith, c.if-number-gt-LINE_COUNT.false)) c.in-Err.ensures.setup c.in-Err.ensures.paid c.in-Err.halt c.in-Err.ensures.err)

pub returns-in-Ok-carry_out-clause-ok : goal.returns-in-Ok-carry_out-clause-ok
returns-in-Ok-carry_out-clause-ok g c = carries_line g.D.Disk.faults g.D.Disk.lasts g.D.Disk.seen g.D.Disk.images c.args.self.now.interpreter.pending.items c.args.self.now.line.items c.args.number c.carry_out.new.self.pending.items c.args.self.now.interpreter.simulation c.carry_out.new.self.simulation c.in-Ok.line (says_line c.args.self.now.interpreter.simulation.setup c.setup.result c.args.self.now.line.items c.without_return-bytes.result.now (c.without_return-bytes.ensures ∙ ap without_return c.deref.ensures.value) c.setup.ensures c.in-Ok.line (omega (arith, c.if-bytes-gt-LINE_LIMIT.false)) c.in-Ok.ensures.found) (λ run shows. sym (c.is_allowed.ensures.allowed run shows) ∙ c.if-not-is_allowed.false) c.in-Ok-carry_out.ensures.ok

pub returns-in-Ok-carry_out-clause-paid : goal.returns-in-Ok-carry_out-clause-paid
returns-in-Ok-carry_out-clause-paid g c = pays_line g.D.Disk.faults g.D.Disk.lasts c.args.self.now.interpreter.simulation.setup c.args.self.now.line.items c.in-Ok.line c.args.self.now.interpreter.simulation.stores c.carry_out.new.self.simulation.stores c.args.self.now.interpreter.pending.items c.carry_out.new.self.pending.items (says_line c.args.self.now.interpreter.simulation.setup c.setup.result c.args.self.now.line.items c.without_return-bytes.result.now (c.without_return-bytes.ensures ∙ ap without_return c.deref.ensures.value) c.setup.ensures c.in-Ok.line (omega (arith, c.if-bytes-gt-LINE_LIMIT.false)) c.in-Ok.ensures.found) c.in-Ok-carry_out.ensures.paid

pub returns-in-Ok-carry_out-clause-arms : goal.returns-in-Ok-carry_out-clause-arms
returns-in-Ok-carry_out-clause-arms g c = record { line = c.in-Ok.line; says = (says_line c.args.self.now.interpreter.simulation.setup c.setup.result c.args.self.now.line.items c.without_return-bytes.result.now (c.without_return-bytes.ensures ∙ ap without_return c.deref.ensures.value) c.setup.ensures c.in-Ok.line (omega (arith, c.if-bytes-gt-LINE_LIMIT.false)) c.in-Ok.ensures.found); armed = c.in-Ok-carry_out.ensures.arms }

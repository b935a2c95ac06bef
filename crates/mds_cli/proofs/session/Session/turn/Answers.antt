use Rattle.std.proofs.Common.{◌∙◌, sym, subst}
use Rattle.mds_cli.specs.SoFar.{HasStopped}
use Rattle.mds_cli.specs.Streams.{moment}
use Rattle.node_store.proofs.Restarting.{err_at}
use Rattle.mds_cli.proofs.LineTurn.{takes_none, takes_line, stops_line, stops_call}
use Rattle.mds_cli.proofs.session.Session.turn.Goals as goal

pub returns-in-Err-clause-err : goal.returns-in-Err-clause-err
returns-in-Err-clause-err g c =
    let at = moment g.S.Source.left g.S.Source.faults g.K.Sink.taken g.K.Sink.faults in
    subst (λ s. HasStopped g.D.Disk.faults g.D.Disk.lasts g.D.Disk.seen g.D.Disk.images s c.args.number (at c.args.input.now c.args.output.now c.args.self.now.reader c.args.self.now.interpreter.pending.items) (at c.next_line.new.input c.next_line.new.output c.next_line.new.reader c.next_line.new.pending.items) c.args.self.now.interpreter.simulation c.args.self.now.interpreter.simulation) (sym c.status_of.ensures)
    (stops_line g.D.Disk.faults g.D.Disk.lasts g.D.Disk.seen g.D.Disk.images c.in-Err.stop c.args.number (at c.args.input.now c.args.output.now c.args.self.now.reader c.args.self.now.interpreter.pending.items) (at c.next_line.new.input c.next_line.new.output c.next_line.new.reader c.next_line.new.pending.items) c.args.self.now.interpreter.simulation c.in-Err.ensures.err)

pub returns-then-not-is_line-clause-ok : goal.returns-then-not-is_line-clause-ok
returns-then-not-is_line-clause-ok g c =
    let at = moment g.S.Source.left g.S.Source.faults g.K.Sink.taken g.K.Sink.faults in
    takes_none g.D.Disk.faults g.D.Disk.lasts g.D.Disk.seen g.D.Disk.images c.in-Ok.found c.args.number (at c.args.input.now c.args.output.now c.args.self.now.reader c.args.self.now.interpreter.pending.items) (at c.next_line.new.input c.next_line.new.output c.next_line.new.reader c.next_line.new.pending.items) c.next_line.new.line.items c.args.self.now.interpreter.simulation (sym c.is_line.ensures ∙ c.if-not-is_line.true) c.in-Ok.ensures.ok

pub returns-in_err-carry_out-clause-err : goal.returns-in_err-carry_out-clause-err
returns-in_err-carry_out-clause-err g c =
    let at = moment g.S.Source.left g.S.Source.faults g.K.Sink.taken g.K.Sink.faults in
    err_at _ c.in_err-carry_out.field-0.0 _ c.from_residual.ensures.1
    (stops_call g.D.Disk.faults g.D.Disk.lasts g.D.Disk.seen g.D.Disk.images (at c.args.input.now c.args.output.now c.args.self.now.reader c.args.self.now.interpreter.pending.items) c.next_line.new.reader c.carry_out.new.self.reader (g.S.Source.left c.next_line.new.input) (g.K.Sink.taken c.next_line.new.output) c.next_line.new.pending.items c.carry_out.new.self.interpreter.pending.items (g.S.Source.faults c.next_line.new.input) (g.K.Sink.faults c.next_line.new.output) c.in_err-carry_out.ensures.reader c.in-Ok.found c.next_line.new.line.items (sym c.is_line.ensures ∙ c.if-not-is_line.false) c.in-Ok.ensures.ok c.args.number c.args.self.now.interpreter.simulation c.carry_out.new.self.interpreter.simulation c.in_err-carry_out.ensures.setup c.in_err-carry_out.field-0.0 c.in_err-carry_out.ensures.err)

pub returns-clause-ok : goal.returns-clause-ok
returns-clause-ok g c =
    let at = moment g.S.Source.left g.S.Source.faults g.K.Sink.taken g.K.Sink.faults in
    takes_line g.D.Disk.faults g.D.Disk.lasts g.D.Disk.seen g.D.Disk.images (at c.args.input.now c.args.output.now c.args.self.now.reader c.args.self.now.interpreter.pending.items) c.next_line.new.reader c.carry_out.new.self.reader (g.S.Source.left c.next_line.new.input) (g.K.Sink.taken c.next_line.new.output) c.next_line.new.pending.items c.carry_out.new.self.interpreter.pending.items (g.S.Source.faults c.next_line.new.input) (g.K.Sink.faults c.next_line.new.output) c.in_ok-carry_out.ensures.reader c.in-Ok.found c.next_line.new.line.items (sym c.is_line.ensures ∙ c.if-not-is_line.false) c.in-Ok.ensures.ok c.args.number c.args.self.now.interpreter.simulation c.carry_out.new.self.interpreter.simulation c.in_ok-carry_out.ensures.setup c.in_ok-carry_out.ensures.within c.in_ok-carry_out.ensures.ok c.in_ok-carry_out.ensures.paid c.in_ok-carry_out.ensures.arms

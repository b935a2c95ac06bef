use Rattle.std.proofs.Common.{◌∙◌, sym, refl, ◌+◌, arith}
use Rattle.mds_cli.specs.Streams.{moment}
use Rattle.node_store.proofs.Restarting.{err_at}
use Rattle.mds_cli.proofs.LinesCarried.{carrying_none, carrying_more, carrying_stops, carries_all, within_feed}
use Rattle.mds_cli.proofs.session.Session.carry.Goals as goal

pub lines-init : goal.lines-init
lines-init g c =
    let at = moment g.S.Source.left g.S.Source.faults g.K.Sink.taken g.K.Sink.faults in
    carrying_none g.D.Disk.faults g.D.Disk.lasts g.D.Disk.seen g.D.Disk.images (at c.args.input.now c.args.output.now c.args.self.now.reader c.args.self.now.interpreter.pending.items) c.args.self.now.interpreter.simulation

pub returns-in_err-found-clause-err : goal.returns-in_err-found-clause-err
returns-in_err-found-clause-err g c =
    let at = moment g.S.Source.left g.S.Source.faults g.K.Sink.taken g.K.Sink.faults in
    err_at _ c.in_err-found.field-0.0 _ c.from_residual.ensures.1
    (carrying_stops g.D.Disk.faults g.D.Disk.lasts g.D.Disk.seen g.D.Disk.images (at c.args.input.now c.args.output.now c.args.self.now.reader c.args.self.now.interpreter.pending.items) (at c.lines.input c.lines.output c.lines.self.reader c.lines.self.interpreter.pending.items) (at c.turn.new.input c.turn.new.output c.turn.new.self.reader c.turn.new.self.interpreter.pending.items) c.args.self.now.interpreter.simulation c.lines.self.interpreter.simulation c.turn.new.self.interpreter.simulation c.lines.number (c.lines.number + 1) refl c.lines.invariant c.in_err-found.field-0.0 c.in_err-found.ensures.err)

pub lines-preserved : goal.lines-preserved
lines-preserved g c =
    let at = moment g.S.Source.left g.S.Source.faults g.K.Sink.taken g.K.Sink.faults in
    carrying_more g.D.Disk.faults g.D.Disk.lasts g.D.Disk.seen g.D.Disk.images (at c.args.input.now c.args.output.now c.args.self.now.reader c.args.self.now.interpreter.pending.items) (at c.lines.input c.lines.output c.lines.self.reader c.lines.self.interpreter.pending.items) (at c.turn.new.input c.turn.new.output c.turn.new.self.reader c.turn.new.self.interpreter.pending.items) c.args.self.now.interpreter.simulation c.lines.self.interpreter.simulation c.turn.new.self.interpreter.simulation c.lines.number (c.lines.number + 1) refl c.lines.invariant c.in_ok-found.found (sym c.has_feed.ensures ∙ c.if-not-has_feed.false) c.in_ok-found.ensures.ok

pub lines-smaller : goal.lines-smaller
lines-smaller g c =
    let at = moment g.S.Source.left g.S.Source.faults g.K.Sink.taken g.K.Sink.faults in
    let within = within_feed g.D.Disk.faults g.D.Disk.lasts g.D.Disk.seen g.D.Disk.images c.in_ok-found.found (c.lines.number + 1) (at c.lines.input c.lines.output c.lines.self.reader c.lines.self.interpreter.pending.items) (at c.turn.new.input c.turn.new.output c.turn.new.self.reader c.turn.new.self.interpreter.pending.items) c.lines.self.interpreter.simulation c.turn.new.self.interpreter.simulation (sym c.has_feed.ensures ∙ c.if-not-has_feed.false) c.in_ok-found.ensures.ok in
    omega (arith, within)

pub returns-then-not-has_feed-clause-ok : goal.returns-then-not-has_feed-clause-ok
returns-then-not-has_feed-clause-ok g c =
    let at = moment g.S.Source.left g.S.Source.faults g.K.Sink.taken g.K.Sink.faults in
    carries_all g.D.Disk.faults g.D.Disk.lasts g.D.Disk.seen g.D.Disk.images (at c.args.input.now c.args.output.now c.args.self.now.reader c.args.self.now.interpreter.pending.items) (at c.lines.input c.lines.output c.lines.self.reader c.lines.self.interpreter.pending.items) (at c.turn.new.input c.turn.new.output c.turn.new.self.reader c.turn.new.self.interpreter.pending.items) c.args.self.now.interpreter.simulation c.lines.self.interpreter.simulation c.turn.new.self.interpreter.simulation c.lines.number (c.lines.number + 1) refl c.lines.invariant c.in_ok-found.found (sym c.has_feed.ensures ∙ c.if-not-has_feed.true) c.in_ok-found.ensures.ok

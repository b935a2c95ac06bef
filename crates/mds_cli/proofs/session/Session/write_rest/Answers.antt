use Rattle.std.proofs.Common.{subst, ◌++◌, codes}
use Rattle.std.specs.Io.KnownBytes.{Appends}
use Rattle.mds_cli.proofs.Known.{front_then, front_all, appends_both}
use Rattle.mds_cli.proofs.session.Session.write_rest.Goals as goal

pub returns-in_err-write_whole-clause-front : goal.returns-in_err-write_whole-clause-front
returns-in_err-write_whole-clause-front g c = front_then _ (g.K.Sink.taken c.write_both.new.output) _ (c.args.self.now.interpreter.pending.items ++ c.args.effects.now) (codes "end\n") (subst (λ l. Appends (g.K.Sink.taken c.args.output.now) (g.K.Sink.taken c.write_both.new.output) l) (λ i. c.deref.ensures.value i ++ c.args.effects.now) c.in_ok-write_both.ensures.whole) c.in_err-write_whole.ensures.front

pub returns-clause-front : goal.returns-clause-front
returns-clause-front g c = front_all _ (g.K.Sink.taken c.write_whole.new.out) _ (c.args.self.now.interpreter.pending.items ++ c.args.effects.now ++ codes "end\n") (appends_both _ (g.K.Sink.taken c.write_both.new.output) _ (c.args.self.now.interpreter.pending.items ++ c.args.effects.now) (codes "end\n") (subst (λ l. Appends (g.K.Sink.taken c.args.output.now) (g.K.Sink.taken c.write_both.new.output) l) (λ i. c.deref.ensures.value i ++ c.args.effects.now) c.in_ok-write_both.ensures.whole) c.in_ok-write_whole.ensures.whole) c.finish.ensures.unchanged

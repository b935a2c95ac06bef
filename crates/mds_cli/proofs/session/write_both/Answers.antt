use Rattle.mds_cli.proofs.Known.{front_then}
use Rattle.mds_cli.proofs.session.write_both.Goals as goal

pub returns-clause-front : goal.returns-clause-front
returns-clause-front g c = front_then _ (g.K.Sink.taken c.write_whole.new.out) _ c.args.first.now c.args.second.now c.in_ok-write_whole.ensures.whole c.write_whole-2.ensures.front

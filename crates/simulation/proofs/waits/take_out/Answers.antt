use Rattle.simulation.proofs.KeySets.{waiting_total, exact_waiting, one_out}
use Rattle.simulation.proofs.waits.take_out.Goals as goal

pub returns : goal.returns
returns c = one_out waiting_total exact_waiting c.args.others.now.keys c.remove.new.self.keys (c.args.server, c.args.message) c.remove.ensures.updates.0

use Rattle.simulation.proofs.MessageMarks.{one_marked}
use Rattle.simulation.proofs.places.mark.Goals as goal

pub returns : goal.returns
returns c = one_marked c.args.marks.now.items c.args.at c.requires

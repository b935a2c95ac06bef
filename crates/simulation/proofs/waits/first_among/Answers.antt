use Rattle.simulation.proofs.MessagesDue.{none_for, others_for, first_for}
use Rattle.simulation.proofs.waits.first_among.Goals as goal

pub returns-in-None : goal.returns-in-None
returns-in-None c = none_for c.args.others.now c.args.server c.range.result (c.range.ensures.in_range tt) c.in-None.ensures.steps.0

pub returns-then-of-server : goal.returns-then-of-server
returns-then-of-server c = others_for c.args.others.now c.args.server c.range.result (c.range.ensures.in_range tt) c.in-Some.field-0.now.0 c.in-Some.field-0.now.1 _ c.in-Some.ensures.steps c.if-of-server.true

pub returns-else-of-server : goal.returns-else-of-server
returns-else-of-server c = first_for c.args.others.now c.args.server c.range.result (c.range.ensures.in_range tt) c.in-Some.field-0.now.0 c.in-Some.field-0.now.1 _ c.in-Some.ensures.steps c.if-of-server.false

use Rattle.std.proofs.Common.{sym, subst, ◌+◌}
use Rattle.simulation.specs.Shows.{IsDue, IsFirst}
use Rattle.simulation.proofs.MessagesDue.{start_due, due_more, all_due}
use Rattle.simulation.proofs.simulation.Simulation.first_due.Goals as goal

pub loop-server-init : goal.loop-server-init
loop-server-init g c = start_due _

pub loop-server-preserved : goal.loop-server-preserved
loop-server-preserved g c =
    subst (IsFirst (IsDue c.args.self.now (c.loop-server.server + 1))) (sym c.earlier-first.ensures)
    (due_more c.args.self.now c.loop-server.server c.loop-server.first c.due_at.result c.loop-server.invariant c.due_at.ensures)

pub returns : goal.returns
returns g c = all_due _ c.args.self.now c.loop-server.server c.loop-server.first c.self.view_is c.loop-server.auto.server-end c.loop-server-test.false c.loop-server.invariant

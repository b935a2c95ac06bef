use Rattle.std.proofs.Common.{sym, subst, ◌<◌, MatchOption}
use Rattle.std.specs.List.{slice_get}
use Rattle.mds_out.specs.Fused.{Fused}
use Rattle.simulation.specs.Shows.{SimulationV}
use Rattle.simulation.proofs.StopRun.{meant_there}
use Rattle.simulation.proofs.simulation.Simulation.server_for.Goals as goal

pub returns-clause-there : goal.returns-clause-there
returns-clause-there g c =
    let servers = c.self.inside.setup.servers in
    subst (λ (v : SimulationV (Fused g.row.D.Denot)). MatchOption c.server.result (Unit {0}) (λ server. server < v.setup.servers)) c.self.view_is
    (subst (λ o. MatchOption o (Unit {0}) (λ server. server < servers)) (sym c.server.ensures)
    (meant_there servers (slice_get c.self.inside.messages.sent c.in-Ok.at) (c.self.invariant.0.ranges.sent'.at c.in-Ok.at)))

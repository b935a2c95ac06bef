use Rattle.std.proofs.Common.{◌∙◌, sym, ap}
use Rattle.std.specs.FinSet as set
use Rattle.mds_out.specs.Fused.{Fused}
use Rattle.simulation.specs.Shows.{SimulationV, kind_stands}
use Rattle.simulation.proofs.simulation.Simulation.stands.Goals as goal

pub returns-in-Lookup : goal.returns-in-Lookup
returns-in-Lookup g c =
    c.contains.ensures
    ∙ ap (λ (v : SimulationV (Fused g.row.D.Denot)). set.contains v.taken c.in-Lookup.message) c.self.view_is
    ∙ ap (kind_stands c.args.self.now.taken) (sym c.in-Lookup.is)

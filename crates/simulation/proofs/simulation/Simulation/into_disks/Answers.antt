use Rattle.std.proofs.Common.{◌∙◌, ap, subst, List, arith}
use Rattle.std.specs.Prelude.{map as list_map}
use Rattle.mds_out.specs.Fused.{Fused}
use Rattle.node_store.specs.Store.{Store}
use Rattle.world.specs.declared.state.ServerState.{ServerState}
use Rattle.pasts.specs.Fuses.{seen_by, images_by}
use Rattle.pasts.specs.Servers.{AreServers}
use Rattle.pasts.specs.Starts.{AreDisks}
use Rattle.simulation.specs.Shows.{SimulationV}
use Rattle.simulation.proofs.simulation.Simulation.into_disks.Goals as goal

pub into_disks-requires-clause-room : goal.into_disks-requires-clause-room
into_disks-requires-clause-room g c =
    let all = c.self.invariant.0.stores'.all in
    let room = c.self.invariant.2 in
    omega arith

pub returns-clause-left : goal.returns-clause-left
returns-clause-left g c =
    let d = g.D.Disk in
    subst (λ (sim : SimulationV (Fused g.row.D.Denot)). (servers : List ServerState) → AreServers (seen_by d.seen) (images_by d.images) sim.setup sim.stores servers → AreDisks d.seen d.images sim.setup c.into_disks.result.items servers) c.self.view_is
    (c.into_disks.ensures.left c.self.inside.setup)

pub returns-clause-same : goal.returns-clause-same
returns-clause-same g c =
    c.into_disks.ensures.same ∙ ap (λ (sim : SimulationV (Fused g.row.D.Denot)). list_map (λ (store : Store (Fused g.row.D.Denot)). store.disk.inner) sim.stores) c.self.view_is

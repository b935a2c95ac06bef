use Rattle.std.proofs.Common.{sym, ap, subst, ◌<◌}
use Rattle.std.specs.Prelude.{slice_set}
use Rattle.mds_out.specs.Fused.{Fused}
use Rattle.node_store.specs.Store.{Store}
use Rattle.simulation.specs.Moves.{armed}
use Rattle.simulation.specs.Shows.{SimulationV}
use Rattle.simulation.proofs.FuseRun.{arm_same}
use Rattle.simulation.proofs.Payments.{arm_paid}
use Rattle.simulation.proofs.RangesKept.{ranged_still, stores_set}
use Rattle.simulation.proofs.ServersShown.{read_within, store_after}
use Rattle.simulation.proofs.simulation.Simulation.arm.Goals as goal

pub invariant_of-self : goal.invariant_of-self
invariant_of-self g c =
    let here = read_within c.self.inside.stores.items c.args.server c.self.inside.setup.servers c.index_mut.result.now c.self.invariant.0.stores'.all (subst (λ (v : SimulationV (Fused g.row.D.Denot)). c.args.server < v.setup.servers) (sym c.self.view_is) c.requires) c.index_mut.ensures.value in
    let r = c.self.invariant.0 in
    (ranged_still r _ _ (stores_set c.args.server c.index_mut.result.now c.arm.new.self r.stores' here (ap (λ (v : Store (Fused g.row.D.Denot)). v.server) c.arm.ensures, ap (λ (v : Store (Fused g.row.D.Denot)). v.setup) c.arm.ensures)) r.ranges, c.self.invariant.1, c.self.invariant.2)

pub returns-clause-setup : goal.returns-clause-setup
returns-clause-setup g c = ap (λ (v : SimulationV (Fused g.row.D.Denot)). v.setup) c.self.view_is

pub returns-clause-same : goal.returns-clause-same
returns-clause-same g c =
    let here = read_within c.self.inside.stores.items c.args.server c.self.inside.setup.servers c.index_mut.result.now c.self.invariant.0.stores'.all (subst (λ (v : SimulationV (Fused g.row.D.Denot)). c.args.server < v.setup.servers) (sym c.self.view_is) c.requires) c.index_mut.ensures.value in
    arm_same g.D.Disk.seen g.D.Disk.images c.self.view_is c.args.server c.args.calls c.index_mut.result.now c.arm.new.self here c.arm.ensures

pub returns-clause-after : goal.returns-clause-after
returns-clause-after g c =
    let here = read_within c.self.inside.stores.items c.args.server c.self.inside.setup.servers c.index_mut.result.now c.self.invariant.0.stores'.all (subst (λ (v : SimulationV (Fused g.row.D.Denot)). c.args.server < v.setup.servers) (sym c.self.view_is) c.requires) c.index_mut.ensures.value in
    store_after c.self.view_is c.args.server c.index_mut.result.now c.arm.new.self (λ v store. record v { stores = slice_set v.stores c.args.server store }) (λ store. armed store c.args.calls) here c.arm.ensures

pub returns-clause-paid : goal.returns-clause-paid
returns-clause-paid g c =
    let here = read_within c.self.inside.stores.items c.args.server c.self.inside.setup.servers c.index_mut.result.now c.self.invariant.0.stores'.all (subst (λ (v : SimulationV (Fused g.row.D.Denot)). c.args.server < v.setup.servers) (sym c.self.view_is) c.requires) c.index_mut.ensures.value in
    arm_paid g.D.Disk.faults g.D.Disk.lasts _ _ c.args.server c.index_mut.result.now c.arm.new.self c.self.view_is here c.args.calls c.arm.ensures

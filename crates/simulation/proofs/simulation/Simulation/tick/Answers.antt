use Rattle.std.proofs.Common.{sym, subst, ◌+◌, ◌<◌}
use Rattle.mds_base.specs.declared.limits.TheConstants.{MOMENTS}
use Rattle.mds_out.specs.Fused.{Fused}
use Rattle.pasts.specs.Fuses.{seen_by, images_by}
use Rattle.simulation.specs.Shows.{SimulationV}
use Rattle.simulation.proofs.RangesKept.{ranged_moment, room_in}
use Rattle.simulation.proofs.EventRun.{happens_from, tick_happens}
use Rattle.simulation.proofs.simulation.Simulation.tick.Goals as goal

pub invariant_of-self : goal.invariant_of-self
invariant_of-self g c =
    let below = subst (λ (v : SimulationV (Fused g.row.D.Denot)). v.moment + c.args.by < MOMENTS) (sym c.self.view_is) c.requires.moment in
    (ranged_moment c.self.invariant.0 (room_in c.self.view_is c.requires.room) c.args.by below, c.self.invariant.1, c.self.invariant.2)

pub returns-clause-happens : goal.returns-clause-happens
returns-clause-happens g c =
    happens_from (seen_by g.D.Disk.seen) (images_by g.D.Disk.images) _ _ _ _ c.self.view_is
    (tick_happens (seen_by g.D.Disk.seen) (images_by g.D.Disk.images) _ c.args.by (room_in c.self.view_is c.requires.room) (subst (λ (v : SimulationV (Fused g.row.D.Denot)). v.moment + c.args.by < MOMENTS) (sym c.self.view_is) c.requires.moment))

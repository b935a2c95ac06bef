use Rattle.std.proofs.Common.{ap}
use Rattle.mds_out.specs.Fused.{Fused}
use Rattle.node_store.specs.Store.{Store}
use Rattle.pasts.specs.Fuses.{seen_by, images_by}
use Rattle.simulation.specs.Moves.{halt, halted_by}
use Rattle.world.specs.declared.event.Event.TheVariants.{Stop}
use Rattle.world.specs.declared.event.StopCause.TheVariants.{Asked}
use Rattle.simulation.proofs.Payments.{is_paid_halted, quiet_paid}
use Rattle.simulation.proofs.RangesKept.{ranged_event, room_in, stores_set}
use Rattle.simulation.proofs.EventRun.{happens_from}
use Rattle.simulation.proofs.ServersShown.{up_store, store_after}
use Rattle.simulation.proofs.StopRun.{halt_happens, is_halted}
use Rattle.simulation.proofs.simulation.Simulation.stop.Goals as goal

pub halt-requires : goal.halt-requires
halt-requires g c =
    let s = up_store c.self.view_is c.args.server c.index_mut.result.now c.index_mut.ensures.value c.requires.up.1 in
    (s.up, s.up')

pub invariant_of-self : goal.invariant_of-self
invariant_of-self g c =
    let s = up_store c.self.view_is c.args.server c.index_mut.result.now c.index_mut.ensures.value c.requires.up.1 in
    let r = c.self.invariant.0 in
    (ranged_event r (room_in c.self.view_is c.requires.room) _ _ (stores_set c.args.server c.index_mut.result.now c.halt.new.self r.stores' s.is (ap (λ (v : Store (Fused g.row.D.Denot)). v.server) c.halt.ensures.stopped, ap (λ (v : Store (Fused g.row.D.Denot)). v.setup) c.halt.ensures.stopped)) r.ranges, c.self.invariant.1, c.self.invariant.2)

pub returns-clause-after : goal.returns-clause-after
returns-clause-after g c =
    let s = up_store c.self.view_is c.args.server c.index_mut.result.now c.index_mut.ensures.value c.requires.up.1 in
    store_after c.self.view_is c.args.server c.index_mut.result.now c.halt.new.self (λ v store. halted_by v c.args.server store) halt s.is c.halt.ensures.stopped

pub returns-clause-happens : goal.returns-clause-happens
returns-clause-happens g c =
    let s = up_store c.self.view_is c.args.server c.index_mut.result.now c.index_mut.ensures.value c.requires.up.1 in
    happens_from (seen_by g.D.Disk.seen) (images_by g.D.Disk.images) _ _ _ (Stop c.args.server Asked) c.self.view_is
    (halt_happens (seen_by g.D.Disk.seen) (images_by g.D.Disk.images) _ c.args.server c.index_mut.result.now c.halt.new.self s.is (room_in c.self.view_is c.requires.room) s.up s.up'
    (is_halted (seen_by g.D.Disk.seen) (images_by g.D.Disk.images) s.up c.halt.ensures.stopped c.halt.ensures.sure c.halt.ensures.at s.up'))

pub returns-clause-paid : goal.returns-clause-paid
returns-clause-paid g c =
    let s = up_store c.self.view_is c.args.server c.index_mut.result.now c.index_mut.ensures.value c.requires.up.1 in
    quiet_paid g.D.Disk.faults g.D.Disk.lasts _ _ c.args.server c.index_mut.result.now c.halt.new.self c.self.view_is s.is (is_paid_halted g.D.Disk.faults g.D.Disk.lasts c.index_mut.result.now c.halt.new.self c.halt.ensures.stopped)

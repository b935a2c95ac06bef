use Rattle.std.proofs.Common.{◌∙◌, ap, Ok}
use Rattle.mds_out.specs.Fused.{Fused, fused_faults}
use Rattle.node_store.specs.Store.{Store}
use Rattle.node_store.proofs.Restarting.{err_at}
use Rattle.pasts.specs.Fuses.{seen_by, images_by}
use Rattle.simulation.proofs.RangesKept.{ranged_event, ranged_still, room_in, same_sent, stores_set}
use Rattle.simulation.proofs.RestartStep.{mended_ends, mended_near, mended_sound, restart_quiet, restart_ends, restart_after, restart_near, restart_sound, restart_fault, restart_paid, unrestarted_paid, restarts_of}
use Rattle.simulation.proofs.ServeStep.{on_err}
use Rattle.simulation.proofs.ServersShown.{down_store, others_stay}
use Rattle.simulation.proofs.simulation.Simulation.restart.Goals as goal

pub invariant_of-self : goal.invariant_of-self
invariant_of-self g c =
    let s = down_store c.self.view_is c.args.server c.index_mut-store.result.now c.index_mut-store.ensures.value c.self.invariant.0.stores'.all c.requires.down in
    let r = c.self.invariant.0 in
    (ranged_still r _ _ (stores_set c.args.server c.index_mut-store.result.now c.revive.new.store r.stores' s.is (c.revive.ensures.same.0 ∙ ap (λ (v : Store (Fused g.row.D.Denot)). v.server) c.mend.ensures, c.revive.ensures.same.1 ∙ ap (λ (v : Store (Fused g.row.D.Denot)). v.setup) c.mend.ensures)) (same_sent r.ranges c.revive.new.messages.sent c.revive.ensures.sent), c.self.invariant.1, c.self.invariant.2)

pub returns-in_err-restarted-clause-err : goal.returns-in_err-restarted-clause-err
returns-in_err-restarted-clause-err g c =
    let s = down_store c.self.view_is c.args.server c.index_mut-store.result.now c.index_mut-store.ensures.value c.self.invariant.0.stores'.all c.requires.down in
    on_err _ _ (restart_near c.self.view_is s c.revive.new.store (seen_by g.D.Disk.seen) (images_by g.D.Disk.images) (room_in c.self.view_is c.requires.room) (mended_near g.D.Disk.seen g.D.Disk.images g.D.Disk.faults c.index_mut-store.result.now c.mend.new.self c.revive.new.store c.mend.ensures c.self.inside.moment c.in_err-restarted.ensures.err))

pub returns-in_err-restarted-clause-others : goal.returns-in_err-restarted-clause-others
returns-in_err-restarted-clause-others g c = on_err _ _ (others_stay c.self.view_is c.args.server c.revive.new.store)

pub returns-in_err-restarted-clause-fault : goal.returns-in_err-restarted-clause-fault
returns-in_err-restarted-clause-fault g c =
    let s = down_store c.self.view_is c.args.server c.index_mut-store.result.now c.index_mut-store.ensures.value c.self.invariant.0.stores'.all c.requires.down in
    err_at _ c.in_err-restarted.field-0.0 _ c.from_residual.ensures.1
    (restart_sound c.self.view_is s c.revive.new.store (seen_by g.D.Disk.seen) (images_by g.D.Disk.images) c.in_err-restarted.field-0.0 (mended_sound g.D.Disk.seen g.D.Disk.images g.D.Disk.faults c.index_mut-store.result.now c.mend.new.self c.revive.new.store c.mend.ensures c.in_err-restarted.field-0.0 c.in_err-restarted.ensures.sound))

pub returns-in_err-restarted-clause-damaged : goal.returns-in_err-restarted-clause-damaged
returns-in_err-restarted-clause-damaged g c =
    let s = down_store c.self.view_is c.args.server c.index_mut-store.result.now c.index_mut-store.ensures.value c.self.invariant.0.stores'.all c.requires.down in
    err_at _ c.in_err-restarted.field-0.0 _ c.from_residual.ensures.1
    (restart_fault c.self.view_is s c.revive.new.store (seen_by g.D.Disk.seen) (images_by g.D.Disk.images) c.self.invariant.0.stores' c.mend.new.self (ap (λ (v : Store (Fused g.row.D.Denot)). v.server) c.mend.ensures) (ap (λ (v : Store (Fused g.row.D.Denot)). v.setup) c.mend.ensures)
    c.in_err-restarted.field-0.0 c.in_err-restarted.ensures.damaged)

pub returns-in_err-restarted-clause-paid : goal.returns-in_err-restarted-clause-paid
returns-in_err-restarted-clause-paid g c =
    let s = down_store c.self.view_is c.args.server c.index_mut-store.result.now c.index_mut-store.ensures.value c.self.invariant.0.stores'.all c.requires.down in
    unrestarted_paid g.D.Disk.faults g.D.Disk.lasts c.self.view_is s c.revive.new.store _ c.from_residual.result c.from_residual.ensures.1
    (restart_quiet g.D.Disk.seen g.D.Disk.images g.D.Disk.faults c.index_mut-store.result.now c.mend.new.self c.revive.new.store c.mend.ensures g.D.Disk.lasts g.D.Disk.fails g.met.D.Disk.lasts_on c.revive.ensures.lasts)

pub invariant_of-self-2 : goal.invariant_of-self-2
invariant_of-self-2 g c =
    let s = down_store c.self.view_is c.args.server c.index_mut-store.result.now c.index_mut-store.ensures.value c.self.invariant.0.stores'.all c.requires.down in
    let r = c.self.invariant.0 in
    (ranged_event r (room_in c.self.view_is c.requires.room) _ _ (stores_set c.args.server c.index_mut-store.result.now c.revive.new.store r.stores' s.is (c.revive.ensures.same.0 ∙ ap (λ (v : Store (Fused g.row.D.Denot)). v.server) c.mend.ensures, c.revive.ensures.same.1 ∙ ap (λ (v : Store (Fused g.row.D.Denot)). v.setup) c.mend.ensures)) (same_sent r.ranges c.revive.new.messages.sent c.revive.ensures.sent), c.self.invariant.1, c.self.invariant.2)

pub returns-clause-after : goal.returns-clause-after
returns-clause-after g c =
    let s = down_store c.self.view_is c.args.server c.index_mut-store.result.now c.index_mut-store.ensures.value c.self.invariant.0.stores'.all c.requires.down in
    restart_after c.self.view_is s c.revive.new.store (seen_by g.D.Disk.seen) (images_by g.D.Disk.images) (room_in c.self.view_is c.requires.room) (fused_faults g.D.Disk.faults) c.in_ok-restarted.restarted c.revive.new.messages.made c.revive.new.messages.sent c.revive.ensures.sent
    (mended_ends g.D.Disk.seen g.D.Disk.images g.D.Disk.faults c.index_mut-store.result.now c.mend.new.self c.revive.new.store c.mend.ensures c.self.inside.moment c.self.inside.messages.made c.revive.new.messages.made c.in_ok-restarted.restarted c.in_ok-restarted.ensures.ok)

pub returns-clause-ok : goal.returns-clause-ok
returns-clause-ok g c = restarts_of (seen_by g.D.Disk.seen) (images_by g.D.Disk.images) (fused_faults g.D.Disk.faults) c.in_ok-restarted.restarted (returns-clause-after g c)

pub returns-clause-paid : goal.returns-clause-paid
returns-clause-paid g c =
    let s = down_store c.self.view_is c.args.server c.index_mut-store.result.now c.index_mut-store.ensures.value c.self.invariant.0.stores'.all c.requires.down in
    restart_paid g.D.Disk.faults g.D.Disk.lasts c.self.view_is s c.revive.new.store (Ok c.in_ok-restarted.restarted)
    (restart_ends g.D.Disk.seen g.D.Disk.images g.D.Disk.faults c.index_mut-store.result.now c.mend.new.self c.revive.new.store c.mend.ensures g.D.Disk.lasts g.D.Disk.fails g.met.D.Disk.lasts_on c.revive.ensures.lasts g.met.D.Disk.fails_rise c.in_ok-restarted.restarted c.in_ok-restarted.ensures.down c.in_ok-restarted.ensures.failed)

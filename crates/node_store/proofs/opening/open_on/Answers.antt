use Rattle.std.proofs.Common.{◌≡◌, Some}
use Rattle.node_core.specs.Nodes.{NodeAndRows}
use Rattle.node_store.specs.Reading.{IsRefusal, IsBad, OnDamage}
use Rattle.node_store.proofs.OpeningMoments.{any_moments, opened_more, then_alike, then_opened, stood_before, damaged_before, err_at}
use Rattle.node_store.proofs.Damages.{no_damage, damage_read, stays_on}
use Rattle.node_store.proofs.Stores.{changes_fail}
use Rattle.node_store.proofs.opening.open_on.Goals as goal

pub returns-in_err-log-clause-any_moment : goal.returns-in_err-log-clause-any_moment
returns-in_err-log-clause-any_moment g c =
    any_moments g.D.Disk.moment g.D.Disk.images_since c.args.disk.now c.bring_log.new.disk c.args.server c.args.setup (g.D.Disk.seen c.args.disk.now) (g.D.Disk.images c.args.disk.now) (g.met.D.Disk.reads_as c.args.disk.now)
    (opened_more g.D.Disk.moment g.D.Disk.images_since c.args.server c.args.setup c.args.disk.now c.bring_log.new.disk (g.D.Disk.seen c.args.disk.now 1) (g.D.Disk.images c.args.disk.now) (c.bring_log.ensures.any_moment c.args.server c.args.setup))

pub returns-in_err-log-clause-refused : goal.returns-in_err-log-clause-refused
returns-in_err-log-clause-refused g c =
    err_at c.from_residual.result c.in_err-log.field-0.0 (IsRefusal (IsBad c.args.server c.args.setup) (g.D.Disk.seen c.args.disk.now 1)) c.from_residual.ensures.1 (c.in_err-log.ensures.refused c.args.server c.args.setup)

pub returns-in_err-node-clause-any_moment : goal.returns-in_err-node-clause-any_moment
returns-in_err-node-clause-any_moment g c =
    any_moments g.D.Disk.moment g.D.Disk.images_since c.args.disk.now c.bring_store.new.disk c.args.server c.args.setup (g.D.Disk.seen c.args.disk.now) (g.D.Disk.images c.args.disk.now) (g.met.D.Disk.reads_as c.args.disk.now)
    (opened_more g.D.Disk.moment g.D.Disk.images_since c.args.server c.args.setup c.args.disk.now c.bring_store.new.disk (g.D.Disk.seen c.args.disk.now 1) (g.D.Disk.images c.args.disk.now)
    (then_alike g.D.Disk.moment g.D.Disk.images_since c.args.server c.args.setup c.args.disk.now c.bring_log.new.disk c.bring_store.new.disk (g.D.Disk.seen c.args.disk.now 1) (g.D.Disk.seen c.bring_log.new.disk 1) (g.D.Disk.images c.args.disk.now) (g.D.Disk.images c.bring_log.new.disk)
    (c.in_ok-log.ensures.alike c.args.server c.args.setup) (g.met.D.Disk.counts_now c.bring_log.new.disk) (c.bring_log.ensures.any_moment c.args.server c.args.setup) c.bring_store.ensures.any_moment))

pub returns-in_err-node-clause-refused : goal.returns-in_err-node-clause-refused
returns-in_err-node-clause-refused g c =
    err_at c.from_residual-in_err-node.result c.in_err-node.field-0.0 (IsRefusal (IsBad c.args.server c.args.setup) (g.D.Disk.seen c.args.disk.now 1)) c.from_residual-in_err-node.ensures.1
    (damaged_before c.args.server c.args.setup (g.D.Disk.seen c.args.disk.now 1) (g.D.Disk.seen c.bring_log.new.disk 1) c.in_err-node.field-0.0 (c.in_ok-log.ensures.alike c.args.server c.args.setup) c.in_err-node.ensures.refused)

pub returns-in_err-begin_run-clause-any_moment : goal.returns-in_err-begin_run-clause-any_moment
returns-in_err-begin_run-clause-any_moment g c =
    let store : NodeAndRows = record { node = c.in_ok-node.node; rows = c.in_ok-node.rows } in
    any_moments g.D.Disk.moment g.D.Disk.images_since c.args.disk.now c.begin_run.new.disk c.args.server c.args.setup (g.D.Disk.seen c.args.disk.now) (g.D.Disk.images c.args.disk.now) (g.met.D.Disk.reads_as c.args.disk.now)
    (then_opened g.D.Disk.moment g.D.Disk.images_since c.args.server c.args.setup c.args.disk.now c.bring_store.new.disk c.begin_run.new.disk (g.D.Disk.seen c.args.disk.now 1) (g.D.Disk.seen c.bring_log.new.disk 1) (g.D.Disk.seen c.bring_store.new.disk 1) (g.D.Disk.images c.args.disk.now) store
    (c.in_ok-log.ensures.alike c.args.server c.args.setup) c.bring_store.ensures.told c.in_ok-node.ensures.stands
    (then_alike g.D.Disk.moment g.D.Disk.images_since c.args.server c.args.setup c.args.disk.now c.bring_log.new.disk c.bring_store.new.disk (g.D.Disk.seen c.args.disk.now 1) (g.D.Disk.seen c.bring_log.new.disk 1) (g.D.Disk.images c.args.disk.now) (g.D.Disk.images c.bring_log.new.disk)
    (c.in_ok-log.ensures.alike c.args.server c.args.setup) (g.met.D.Disk.counts_now c.bring_log.new.disk) (c.bring_log.ensures.any_moment c.args.server c.args.setup) c.bring_store.ensures.any_moment)
    (c.begin_run.ensures.any_moment c.args.server c.args.setup c.in_ok-node.ensures.kept))

pub returns-clause-opened : goal.returns-clause-opened
returns-clause-opened g c =
    stood_before c.args.server c.args.setup (g.D.Disk.seen c.args.disk.now 1) (g.D.Disk.seen c.bring_log.new.disk 1) (record { node = c.in_ok-node.node; rows = c.in_ok-node.rows }) (record { node = c.begin_run.new.node; rows = c.begin_run.new.rows })
    (c.in_ok-log.ensures.alike c.args.server c.args.setup) c.in_ok-node.ensures.stands c.in_ok-begin_run.ensures.opened

pub returns-clause-any_moment : goal.returns-clause-any_moment
returns-clause-any_moment g c =
    let store : NodeAndRows = record { node = c.in_ok-node.node; rows = c.in_ok-node.rows } in
    any_moments g.D.Disk.moment g.D.Disk.images_since c.args.disk.now c.begin_run.new.disk c.args.server c.args.setup (g.D.Disk.seen c.args.disk.now) (g.D.Disk.images c.args.disk.now) (g.met.D.Disk.reads_as c.args.disk.now)
    (then_opened g.D.Disk.moment g.D.Disk.images_since c.args.server c.args.setup c.args.disk.now c.bring_store.new.disk c.begin_run.new.disk (g.D.Disk.seen c.args.disk.now 1) (g.D.Disk.seen c.bring_log.new.disk 1) (g.D.Disk.seen c.bring_store.new.disk 1) (g.D.Disk.images c.args.disk.now) store
    (c.in_ok-log.ensures.alike c.args.server c.args.setup) c.bring_store.ensures.told c.in_ok-node.ensures.stands
    (then_alike g.D.Disk.moment g.D.Disk.images_since c.args.server c.args.setup c.args.disk.now c.bring_log.new.disk c.bring_store.new.disk (g.D.Disk.seen c.args.disk.now 1) (g.D.Disk.seen c.bring_log.new.disk 1) (g.D.Disk.images c.args.disk.now) (g.D.Disk.images c.bring_log.new.disk)
    (c.in_ok-log.ensures.alike c.args.server c.args.setup) (g.met.D.Disk.counts_now c.bring_log.new.disk) (c.bring_log.ensures.any_moment c.args.server c.args.setup) c.bring_store.ensures.any_moment)
    (c.begin_run.ensures.any_moment c.args.server c.args.setup c.in_ok-node.ensures.kept))

pub returns-in_err-log-clause-still : goal.returns-in_err-log-clause-still
returns-in_err-log-clause-still g c =
    err_at c.from_residual.result c.in_err-log.field-0.0 (λ fault. OnDamage fault (g.D.Disk.seen c.args.disk.now 1) (λ bytes. g.D.Disk.seen c.bring_log.new.disk 1 ≡ Some bytes)) c.from_residual.ensures.1 c.in_err-log.ensures.still

pub returns-in_err-node-clause-still : goal.returns-in_err-node-clause-still
returns-in_err-node-clause-still g c =
    err_at c.from_residual-in_err-node.result c.in_err-node.field-0.0 (λ fault. OnDamage fault (g.D.Disk.seen c.args.disk.now 1) (λ bytes. g.D.Disk.seen c.bring_store.new.disk 1 ≡ Some bytes)) c.from_residual-in_err-node.ensures.1
    (damage_read (g.D.Disk.seen c.args.disk.now 1) (g.D.Disk.seen c.bring_log.new.disk 1) (g.D.Disk.seen c.bring_store.new.disk 1) c.in_ok-log.log.length c.in_err-node.field-0.0 c.bring_log.ensures.told c.in_ok-log.ensures.begun c.in_err-node.ensures.still)

pub returns-in_err-begin_run-clause-still : goal.returns-in_err-begin_run-clause-still
returns-in_err-begin_run-clause-still g c =
    err_at c.from_residual-in_err-begin_run.result c.in_err-begin_run.field-0.0 (λ fault. OnDamage fault (g.D.Disk.seen c.args.disk.now 1) (λ bytes. g.D.Disk.seen c.begin_run.new.disk 1 ≡ Some bytes)) c.from_residual-in_err-begin_run.ensures.1
    (no_damage (g.D.Disk.seen c.args.disk.now 1) (g.D.Disk.seen c.bring_store.new.disk 1) c.in_err-begin_run.field-0.0 _
    (stays_on (g.D.Disk.seen c.args.disk.now 1) (g.D.Disk.seen c.bring_log.new.disk 1) (g.D.Disk.seen c.bring_store.new.disk 1) c.bring_log.ensures.told c.bring_store.ensures.told) c.in_err-begin_run.ensures.refused)

pub returns-in_err-begin_run-clause-call : goal.returns-in_err-begin_run-clause-call
returns-in_err-begin_run-clause-call g c =
    changes_fail g.met.D.Disk.lasts_on g.met.D.Disk.fails_after c.in_ok-log.ensures.call c.in_ok-node.ensures.call c.in_err-begin_run.ensures.call c.from_residual-in_err-begin_run.ensures.1

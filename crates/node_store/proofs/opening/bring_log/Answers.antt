use Rattle.std.proofs.Common.{◌≡◌, ◌∙◌, List, ℕ, Some, inl, inr}
use Rattle.std.proofs.lemmas.Result.{IfOk-weaker, IfErr-weaker}
use Rattle.node_store.specs.Reading.{OnDamage}
use Rattle.node_store.proofs.Damages.{on_damage, no_damage, stays_same, stays_equal, on_each_ok, on_each_err}
use Rattle.node_store.proofs.Restarting.{err_at}
use Rattle.node_store.proofs.OpeningMoments.{after_sync}
use Rattle.node_store.proofs.opening.bring_log.Goals as goal

pub returns-then-branch-lt2-clause-any_moment : goal.returns-then-branch-lt2-clause-any_moment
returns-then-branch-lt2-clause-any_moment g c = λ server setup.
    after_sync g.D.Disk.moment g.D.Disk.images_since server setup c.args.disk.now c.synced_length.new.disk c.make_log.new.disk (g.D.Disk.seen c.args.disk.now 1) (g.D.Disk.seen c.synced_length.new.disk 1) (g.D.Disk.images c.args.disk.now) (g.D.Disk.images c.synced_length.new.disk)
    (c.synced_length.ensures.unchanged.bytes 1) c.synced_length.ensures.any_moment c.synced_length.ensures.crash (c.make_log.ensures.any_moment server setup)

pub returns-in_err-synced_length-clause-still : goal.returns-in_err-synced_length-clause-still
returns-in_err-synced_length-clause-still g c =
    err_at _ c.in_err-synced_length.field-0.0 (λ fault. OnDamage fault (g.D.Disk.seen c.args.disk.now 1) (λ bytes. g.D.Disk.seen c.synced_length.new.disk 1 ≡ Some bytes)) c.from_residual.ensures.1
    (no_damage _ _ c.in_err-synced_length.field-0.0 _ (stays_same (g.D.Disk.seen c.args.disk.now 1)) c.in_err-synced_length.ensures.refused)

pub returns-then-branch-lt2-clause-begun : goal.returns-then-branch-lt2-clause-begun
returns-then-branch-lt2-clause-begun g c = IfOk-weaker c.make_log.result _ _ (λ log one. inl one) c.make_log.ensures.empty

pub returns-then-branch-lt2-clause-still : goal.returns-then-branch-lt2-clause-still
returns-then-branch-lt2-clause-still g c =
    IfErr-weaker c.make_log.result _ _
    (λ fault refused. no_damage (g.D.Disk.seen c.args.disk.now 1) (g.D.Disk.seen c.synced_length.new.disk 1) fault _ (stays_equal _ _ (c.synced_length.ensures.unchanged.bytes 1)) refused)
    c.make_log.ensures.refused

pub returns-else-branch-lt2-clause-begun : goal.returns-else-branch-lt2-clause-begun
returns-else-branch-lt2-clause-begun g c =
    on_each_ok c.find_log.result _ (λ log. inr (c.find_log.ensures.unchanged.bytes 1 ∙ c.synced_length.ensures.unchanged.bytes 1))

pub returns-else-branch-lt2-clause-still : goal.returns-else-branch-lt2-clause-still
returns-else-branch-lt2-clause-still g c =
    on_each_err c.find_log.result _
    (λ fault. on_damage (g.D.Disk.seen c.args.disk.now 1) fault _ (λ bytes is. c.find_log.ensures.unchanged.bytes 1 ∙ c.synced_length.ensures.unchanged.bytes 1 ∙ is))

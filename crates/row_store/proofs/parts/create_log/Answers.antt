use Rattle.gate_log.specs.Calls.{IsMaking}
use Rattle.gate_log.specs.LogState.{IsElsewhereOld}
use Rattle.mds_out.proofs.Moments.{leaves_weaker}
use Rattle.row_store.proofs.parts.create_log.Goals as goal

pub returns-clause-any_moment : goal.returns-clause-any_moment
returns-clause-any_moment g c =
    leaves_weaker g.D.Disk.moment g.D.Disk.images_since c.args.disk.now c.create.new.disk (IsMaking c.args.file (g.D.Disk.images c.args.disk.now)) (IsElsewhereOld c.args.file (g.D.Disk.images c.args.disk.now))
    (λ image is. record { before = is.before; was = is.was; others = is.others }) c.create.ensures.any_moment

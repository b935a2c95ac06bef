use Rattle.std.proofs.Common.{sym, ap, subst, length, length-append, ◌∷◌, [], arith}
use Rattle.mds_cli.specs.Fresh.{AreNewMemories}
use Rattle.mds_cli.proofs.DisksNew.{memories_push}
use Rattle.mds_app.proofs.new_disks.Goals as goal

pub loop-preserved : goal.loop-preserved
loop-preserved c = (
  omega (arith, c.loop.invariant.0, ap length c.in_ok-push.ensures.items, length-append c.loop.disks.items (c.in_ok-new.field-0 ∷ [])),
  subst AreNewMemories (sym c.in_ok-push.ensures.items) (memories_push c.loop.disks.items c.in_ok-new.field-0 c.loop.invariant.1 (ap (λ d. d.acts) c.in_ok-new.ensures)),
)

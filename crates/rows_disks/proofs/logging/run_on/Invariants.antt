use Rattle.rows_disks.specs.Benches.{IsBench}
use Rattle.rows_disks.proofs.logging.run_on.Given as goal

abbrev pub invariant-loop-action : goal.invariant-loop-action
invariant-loop-action g l = IsBench l.log (g.D.Disk.seen l.disk.inner) (g.D.Disk.sizes l.disk.inner) (g.D.Disk.images l.disk.inner)

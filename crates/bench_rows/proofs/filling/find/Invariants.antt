use Rattle.bench_rows.specs.Benches.{IsBench}
use Rattle.bench_rows.proofs.filling.find.Given as goal

abbrev pub invariant-loop-round : goal.invariant-loop-round
invariant-loop-round g l = IsBench l.store (g.D.Disk.seen l.disk) (g.D.Disk.sizes l.disk) (g.D.Disk.images l.disk)

use Rattle.bench_rows.specs.Benches.{IsBench}
use Rattle.bench_rows.proofs.filling.keep.Given as goal

abbrev pub invariant-loop-turn : goal.invariant-loop-turn
invariant-loop-turn g l = IsBench l.store (g.D.Disk.seen l.disk) (g.D.Disk.sizes l.disk) (g.D.Disk.images l.disk)

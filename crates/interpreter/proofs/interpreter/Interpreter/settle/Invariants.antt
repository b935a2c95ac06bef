use Rattle.simulation.specs.Payments.{none_at}
use Rattle.pasts.specs.Fuses.{seen_by, images_by}
use Rattle.interpreter.proofs.MessagesSettled.{Settles}
use Rattle.interpreter.specs.Payments.{Pays}
use Rattle.interpreter.proofs.interpreter.Interpreter.settle.Given as goal

-- what was due first was delivered in each round, and what was printed is paid
abbrev pub invariant-loop : goal.invariant-loop
invariant-loop g l = Settles (seen_by g.D.Disk.seen) (images_by g.D.Disk.images) l.fn.self.simulation l.self.simulation l.fn.self.pending.items l.self.pending.items l.counter × Pays g.D.Disk.faults g.D.Disk.lasts l.fn.self.simulation.stores l.self.simulation.stores l.fn.self.pending.items l.self.pending.items none_at

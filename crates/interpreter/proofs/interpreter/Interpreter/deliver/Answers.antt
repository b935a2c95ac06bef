use Rattle.std.proofs.Common.{refl}
use Rattle.interpreter.proofs.Payments.{pays_same}
use Rattle.interpreter.proofs.interpreter.Interpreter.deliver.Goals as goal

pub returns-in_default-clause-paid : goal.returns-in_default-clause-paid
returns-in_default-clause-paid g c =
    pays_same g.D.Disk.faults g.D.Disk.lasts c.args.self.now.simulation.stores c.args.self.now.simulation.stores c.args.self.now.pending.items c.args.self.now.pending.items refl refl

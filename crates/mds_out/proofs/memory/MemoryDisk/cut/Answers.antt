use Rattle.mds_out.proofs.Clauses.{cut_crash}
use Rattle.mds_out.proofs.memory.MemoryDisk.cut.Goals as goal

pub returns-clause-crash : goal.returns-clause-crash
returns-clause-crash c = cut_crash c.args.file c.args.to c.args.self.now c.cut_to.new.self c.cut_to.result c.cut_to.ensures.done

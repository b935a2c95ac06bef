use Rattle.mds_out.proofs.Clauses.{write_crash}
use Rattle.mds_out.proofs.memory.MemoryDisk.write_at.Goals as goal

pub returns-clause-crash : goal.returns-clause-crash
returns-clause-crash c = write_crash c.args.file c.args.at c.args.bytes.now c.args.self.now c.write.new.self c.write.result c.requires.within c.write.ensures.done

use Rattle.std.proofs.lemmas.Result.{on_ok_weaker}
use Rattle.mds_out.proofs.Clauses.{restart_crash, restarted_image}
use Rattle.mds_out.proofs.memory.MemoryDisk.restart.Goals as goal

pub returns-clause-left : goal.returns-clause-left
returns-clause-left c = on_ok_weaker c.restart_all.result (restarted_image c.args.self.now c.restart_all.new.self) c.restart_all.ensures.done.done

pub returns-clause-crash : goal.returns-clause-crash
returns-clause-crash c = restart_crash c.args.self.now c.restart_all.new.self c.restart_all.result c.restart_all.ensures.done

use Rattle.std.proofs.lemmas.Result.{on_ok_weaker}
use Rattle.mds_out.proofs.Clauses.{sync_crash, synced_file}
use Rattle.mds_out.proofs.memory.MemoryDisk.sync.Goals as goal

pub returns-clause-durable : goal.returns-clause-durable
returns-clause-durable c = on_ok_weaker c.sync_one.result (synced_file c.args.file c.args.self.now c.sync_one.new.self) c.sync_one.ensures.done.done

pub returns-clause-crash : goal.returns-clause-crash
returns-clause-crash c = sync_crash c.args.file c.args.self.now c.sync_one.new.self c.sync_one.result c.sync_one.ensures.done

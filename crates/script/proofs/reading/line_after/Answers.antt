use Rattle.script.proofs.Keeping.{batch_memory, walk_memory, bulk_memory, rmdir_memory}
use Rattle.script.proofs.reading.line_after.Goals as goal

pub returns-in-Batch-clause-memory : goal.returns-in-Batch-clause-memory
returns-in-Batch-clause-memory c = batch_memory c.batch_line.result c.args.setup.now c.args.unread.now c.args.verb c.in-Batch.is

pub returns-in-Walk-clause-memory : goal.returns-in-Walk-clause-memory
returns-in-Walk-clause-memory c = walk_memory c.walk_line.result c.args.setup.now c.args.unread.now c.args.verb c.in-Walk.is

pub returns-in-Bulk-clause-memory : goal.returns-in-Bulk-clause-memory
returns-in-Bulk-clause-memory c = bulk_memory c.bulk_line.result c.args.setup.now c.args.unread.now c.args.verb c.in-Bulk.is

pub returns-in-Rmdir-clause-memory : goal.returns-in-Rmdir-clause-memory
returns-in-Rmdir-clause-memory c = rmdir_memory c.rmdir_line.result c.args.setup.now c.args.unread.now c.args.verb c.in-Rmdir.is

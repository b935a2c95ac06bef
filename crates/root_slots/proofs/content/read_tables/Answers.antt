use Rattle.std.proofs.Common.{arith}
use Rattle.root_slots.proofs.Spelled.{table_step, tables_read}
use Rattle.root_slots.proofs.content.read_tables.Goals as goal

pub loop-table-preserved : goal.loop-table-preserved
loop-table-preserved c =
    table_step c.args.count c.loop-table._table _ c.loop-table.tables c.loop-table.rest.now _ _ (omega arith) c.loop-table.invariant.0 c.loop-table.invariant.1 c.read_u32.ensures c.in_ok-push.ensures.ok

pub returns : goal.returns
returns c = let i = c.loop-table.invariant in tables_read _ _ _ _ _ (omega arith) i.0

use Rattle.sorted_table.proofs.Unique.{one_table, either}
use Rattle.sorted_table.proofs.table.one_table_law.Goals as goal

pub returns-clause-one_table : goal.returns-clause-one_table
returns-clause-one_table c = one_table

pub returns-clause-either : goal.returns-clause-either
returns-clause-either c = either

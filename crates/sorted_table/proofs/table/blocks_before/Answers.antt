use Rattle.std.proofs.Common.{rules}
use Rattle.std.proofs.lemmas.List.Sorted.{IsPartitionPoint-from_clause}
use Rattle.sorted_table.specs.Starts.{is_before}
use Rattle.sorted_table.proofs.table.blocks_before.Goals as goal

pub returns-clause-point : goal.returns-clause-point
returns-clause-point c = λ parted. IsPartitionPoint-from_clause (is_before c.args.start.now) _ _ c.partition_point.ensures.partitioned parted (λ a r q k. search rules)

use Rattle.std.proofs.Common.{rules}
use Rattle.std.specs.Ordering.{is_le}
use Rattle.std.proofs.lemmas.List.Sorted.{IsPartitionPoint-from_clause}
use Rattle.mds_base.specs.RowKeys.{row_key_cmp}
use Rattle.sorted_table.proofs.table.blocks_upto.Goals as goal

pub returns-clause-point : goal.returns-clause-point
returns-clause-point c = λ parted. IsPartitionPoint-from_clause (λ first. is_le (row_key_cmp first c.args.key.now)) _ _ c.partition_point.ensures.partitioned parted (λ a r q k. search rules)

use Rattle.std.proofs.Common.{◌≡◌, map}
use Rattle.mds_base.specs.RowKeys.{row_of}
use Rattle.split.proofs.half.rows_of.Given as goal

abbrev pub invariant-loop-key : goal.invariant-loop-key
invariant-loop-key l = l.rows ≡ map row_of l.yielded

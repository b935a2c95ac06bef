use Rattle.std.proofs.Common.{◌≡◌, ◌<◌, ◌^◌, ap, ◌∙◌, length, map, None, arith, rules}
use Rattle.mds_base.specs.RowKeys.{row_of}
use Rattle.split.specs.Halves.{rising}
use Rattle.split.proofs.Moving.{rows_length}
use Rattle.split.proofs.half.moving_half.Goals as goal

pub returns-clause-count : goal.returns-clause-count
returns-clause-count g c =
    let rows = c.rows.result.now in
    let made : c.in_ok-rows_of.field-0 ≡ map row_of (rising c.args.dir c.args.part c.args.depth None rows) = search rules in
    let count : length rows < 2 ^ 32 = search rules in
    omega (arith, ap length made, rows_length c.args.dir c.args.part c.args.depth rows, count)

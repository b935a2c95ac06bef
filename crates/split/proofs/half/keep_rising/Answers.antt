use Rattle.std.proofs.Common.{◌≡◌, get_or, rules}
use Rattle.split.specs.Halves.{with_rising}
use Rattle.split.proofs.Moving.{rising_next}
use Rattle.split.proofs.half.keep_rising.Goals as goal

pub loop-row-preserved : goal.loop-row-preserved
loop-row-preserved c =
    let item : c.row-item.result ≡ get_or c.args.rows.now c.loop-row.row-index c.row-item.result = search rules in
    let pushed : c.push_rising.new.half.items ≡ with_rising c.args.dir c.args.part c.args.depth c.loop-row.half.items c.row-item.result = search rules in
    rising_next c.args.dir c.args.part c.args.depth c.loop-row.half.items c.push_rising.new.half.items c.args.rows.now c.row-item.result c.loop-row.row-index _ c.loop-row-test.true item pushed c.loop-row.invariant

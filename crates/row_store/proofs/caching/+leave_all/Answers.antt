use Rattle.row_store.proofs.Firsts.{cons_of, none_of, rest_of}
use Rattle.row_store.proofs.KeptBlocks.{left_none, left_then}
use Rattle.row_store.proofs.caching.+leave_all.Goals as goal

pub returns-in-empty : goal.returns-in-empty
returns-in-empty t c = left_none c.args.cache.now c.args.tables.now (none_of c.args.tables.now c.in-empty.len_below)

pub returns-in-len1-up : goal.returns-in-len1-up
returns-in-len1-up t c =
    left_then c.args.cache.now c.leave.new.cache c.leave_all.new.cache c.table-item.result (rest_of c.args.tables.now) c.args.tables.now
    (cons_of c.args.tables.now c.table-item.result c.in-len1-up.len_at_least c.table-item.is) c.leave.ensures c.leave_all.ensures

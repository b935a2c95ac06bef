use Rattle.std.proofs.Common.{◌∙◌, ◌∷◌, [], sym, subst, rules, refl, Some, None}
use Rattle.row_store.specs.Caching.{AreRight}
use Rattle.row_store.proofs.KeptBlocks.{right_more, warm_first, warms_same}
use Rattle.sorted_table.specs.declared.table_row.Held.TheVariants.{Tomb, Row}
use Rattle.row_store.proofs.Firsts.{cons_of, none_of, rest_of, rest_ready}
use Rattle.row_store.proofs.Maps.{Says, finds_none, finds_older, finds_first}
use Rattle.row_store.proofs.Told.{same_seen, tables_on}
use Rattle.row_store.proofs.looks.+row_through.Goals as goal

pub row_through-requires : goal.row_through-requires
row_through-requires g t c =
    let older = rest_ready c.args.tables.now (g.D.Disk.seen c.look.new.disk) (g.D.Disk.sizes c.look.new.disk)
    (tables_on c.args.tables.now (g.D.Disk.seen c.args.disk.now) (g.D.Disk.seen c.look.new.disk) (g.D.Disk.sizes c.args.disk.now) (g.D.Disk.sizes c.look.new.disk) c.in_ok-look-in-len1-up.ensures.call.unchanged c.requires.ready) in
    let right = subst (AreRight c.look.new.cache) (sym (same_seen (g.D.Disk.seen c.args.disk.now) (g.D.Disk.seen c.look.new.disk) (g.D.Disk.sizes c.args.disk.now) (g.D.Disk.sizes c.look.new.disk) c.in_ok-look-in-len1-up.ensures.call.unchanged))
    (right_more c.args.cache.now c.look.new.cache (g.D.Disk.seen c.args.disk.now) (c.table-item.result ∷ []) c.look.ensures.cache c.requires.right) in
    search rules

pub returns-in-empty-clause-found : goal.returns-in-empty-clause-found
returns-in-empty-clause-found g t c = finds_none c.args.tables.now (g.D.Disk.seen c.args.disk.now) c.args.key.now (none_of c.args.tables.now c.in-empty.len_below)

pub returns-in-Absent-clause-found : goal.returns-in-Absent-clause-found
returns-in-Absent-clause-found g t c =
    finds_older c.table-item.result (rest_of c.args.tables.now) c.args.tables.now (g.D.Disk.seen c.args.disk.now) (g.D.Disk.seen c.look.new.disk) c.args.key.now c.in_ok-look-in-len1-up.field-0 c.row_through.result
    (cons_of c.args.tables.now c.table-item.result c.in-len1-up.len_at_least c.table-item.is)
    (same_seen (g.D.Disk.seen c.args.disk.now) (g.D.Disk.seen c.look.new.disk) (g.D.Disk.sizes c.args.disk.now) (g.D.Disk.sizes c.look.new.disk) c.in_ok-look-in-len1-up.ensures.call.unchanged)
    c.in-Absent.is c.in_ok-look-in-len1-up.ensures.held c.row_through.ensures.found

pub returns-in-Tomb-clause-found : goal.returns-in-Tomb-clause-found
returns-in-Tomb-clause-found g t c =
    let says : Says c.table-item.result (g.D.Disk.seen c.args.disk.now) c.args.key.now Tomb = rw c.in-Tomb.is at c.in_ok-look-in-len1-up.ensures.held in
    finds_first c.table-item.result (rest_of c.args.tables.now) c.args.tables.now (g.D.Disk.seen c.args.disk.now) c.args.key.now Tomb None
    (cons_of c.args.tables.now c.table-item.result c.in-len1-up.len_at_least c.table-item.is) (λ rest. refl) says

pub returns-in-Row-clause-found : goal.returns-in-Row-clause-found
returns-in-Row-clause-found g t c =
    let says : Says c.table-item.result (g.D.Disk.seen c.args.disk.now) c.args.key.now (Row c.in-Row.attr) = rw c.in-Row.is at c.in_ok-look-in-len1-up.ensures.held in
    finds_first c.table-item.result (rest_of c.args.tables.now) c.args.tables.now (g.D.Disk.seen c.args.disk.now) c.args.key.now (Row c.in-Row.attr) (Some c.in-Row.attr)
    (cons_of c.args.tables.now c.table-item.result c.in-len1-up.len_at_least c.table-item.is) (λ rest. refl) says

-- ---- what is kept, and what is asked

pub returns-in_err-look-in-len1-up-clause-warm : goal.returns-in_err-look-in-len1-up-clause-warm
returns-in_err-look-in-len1-up-clause-warm g t c = λ warm.
    (c.look.ensures.warm (warm_first c.args.cache.now c.args.key.now c.args.tables.now c.table-item.result (rest_of c.args.tables.now) (cons_of c.args.tables.now c.table-item.result c.in-len1-up.len_at_least c.table-item.is) warm).0).0

pub returns-in-Tomb-clause-warm : goal.returns-in-Tomb-clause-warm
returns-in-Tomb-clause-warm g t c = λ warm.
    (c.look.ensures.warm (warm_first c.args.cache.now c.args.key.now c.args.tables.now c.table-item.result (rest_of c.args.tables.now) (cons_of c.args.tables.now c.table-item.result c.in-len1-up.len_at_least c.table-item.is) warm).0).0

pub returns-in-Row-clause-warm : goal.returns-in-Row-clause-warm
returns-in-Row-clause-warm g t c = λ warm.
    (c.look.ensures.warm (warm_first c.args.cache.now c.args.key.now c.args.tables.now c.table-item.result (rest_of c.args.tables.now) (cons_of c.args.tables.now c.table-item.result c.in-len1-up.len_at_least c.table-item.is) warm).0).0

pub returns-in-Absent-clause-warm : goal.returns-in-Absent-clause-warm
returns-in-Absent-clause-warm g t c = λ warm.
    let both = warm_first c.args.cache.now c.args.key.now c.args.tables.now c.table-item.result (rest_of c.args.tables.now) (cons_of c.args.tables.now c.table-item.result c.in-len1-up.len_at_least c.table-item.is) warm in
    let first = c.look.ensures.warm both.0 in
    c.row_through.ensures.warm (warms_same c.args.cache.now c.look.new.cache first.1 c.args.key.now (rest_of c.args.tables.now) both.1) ∙ first.0

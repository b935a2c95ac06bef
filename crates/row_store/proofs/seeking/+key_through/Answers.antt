use Rattle.std.proofs.Common.{rules, sym, subst, Option}
use Rattle.mds_base.specs.declared.row_key.RowKey.{RowKey}
use Rattle.sorted_table.specs.Starts.{is_before}
use Rattle.row_store.proofs.Firsts.{cons_of, none_of, rest_of, rest_ready}
use Rattle.row_store.proofs.Passing.{FindsKey, key_none, key_more}
use Rattle.row_store.proofs.Told.{same_seen, tables_on}
use Rattle.row_store.proofs.seeking.+key_through.Goals as goal

pub key_through-requires : goal.key_through-requires
key_through-requires g t c =
    let older = rest_ready c.args.tables.now (g.D.Disk.seen c.key_of.new.disk) (g.D.Disk.sizes c.key_of.new.disk)
    (tables_on c.args.tables.now (g.D.Disk.seen c.args.disk.now) (g.D.Disk.seen c.key_of.new.disk) (g.D.Disk.sizes c.args.disk.now) (g.D.Disk.sizes c.key_of.new.disk) c.in_ok-newer-in-len1-up.ensures.call.unchanged c.requires.ready) in
    search rules

pub returns-in-empty-clause-found : goal.returns-in-empty-clause-found
returns-in-empty-clause-found g t c = key_none c.args.tables.now (g.D.Disk.seen c.args.disk.now) (is_before c.args.start.now) (none_of c.args.tables.now c.in-empty.len_below)

pub returns-in_ok-other-in-len1-up-clause-found : goal.returns-in_ok-other-in-len1-up-clause-found
returns-in_ok-other-in-len1-up-clause-found g t c =
    let P : Option RowKey → Type 0 = FindsKey c.args.tables.now (g.D.Disk.seen c.args.disk.now) (is_before c.args.start.now) in
    subst P (sym c.lesser.ensures)
    (key_more c.table-item.result (rest_of c.args.tables.now) c.args.tables.now (g.D.Disk.seen c.args.disk.now) (g.D.Disk.seen c.key_of.new.disk) (is_before c.args.start.now) c.in_ok-newer-in-len1-up.newer c.in_ok-other-in-len1-up.other
    (cons_of c.args.tables.now c.table-item.result c.in-len1-up.len_at_least c.table-item.is)
    (same_seen (g.D.Disk.seen c.args.disk.now) (g.D.Disk.seen c.key_of.new.disk) (g.D.Disk.sizes c.args.disk.now) (g.D.Disk.sizes c.key_of.new.disk) c.in_ok-newer-in-len1-up.ensures.call.unchanged)
    c.in_ok-newer-in-len1-up.ensures.found c.in_ok-other-in-len1-up.ensures.found)

use Rattle.std.proofs.Common.{rules, sym, subst, get_or, List}
use Rattle.row_store.specs.Value.{AreOpen}
use Rattle.sorted_table.specs.Tables.{TableState}
use Rattle.row_store.proofs.Firsts.{cons_number, rest_of}
use Rattle.row_store.proofs.Opens.{open_on, open_more, more_refused}
use Rattle.row_store.proofs.Told.{same_seen}
use Rattle.row_store.proofs.opening.+open_more.Goals as goal

pub open_more-requires : goal.open_more-requires
open_more-requires g t c =
    let seen' = g.D.Disk.seen c.open_table.new.disk in
    let sizes' = g.D.Disk.sizes c.open_table.new.disk in
    let images' = g.D.Disk.images c.open_table.new.disk in
    let call = c.in_ok-table-in-len1-up.ensures.call in
    let P : List TableState → Type 0 = λ tables. AreOpen tables (g.D.Disk.seen c.open_table.new.disk) (g.D.Disk.sizes c.open_table.new.disk) (g.D.Disk.images c.open_table.new.disk) in
    let opened : AreOpen c.push.new.self.items (g.D.Disk.seen c.open_table.new.disk) (g.D.Disk.sizes c.open_table.new.disk) (g.D.Disk.images c.open_table.new.disk) =
    subst P (sym c.in_ok-push-in-len1-up.ensures.items) (open_more c.args.tables.now.items c.in_ok-table-in-len1-up.table seen' sizes' images'
    (open_on c.args.tables.now.items (g.D.Disk.seen c.args.disk.now) seen' (g.D.Disk.sizes c.args.disk.now) sizes' (g.D.Disk.images c.args.disk.now) images' call.unchanged call.crash c.requires) c.in_ok-table-in-len1-up.ensures.table) in
    search rules

pub returns-in_ok-push-in-len1-up-clause-refused : goal.returns-in_ok-push-in-len1-up-clause-refused
returns-in_ok-push-in-len1-up-clause-refused g t c =
    more_refused c.in_ok-table-in-len1-up.table (get_or c.args.files.now 0 0) (rest_of c.args.files.now) c.args.files.now (g.D.Disk.seen c.args.disk.now) (g.D.Disk.seen c.open_table.new.disk) (g.D.Disk.sizes c.open_table.new.disk) (g.D.Disk.images c.open_table.new.disk) c.open_more.result
    (cons_number c.args.files.now c.in-len1-up.len_at_least)
    (same_seen (g.D.Disk.seen c.args.disk.now) (g.D.Disk.seen c.open_table.new.disk) (g.D.Disk.sizes c.args.disk.now) (g.D.Disk.sizes c.open_table.new.disk) c.in_ok-table-in-len1-up.ensures.call.unchanged)
    c.in_ok-table-in-len1-up.ensures.file c.in_ok-table-in-len1-up.ensures.table c.open_more.ensures.refused

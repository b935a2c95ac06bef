use Rattle.std.proofs.Common.{sym, subst, Option}
use Rattle.mds_base.specs.declared.row_key.RowKey.{RowKey}
use Rattle.sorted_table.specs.Starts.{is_before}
use Rattle.row_store.specs.Seeks.{PassesNone}
use Rattle.row_store.proofs.Passing.{key_all}
use Rattle.row_store.proofs.seeking.key_from.Goals as goal

pub returns-clause-found : goal.returns-clause-found
returns-clause-found g c = λ tells rows m.
    let P : Option RowKey → Type 0 = PassesNone rows (is_before c.args.start.now) in
    subst P (sym c.lesser.ensures)
    (key_all c.args.tables.now c.args.fresh.now.entries rows (g.D.Disk.seen c.args.disk.now) (is_before c.args.start.now) c.in_ok-said.said c.in_ok-older.older c.in_ok-said.ensures.found c.in_ok-said.ensures.rise c.in_ok-older.ensures.found tells m)

use Rattle.std.proofs.Common.{◌≡◌, List, Some, sym, subst, rules}
use Rattle.std.specs.List.{slice_get}
use Rattle.mds_out.specs.Known.{OnTold}
use Rattle.sorted_table.specs.declared.table_row.TableRow.{TableRow}
use Rattle.sorted_table.specs.Tables.{HoldsBlocks}
use Rattle.merge_rows.proofs.Along.{rest_filled}
use Rattle.merge_rows.proofs.cursor.Cursor.fill.Goals as goal

pub returns-clause-rest : goal.returns-clause-rest
returns-clause-rest g c =
    let table = c.args.table.now in
    let seen = g.D.Disk.seen c.args.disk.now in
    let P : List TableRow → Type 0 = λ found. (blocks : List (List TableRow)) → HoldsBlocks table seen blocks → OnTold (seen table.file) (λ _. slice_get blocks c.self.inside.next ≡ Some found) in
    rest_filled c.args.self.now table seen c.self.inside.next c.self.inside.rows.items c.from.result.items c.self.view_is (search rules) (subst P (sym c.from.ensures.0) c.in_ok-rows.ensures.block)

use Rattle.std.specs.Prelude.{IfOk}
use Rattle.std.proofs.Common.{◌≡◌, Bool, false, List, subst}
use Rattle.mds_base.specs.declared.row_key.RowKey.{RowKey}
use Rattle.mds_out.specs.Known.{OnTold}
use Rattle.sorted_table.specs.declared.table_row.TableRow.{TableRow}
use Rattle.sorted_table.specs.Starts.{before_at, place_of}
use Rattle.sorted_table.specs.TableRows.{row_behind, key_of}
use Rattle.sorted_table.specs.Tables.{HoldsRows}
use Rattle.sorted_table.proofs.table.Table.seek.Goals as goal

pub returns-clause-found : goal.returns-clause-found
returns-clause-found g c =
    let told = g.D.Disk.seen c.args.disk.now in
    let F : RowKey → Bool → Type 0 = λ place past. IfOk c.seek_by.result (λ found. (rows : List TableRow) → HoldsRows c.args.self.now told rows → OnTold (told c.args.self.now.file) (λ _. found ≡ key_of (row_behind (before_at place past) rows))) in
    let P : RowKey → Type 0 = λ place. F place false in
    let Q : Bool → Type 0 = λ past. F (place_of c.at.result) past in
    subst P c.at.ensures.place (subst Q c.at.ensures.past c.seek_by.ensures.found)

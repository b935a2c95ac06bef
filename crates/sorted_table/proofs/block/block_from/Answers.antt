use Rattle.std.proofs.Common.{Bool, false, Some, subst}
use Rattle.std.specs.Option.{option_map}
use Rattle.mds_base.specs.declared.row_key.RowKey.{RowKey}
use Rattle.sorted_table.specs.Lines.{row_in}
use Rattle.sorted_table.specs.Reading.{Gives}
use Rattle.sorted_table.specs.Starts.{before_at, place_of}
use Rattle.sorted_table.specs.TableRows.{row_behind}
use Rattle.sorted_table.proofs.block.block_from.Goals as goal

pub returns-clause-from : goal.returns-clause-from
returns-clause-from c = λ rows is.
    let P : RowKey → Type 0 = λ place. Gives (λ line. option_map row_in line) c.block_behind.result (Some (row_behind (before_at place false) rows)) in
    let Q : Bool → Type 0 = λ past. Gives (λ line. option_map row_in line) c.block_behind.result (Some (row_behind (before_at (place_of c.at.result) past) rows)) in
    subst P c.at.ensures.place (subst Q c.at.ensures.past (c.block_behind.ensures.from rows is))

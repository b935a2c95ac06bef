use Rattle.std.proofs.Common.{Option, subst}
use Rattle.std.specs.Option.{option_map}
use Rattle.sorted_table.specs.declared.table_row.TableRow.{TableRow}
use Rattle.sorted_table.specs.Lines.{row_in}
use Rattle.sorted_table.specs.Reading.{Gives}
use Rattle.sorted_table.specs.Starts.{is_before}
use Rattle.sorted_table.proofs.BlocksRead.{behind_block}
use Rattle.sorted_table.proofs.block.block_behind.Goals as goal

pub returns-clause-from : goal.returns-clause-from
returns-clause-from c = λ rows is.
    let P : Option (Option TableRow) → Type 0 = λ read. Gives (λ line. option_map row_in line) c.behind_at.result read in
    subst P (behind_block c.args.block.now (is_before c.args.start.now) rows c.in_ok-count.count c.in_ok-count.rest.now c.in_ok-count.ensures is) c.behind_at.ensures.from

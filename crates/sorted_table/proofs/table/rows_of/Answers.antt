use Rattle.std.proofs.Common.{◌≡◌, ◌≤◌, sym, Some, List, length, arith}
use Rattle.sorted_table.specs.declared.table_row.TableRow.{TableRow}
use Rattle.sorted_table.specs.Reading.{block_at}
use Rattle.sorted_table.specs.TableRows.{rows_spelling}
use Rattle.sorted_table.proofs.BlocksRead.{fewer_rows, block_found}
use Rattle.sorted_table.proofs.table.rows_of.Goals as goal

pub returns-clause-rows : goal.returns-clause-rows
returns-clause-rows c =
    let read : block_at c.args.block.now ≡ Some c.in-Some.rows.items = sym (rw c.in-Some.is at c.in_ok-rows.ensures.rows) in
    (block_found c.args.block.now c.in-Some.rows.items (λ i. omega (arith, c.type_inv.block i)) read).all

pub returns-clause-few : goal.returns-clause-few
returns-clause-few c =
    let read : block_at c.args.block.now ≡ Some c.in-Some.rows.items = sym (rw c.in-Some.is at c.in_ok-rows.ensures.rows) in
    let block = block_found c.args.block.now c.in-Some.rows.items (λ i. omega (arith, c.type_inv.block i)) read in
    omega (arith, block.size, fewer_rows c.in-Some.rows.items, c.requires)

use Rattle.std.proofs.Common.{arith}
use Rattle.sorted_table.proofs.BlocksRead.{block_parts}
use Rattle.sorted_table.proofs.block.block_rows.Goals as goal

pub overflow_sub-result : goal.overflow_sub-result
overflow_sub-result c =
    let second = rw c.in-Some-2.is at c.in_ok-rows.ensures in
    let parts = block_parts c.args.block.now c.in-Some.count c.in-Some.rest.now c.in-Some-2.rows.items c.in-Some-2.rest.now (λ i. omega (arith, c.type_inv.block i)) c.in-Some.ensures second in
    omega arith

pub returns-then-are_zeros-clause-size : goal.returns-then-are_zeros-clause-size
returns-then-are_zeros-clause-size c =
    let second = rw c.in-Some-2.is at c.in_ok-rows.ensures in
    let parts = block_parts c.args.block.now c.in-Some.count c.in-Some.rest.now c.in-Some-2.rows.items c.in-Some-2.rest.now (λ i. omega (arith, c.type_inv.block i)) c.in-Some.ensures second in
    omega arith

use Rattle.std.proofs.Common.{◌≡◌, ◌∙◌, sym, ap, Some, None, Option, List, arith}
use Rattle.sorted_table.specs.declared.table_row.TableRow.{TableRow}
use Rattle.sorted_table.specs.Checks.{IsSpelled}
use Rattle.sorted_table.specs.Reading.{block_at}
use Rattle.sorted_table.proofs.BlocksRead.{block_found}
use Rattle.sorted_table.proofs.Filling.{no_next, bad_next, good_block, still_none}
use Rattle.sorted_table.proofs.opening.next.Goals as goal

pub returns-in_default-2-clause-read : goal.returns-in_default-2-clause-read
returns-in_default-2-clause-read c = λ bytes is.
    let spelled : IsSpelled c.in-Some.checked bytes = rw c.in-Some.is at is in
    no_next c.in-Some.checked bytes c.args.block.now c.requires spelled (sym (rw c.in_default-2.is at c.in_ok-rows.ensures.rows))

pub returns-then-good-clause-read : goal.returns-then-good-clause-read
returns-then-good-clause-read c = λ bytes is.
    let spelled : IsSpelled c.in-Some.checked bytes = rw c.in-Some.is at is in
    let read : block_at c.args.block.now ≡ Some c.deref.result.now = sym (rw c.in-Some-2.is at c.in_ok-rows.ensures.rows) ∙ ap (λ (r : List TableRow). Some r) (sym c.deref.ensures.value) in
    let block = block_found c.args.block.now c.deref.result.now (λ i. omega (arith, c.type_inv.block i)) read in
    good_block c.in-Some.checked bytes c.args.block.now c.requires spelled c.push.new.self c.deref.result.now block.all (omega (arith, block.size, c.requires)) (block.bytes c.requires) (sym c.in_ok-good.ensures.good ∙ c.if-good.true)
    (c.in_ok-good.ensures.checked c.if-good.true spelled.blocks spelled.kept)

pub returns-else-good-clause-read : goal.returns-else-good-clause-read
returns-else-good-clause-read c = λ bytes is.
    let spelled : IsSpelled c.in-Some.checked bytes = rw c.in-Some.is at is in
    let read : block_at c.args.block.now ≡ Some c.deref.result.now = sym (rw c.in-Some-2.is at c.in_ok-rows.ensures.rows) ∙ ap (λ (r : List TableRow). Some r) (sym c.deref.ensures.value) in
    bad_next c.in-Some.checked bytes c.args.block.now c.requires spelled c.deref.result.now read (sym c.in_ok-good.ensures.good ∙ c.if-good.false)

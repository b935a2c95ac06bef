use Rattle.std.proofs.Common.{◌+◌, ◌++◌, ◌∷◌, [], List, sym, subst, arith}
use Rattle.sorted_table.specs.declared.table_row.TableRow.{TableRow}
use Rattle.sorted_table.specs.Lines.{row_in}
use Rattle.sorted_table.proofs.BlockLoops.{HasRead, read_none, read_more}
use Rattle.sorted_table.proofs.Rows.{row_reads}
use Rattle.sorted_table.proofs.block.rows_at.Goals as goal

pub loop-place-init : goal.loop-place-init
loop-place-init c =
    let P : List TableRow → Type 0 = λ rows. HasRead c.args.count c.args.bytes.now 0 rows c.args.bytes.now in
    subst P (sym c.new-rows.ensures.items) (read_none c.args.count c.args.bytes.now (λ i. omega (arith, c.type_inv.bytes i)))

pub copy-requires : goal.copy-requires
copy-requires c = (row_reads.found c.loop-place.rest.now (row_in c.in-Some.line) c.in-Some.after.now c.loop-place.invariant.fits c.in-Some.ensures).0.key.name

pub loop-place-preserved : goal.loop-place-preserved
loop-place-preserved c =
    let P : List TableRow → Type 0 = λ rows. HasRead c.args.count c.args.bytes.now (c.loop-place._place + 1) rows c.in-Some.after.now in
    let Q : TableRow → Type 0 = λ row. P (c.loop-place.rows.items ++ row ∷ []) in
    subst P (sym c.in_ok-push.ensures.items) (subst Q (sym c.in_ok-copy.ensures)
    (read_more c.args.count c.args.bytes.now c.loop-place._place c.loop-place.rows.items c.loop-place.rest.now (row_in c.in-Some.line) c.in-Some.after.now c.loop-place.invariant c.loop-place-test.true c.in-Some.ensures))

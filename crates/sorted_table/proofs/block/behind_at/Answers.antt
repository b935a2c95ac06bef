use Rattle.std.proofs.Common.{◌≡◌, ◌∙◌, sym, true, arith}
use Rattle.sorted_table.specs.Lines.{row_in, key_in}
use Rattle.sorted_table.specs.Starts.{is_before}
use Rattle.sorted_table.proofs.BlockLoops.{seek_none, seek_more}
use Rattle.sorted_table.proofs.Rows.{row_reads}
use Rattle.sorted_table.proofs.block.behind_at.Goals as goal

pub loop-place-preserved : goal.loop-place-preserved
loop-place-preserved c =
    let before : is_before c.args.start.now (key_in c.in_ok-line.line.key) ≡ true = sym c.has_line_before.ensures ∙ c.if-not-has_line_before.false in
    seek_more c.args.count (is_before c.args.start.now) c.args.bytes.now c.loop-place._place c.loop-place.rest.now (row_in c.in_ok-line.line) c.in_ok-line.after.now c.loop-place.invariant c.loop-place-test.true c.in_ok-line.ensures before

pub loop-place-init : goal.loop-place-init
loop-place-init c = seek_none c.args.count (is_before c.args.start.now) c.args.bytes.now (λ i. omega (arith, c.type_inv.bytes i))

pub returns-then-not-has_line_before-clause-named : goal.returns-then-not-has_line_before-clause-named
returns-then-not-has_line_before-clause-named c = (row_reads.found c.loop-place.rest.now (row_in c.in_ok-line.line) c.in_ok-line.after.now c.loop-place.invariant.fits c.in_ok-line.ensures).0.key.name

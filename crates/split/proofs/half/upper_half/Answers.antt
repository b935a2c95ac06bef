use Rattle.std.proofs.Common.{◌≡◌, ◌∙◌, sym, ap, ◌+◌, ◌-◌, ◌^◌, ◌<◌, suc, length, map, take, arith}
use Rattle.std.specs.FinMap as map
use Rattle.chains.specs.Reversed.{reversed, first_of, last_of}
use Rattle.chains.proofs.Reversals.{span_fits}
use Rattle.mds_base.specs.RowKeys.{is_in_page, row_of, page_of}
use Rattle.split.specs.Halves.{before_all, upper_rows}
use Rattle.split.proofs.Moving.{child_number, child_low, last_number, page_whole}
use Rattle.split.proofs.half.upper_half.Goals as goal

pub overflow_add-last : goal.overflow_add-last
overflow_add-last g c =
    let child : c.from.result ≡ c.args.part + 2 ^ c.args.depth = c.from.ensures ∙ child_number c.args.part c.args.depth c.requires.depth in
    let first : c.reverse-first.result ≡ first_of 64 (c.args.part + 2 ^ c.args.depth) = c.reverse-first.ensures ∙ ap (reversed 64) child in
    omega (
      arith,
      first,
      last_number c.reverse-first.result c.args.depth c.requires.depth,
      span_fits 64 (suc c.args.depth) (c.args.part + 2 ^ c.args.depth) (omega (arith, c.requires.depth)) (child_low c.args.part c.args.depth c.requires.part),
    )

pub returns-clause-upper : goal.returns-clause-upper
returns-clause-upper g c =
    let rows = g.R.Rows.contents c.args.rows.now in
    let dir = c.args.dir in
    let part = c.args.part in
    let depth = c.args.depth in
    let child : c.from.result ≡ part + 2 ^ depth = c.from.ensures ∙ child_number part depth c.requires.depth in
    let first : c.reverse-first.result ≡ first_of 64 (part + 2 ^ depth) = c.reverse-first.ensures ∙ ap (reversed 64) child in
    let last = last_number c.reverse-first.result depth c.requires.depth ∙ ap (λ n. n + (2 ^ (64 - suc depth) - 1)) first in
    let short : length c.in_ok-upper.upper < 2 ^ 32 - 1 = omega (arith, c.if-rows.false, ap length c.rows.ensures) in
    page_whole (2 ^ 32 - 1) c.in_ok-upper.upper (upper_rows rows dir part depth)
    (c.in_ok-upper.ensures.listed ∙ (λ i. page_of rows dir part (before_all (first i)) (last i) (2 ^ 32 - 1)))
    short

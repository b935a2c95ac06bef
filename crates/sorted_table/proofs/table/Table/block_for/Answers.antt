use Rattle.std.proofs.Common.{◌≡◌, ◌∙◌, ◌-◌, suc, ℕ, List, Some, sym, ap, subst, arith}
use Rattle.mds_base.specs.declared.row_key.RowKey.{RowKey}
use Rattle.sorted_table.specs.Tables.{TableState}
use Rattle.sorted_table.proofs.Looking.{Parts, get_none}
use Rattle.sorted_table.proofs.table.Table.block_for.Goals as goal

pub returns-then-upto-eq0-clause-none : goal.returns-then-upto-eq0-clause-none
returns-then-upto-eq0-clause-none c = λ rows bytes has.
    let table = c.args.self.now in
    let firsts : c.deref.result.now ≡ table.firsts = c.deref.ensures.value ∙ ap (λ (t : TableState). t.firsts) c.self.view_is in
    let P : List RowKey → Type 0 = λ f. Parts c.args.key.now f c.blocks_upto-upto.result in
    let Q : ℕ → Type 0 = λ n. Parts c.args.key.now table.firsts n in
    sym (get_none table c.args.key.now (Some bytes) rows (subst Q c.if-upto-eq0.true (subst P firsts c.blocks_upto-upto.ensures.point)) has)

pub returns-clause-some : goal.returns-clause-some
returns-clause-some c =
    let table = c.args.self.now in
    let upto = c.blocks_upto-upto.result in
    let firsts : c.deref.result.now ≡ table.firsts = c.deref.ensures.value ∙ ap (λ (t : TableState). t.firsts) c.self.view_is in
    let next : upto ≡ suc (upto - 1) = omega (arith, c.if-upto-eq0.false) in
    let P : List RowKey → Type 0 = λ f. Parts c.args.key.now f upto in
    let Q : ℕ → Type 0 = λ n. Parts c.args.key.now table.firsts n in
    subst Q next (subst P firsts c.blocks_upto-upto.ensures.point)

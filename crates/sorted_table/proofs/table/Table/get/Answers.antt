use Rattle.std.proofs.Common.{◌≡◌, ◌∙◌, ◌+◌, ◌-◌, ◌*◌, ◌≤◌, ◌<◌, suc, ℕ, List, length, take, drop, ap, subst, sym, refl, arith}
use Rattle.mds_base.specs.declared.row_key.RowKey.{RowKey}
use Rattle.mds_out.specs.Known.{OnTold}
use Rattle.sorted_table.specs.Tables.{TableState}
use Rattle.sorted_table.proofs.Looking.{Parts, told_at, get_none, get_held, get_answer}
use Rattle.sorted_table.proofs.table.Table.get.Goals as goal

pub returns-then-upto-eq0-clause-held : goal.returns-then-upto-eq0-clause-held
returns-then-upto-eq0-clause-held g c = λ rows has.
    let table = c.args.self.now in
    let firsts : c.deref.result.now ≡ table.firsts = c.deref.ensures.value ∙ ap (λ (t : TableState). t.firsts) c.self.view_is in
    let P : List RowKey → Type 0 = λ f. Parts c.args.key.now f c.blocks_upto-upto.result in
    let Q : ℕ → Type 0 = λ n. Parts c.args.key.now table.firsts n in
    get_none table c.args.key.now (g.D.Disk.seen c.args.disk.now table.file) rows (subst Q c.if-upto-eq0.true (subst P firsts c.blocks_upto-upto.ensures.point)) has

pub returns-clause-held : goal.returns-clause-held
returns-clause-held g c =
    let table = c.args.self.now in
    let upto = c.blocks_upto-upto.result in
    let firsts : c.deref.result.now ≡ table.firsts = c.deref.ensures.value ∙ ap (λ (t : TableState). t.firsts) c.self.view_is in
    let file : c.self.inside.file ≡ table.file = ap (λ (t : TableState). t.file) c.self.view_is in
    let next : upto ≡ suc (upto - 1) = omega (arith, c.if-upto-eq0.false) in
    let P : List RowKey → Type 0 = λ f. Parts c.args.key.now f upto in
    let Q : ℕ → Type 0 = λ n. Parts c.args.key.now table.firsts n in
    get_held table c.args.key.now (g.D.Disk.seen c.args.disk.now table.file) c.bytes.result.now (upto - 1) c.held_at.result (subst Q next (subst P firsts c.blocks_upto-upto.ensures.point)) (omega (arith, next, c.blocks_upto-upto.ensures.bound, ap length firsts))
    (told_at (g.D.Disk.seen c.args.disk.now) c.self.inside.file table.file c.read_block.new.frame.bytes c.bytes.result.now (λ bytes. take 4096 (drop (4096 * (upto - 1)) bytes)) file c.bytes.ensures.bytes c.in_ok-read_block.ensures.bytes)
    c.held_at.ensures.held

pub returns-clause-answer : goal.returns-clause-answer
returns-clause-answer g c =
    let table = c.args.self.now in
    let upto = c.blocks_upto-upto.result in
    let firsts : c.deref.result.now ≡ table.firsts = c.deref.ensures.value ∙ ap (λ (t : TableState). t.firsts) c.self.view_is in
    let file : c.self.inside.file ≡ table.file = ap (λ (t : TableState). t.file) c.self.view_is in
    let next : upto ≡ suc (upto - 1) = omega (arith, c.if-upto-eq0.false) in
    let P : List RowKey → Type 0 = λ f. Parts c.args.key.now f upto in
    let Q : ℕ → Type 0 = λ n. Parts c.args.key.now table.firsts n in
    get_answer table c.args.key.now (g.D.Disk.seen c.args.disk.now table.file) c.bytes.result.now (upto - 1) c.held_at.result (subst Q next (subst P firsts c.blocks_upto-upto.ensures.point)) (omega (arith, next, c.blocks_upto-upto.ensures.bound, ap length firsts))
    (told_at (g.D.Disk.seen c.args.disk.now) c.self.inside.file table.file c.read_block.new.frame.bytes c.bytes.result.now (λ bytes. take 4096 (drop (4096 * (upto - 1)) bytes)) file c.bytes.ensures.bytes c.in_ok-read_block.ensures.bytes)
    c.held_at.ensures.held c.requires.ready.told c.held_at.ensures.no_fault c.held_at.ensures.no_memory

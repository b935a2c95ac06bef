use Rattle.std.specs.Prelude.{MatchOption}
use Rattle.std.proofs.Common.{◌≡◌, ◌∙◌, ◌-◌, ◌*◌, suc, ℕ, List, Some, Ok, Err, length, take, drop, ap, subst, arith}
use Rattle.std.specs.List.{slice_get}
use Rattle.mds_base.specs.declared.row_key.RowKey.{RowKey}
use Rattle.sorted_table.specs.Tables.{TableState}
use Rattle.sorted_table.specs.Looks.{IsThis}
use Rattle.sorted_table.proofs.Looking.{told_at}
use Rattle.sorted_table.proofs.Seeking.{Parts, before_down, seek_first, seek_found, seek_damage, copy_plain}
use Rattle.sorted_table.specs.Starts.{is_before, place_of}
use Rattle.sorted_table.proofs.table.Table.seek_by.Goals as goal

pub returns-then-upto-eq0-clause-found : goal.returns-then-upto-eq0-clause-found
returns-then-upto-eq0-clause-found g c =
    let table = c.args.self.now in
    let firsts : c.as_slice-firsts.result.now ≡ table.firsts = c.as_slice-firsts.ensures.value ∙ ap (λ (t : TableState). t.firsts) c.self.view_is in
    let P : List RowKey → Type 0 = λ f. Parts (is_before c.args.start.now) f c.blocks_before-upto.result in
    let Q : ℕ → Type 0 = λ n. Parts (is_before c.args.start.now) table.firsts n in
    let R : List RowKey → Type 0 = λ f. IsThis (slice_get f 0) c.first_of.result in
    seek_first table (is_before c.args.start.now) (before_down (place_of c.args.start.now) c.args.start.now.past) (g.D.Disk.seen c.args.disk.now table.file) c.first_of.result (subst Q c.if-upto-eq0.true (subst P firsts c.blocks_before-upto.ensures.point)) (subst R firsts c.first_of.ensures.first)

pub returns-in-Ok-clause-found : goal.returns-in-Ok-clause-found
returns-in-Ok-clause-found g c =
    let table = c.args.self.now in
    let upto = c.blocks_before-upto.result in
    let firsts : c.as_slice-firsts.result.now ≡ table.firsts = c.as_slice-firsts.ensures.value ∙ ap (λ (t : TableState). t.firsts) c.self.view_is in
    let file : c.self.inside.file ≡ table.file = ap (λ (t : TableState). t.file) c.self.view_is in
    let next : upto ≡ suc (upto - 1) = omega (arith, c.if-upto-eq0.false) in
    let P : List RowKey → Type 0 = λ f. Parts (is_before c.args.start.now) f upto in
    let Q : ℕ → Type 0 = λ n. Parts (is_before c.args.start.now) table.firsts n in
    let R : List RowKey → Type 0 = λ f. MatchOption c.in-Ok.found (IsThis (slice_get f upto) c.found_or.result) (λ k. c.found_or.result ≡ Ok (Some k)) in
    let S : ℕ → Type 0 = λ n. MatchOption c.in-Ok.found (IsThis (slice_get table.firsts n) c.found_or.result) (λ k. c.found_or.result ≡ Ok (Some k)) in
    seek_found table (is_before c.args.start.now) (before_down (place_of c.args.start.now) c.args.start.now.past) (g.D.Disk.seen c.args.disk.now table.file) c.bytes.result.now (upto - 1) c.in-Ok.found c.found_or.result (subst Q next (subst P firsts c.blocks_before-upto.ensures.point)) (omega (arith, next, c.blocks_before-upto.ensures.bound, ap length firsts))
    (told_at (g.D.Disk.seen c.args.disk.now) c.self.inside.file table.file c.read_block.new.frame.bytes c.bytes.result.now (λ bytes. take 4096 (drop (4096 * (upto - 1)) bytes)) file c.bytes.ensures.bytes c.in_ok-read_block.ensures.bytes)
    c.in-Ok.ensures.found (subst S next (subst R firsts c.found_or.ensures.found))

pub returns-in-Ok-clause-answer : goal.returns-in-Ok-clause-answer
returns-in-Ok-clause-answer g c = copy_plain (g.D.Disk.seen c.args.disk.now c.args.self.now.file) c.found_or.result c.found_or.ensures.plain

pub returns-in-Err-clause-answer : goal.returns-in-Err-clause-answer
returns-in-Err-clause-answer g c =
    let table = c.args.self.now in
    let upto = c.blocks_before-upto.result in
    let firsts : c.as_slice-firsts.result.now ≡ table.firsts = c.as_slice-firsts.ensures.value ∙ ap (λ (t : TableState). t.firsts) c.self.view_is in
    let file : c.self.inside.file ≡ table.file = ap (λ (t : TableState). t.file) c.self.view_is in
    let next : upto ≡ suc (upto - 1) = omega (arith, c.if-upto-eq0.false) in
    let P : List RowKey → Type 0 = λ f. Parts (is_before c.args.start.now) f upto in
    let Q : ℕ → Type 0 = λ n. Parts (is_before c.args.start.now) table.firsts n in
    seek_damage table (is_before c.args.start.now) (before_down (place_of c.args.start.now) c.args.start.now.past) (g.D.Disk.seen c.args.disk.now table.file) c.bytes.result.now (upto - 1) (Err c.in-Err.fault) (subst Q next (subst P firsts c.blocks_before-upto.ensures.point)) (omega (arith, next, c.blocks_before-upto.ensures.bound, ap length firsts))
    (told_at (g.D.Disk.seen c.args.disk.now) c.self.inside.file table.file c.read_block.new.frame.bytes c.bytes.result.now (λ bytes. take 4096 (drop (4096 * (upto - 1)) bytes)) file c.bytes.ensures.bytes c.in_ok-read_block.ensures.bytes)
    c.in-Err.ensures.found c.requires.ready.told

use Rattle.std.proofs.Common.{◌≡◌, ◌∙◌, Bool, true, List, map, None, Some, Ok, Err, ap, subst, sym, refl, inl, arith, rules}
use Rattle.std.specs.Vec.{with_items}
use Rattle.std.proofs.lemmas.List.{with_items_is, places}
use Rattle.mds_base.specs.declared.row_key.RowKey.{RowKey}
use Rattle.sorted_table.specs.Blocks.{is_above}
use Rattle.merge_rows.specs.declared.merge.Merge.{Merge}
use Rattle.merge_rows.specs.Answers.{IsMergeAnswer}
use Rattle.merge_rows.specs.Cursors.{CursorState, least, cursor_rows, cursor_passed, weights, AllAlong, IsPlaced, HasNext}
use Rattle.merge_rows.specs.Steps.{IsPassed, IsPassAnswer}
use Rattle.merge_rows.proofs.Along.{least_row, none_lefts, weights_less}
use Rattle.merge_rows.proofs.Running.{quiet, writes_as, writes_reads, writes_on, writes_fail}
use Rattle.merge_rows.proofs.Stepping.{stay_unchanged, ready_unchanged, merging_read, merging_passed, answer_before, passed_answer, pass_answer_as}
use Rattle.merge_rows.proofs.merge.Merge.step.Goals as goal

pub returns-in_default-clause-merging : goal.returns-in_default-clause-merging
returns-in_default-clause-merging g c =
    let tables = c.args.tables.now in
    let old = c.args.self.now in
    let mid : Merge = record { builder = old.builder; cursors = with_items old.cursors c.fill_all.new.cursors; last = old.last } in
    let is : mid.cursors.items ≡ c.fill_all.new.cursors = with_items_is old.cursors c.fill_all.new.cursors (search (rules, places)) in
    merging_read tables old mid (g.D.Disk.seen c.args.disk.now) (g.D.Disk.seen c.fill_all.new.disk) (g.D.Disk.sizes c.args.disk.now) (g.D.Disk.sizes c.fill_all.new.disk) c.as_mut_slice.result.now c.fill_all.new.cursors refl refl is c.as_mut_slice.ensures.value c.in_ok-fill_all.ensures.placed c.in_ok-fill_all.ensures.lefts c.fill_all.ensures.reads.unchanged c.requires.merging

pub returns-in_default-clause-steps : goal.returns-in_default-clause-steps
returns-in_default-clause-steps g c =
    let tables = c.args.tables.now in
    let old = c.args.self.now in
    let mid : Merge = record { builder = old.builder; cursors = with_items old.cursors c.fill_all.new.cursors; last = old.last } in
    let is : mid.cursors.items ≡ c.fill_all.new.cursors = with_items_is old.cursors c.fill_all.new.cursors (search (rules, places)) in
    let A : List CursorState → Type 0 = λ cs. AllAlong HasNext cs tables in
    let next = subst A (sym is) c.in_ok-fill_all.ensures.next in
    let P : List CursorState → Type 0 = λ cs. least (map cursor_rows cs) ≡ None in
    let none = subst P c.deref.ensures.value (sym c.in_default.ensures) in
    record {
      file = refl;
      later = omega arith;
      most = omega arith;
      added = inl refl;
      less = λ never. absurd cc;
      none = λ _ blocks tell. none_lefts (g.D.Disk.seen c.args.disk.now) mid.cursors.items tables blocks next tell none;
    }

pub pass-requires-clause-attr : goal.pass-requires-clause-attr
pass-requires-clause-attr g c =
    let tables = c.args.tables.now in
    let old = c.args.self.now in
    let row = c.in-Some.row.now in
    let mid : Merge = record { builder = old.builder; cursors = with_items old.cursors c.fill_all.new.cursors; last = old.last } in
    let is : mid.cursors.items ≡ c.fill_all.new.cursors = with_items_is old.cursors c.fill_all.new.cursors (search (rules, places)) in
    let P : List CursorState → Type 0 = λ cs. least (map cursor_rows cs) ≡ Some row in
    let found = subst P c.deref.ensures.value (sym c.in-Some.ensures) in
    let A : List CursorState → Type 0 = λ cs. AllAlong IsPlaced cs tables in
    (least_row mid.cursors.items tables row (subst A (sym is) c.in_ok-fill_all.ensures.placed) found).attr

pub returns-in_err-pass-clause-writes : goal.returns-in_err-pass-clause-writes
returns-in_err-pass-clause-writes g c =
    let file = c.args.self.now.builder.file in
    let first = writes_as (Ok c.in_ok-fill_all.field-0) quiet file c.args.disk.now c.fill_all.new.disk tt (writes_reads (Ok c.in_ok-fill_all.field-0) file c.args.disk.now c.fill_all.new.disk c.in_ok-fill_all.ensures.reads) in
    writes_fail c.in_err-pass.field-0.0 file c.args.disk.now c.pass.new.disk
    (writes_on (Err c.in_err-pass.field-0.0) file c.args.disk.now c.fill_all.new.disk c.pass.new.disk (g.met.D.Disk.counts_now c.fill_all.new.disk) (g.met.D.Disk.lasts_on c.args.disk.now c.fill_all.new.disk c.pass.new.disk) (g.met.D.Disk.fails_after c.args.disk.now c.fill_all.new.disk c.pass.new.disk) first c.in_err-pass.ensures.writes)
    c.from_residual-in_err-pass.result (search rules)

pub returns-in_err-pass-clause-answer : goal.returns-in_err-pass-clause-answer
returns-in_err-pass-clause-answer g c =
    let tables = c.args.tables.now in
    let old = c.args.self.now in
    let row = c.in-Some.row.now in
    let seen = g.D.Disk.seen c.args.disk.now in
    let seen' = g.D.Disk.seen c.fill_all.new.disk in
    let fault = c.in_err-pass.field-0.0 in
    let mid : Merge = record { builder = old.builder; cursors = with_items old.cursors c.fill_all.new.cursors; last = old.last } in
    let is : mid.cursors.items ≡ c.fill_all.new.cursors = with_items_is old.cursors c.fill_all.new.cursors (search (rules, places)) in
    let A : List CursorState → Type 0 = λ cs. AllAlong HasNext cs tables in
    let next = subst A (sym is) c.in_ok-fill_all.ensures.next in
    let P : List CursorState → Type 0 = λ cs. least (map cursor_rows cs) ≡ Some row in
    let found = subst P c.deref.ensures.value (sym c.in-Some.ensures) in
    let unchanged = c.fill_all.ensures.reads.unchanged in
    let filled = merging_read tables old mid (g.D.Disk.seen c.args.disk.now) (g.D.Disk.seen c.fill_all.new.disk) (g.D.Disk.sizes c.args.disk.now) (g.D.Disk.sizes c.fill_all.new.disk) c.as_mut_slice.result.now c.fill_all.new.cursors refl refl is c.as_mut_slice.ensures.value c.in_ok-fill_all.ensures.placed c.in_ok-fill_all.ensures.lefts c.fill_all.ensures.reads.unchanged c.requires.merging in
    let Q : RowKey → Type 0 = λ key. IsPassAnswer {T = Bool} (is_above old.last key) (Err fault) in
    let here = passed_answer {T = Bool} tables mid row seen' (g.D.Disk.sizes c.fill_all.new.disk) (Err fault) (ready_unchanged tables seen seen' (g.D.Disk.sizes c.args.disk.now) (g.D.Disk.sizes c.fill_all.new.disk) unchanged c.requires.ready) filled next found
    (subst Q c.in_ok-key.ensures (pass_answer_as Bool Bool (is_above old.last c.in_ok-key.key) fault c.in_err-pass.ensures.answer)) in
    let given : c.from_residual-in_err-pass.result ≡ Err fault = search rules in
    subst (IsMergeAnswer tables seen) (sym given) (answer_before {T = Bool} tables seen seen' (Err fault) (stay_unchanged tables seen seen' unchanged.bytes) here)

pub returns-clause-merging : goal.returns-clause-merging
returns-clause-merging g c =
    let tables = c.args.tables.now in
    let old = c.args.self.now in
    let row = c.in-Some.row.now in
    let seen' = g.D.Disk.seen c.fill_all.new.disk in
    let seen'' = g.D.Disk.seen c.pass.new.disk in
    let mid : Merge = record { builder = old.builder; cursors = with_items old.cursors c.fill_all.new.cursors; last = old.last } in
    let is : mid.cursors.items ≡ c.fill_all.new.cursors = with_items_is old.cursors c.fill_all.new.cursors (search (rules, places)) in
    let A : List CursorState → Type 0 = λ cs. AllAlong HasNext cs tables in
    let next = subst A (sym is) c.in_ok-fill_all.ensures.next in
    let P : List CursorState → Type 0 = λ cs. least (map cursor_rows cs) ≡ Some row in
    let found = subst P c.deref.ensures.value (sym c.in-Some.ensures) in
    let filled = merging_read tables old mid (g.D.Disk.seen c.args.disk.now) (g.D.Disk.seen c.fill_all.new.disk) (g.D.Disk.sizes c.args.disk.now) (g.D.Disk.sizes c.fill_all.new.disk) c.as_mut_slice.result.now c.fill_all.new.cursors refl refl is c.as_mut_slice.ensures.value c.in_ok-fill_all.ensures.placed c.in_ok-fill_all.ensures.lefts c.fill_all.ensures.reads.unchanged c.requires.merging in
    let Q : RowKey → Type 0 = λ key. IsPassed mid c.pass.new.self key row.attr (seen' old.builder.file) (seen'' old.builder.file) in
    merging_passed tables mid c.pass.new.self row seen' seen'' (g.D.Disk.sizes c.fill_all.new.disk) (g.D.Disk.sizes c.pass.new.disk) filled next found
    (subst Q c.in_ok-key.ensures c.in_ok-pass.ensures.passed) c.in_ok-pass.ensures.growing c.pass.ensures.writes.elsewhere

pub returns-clause-steps : goal.returns-clause-steps
returns-clause-steps g c =
    let tables = c.args.tables.now in
    let old = c.args.self.now in
    let row = c.in-Some.row.now in
    let passed = c.in_ok-pass.ensures.passed in
    let mid : Merge = record { builder = old.builder; cursors = with_items old.cursors c.fill_all.new.cursors; last = old.last } in
    let is : mid.cursors.items ≡ c.fill_all.new.cursors = with_items_is old.cursors c.fill_all.new.cursors (search (rules, places)) in
    let P : List CursorState → Type 0 = λ cs. least (map cursor_rows cs) ≡ Some row in
    let found = subst P c.deref.ensures.value (sym c.in-Some.ensures) in
    let A : List CursorState → Type 0 = λ cs. AllAlong IsPlaced cs tables in
    let fewer = weights_less mid.cursors.items tables row (subst A (sym is) c.in_ok-fill_all.ensures.placed) found in
    let now : weights c.pass.new.self.cursors.items tables ≡ weights (map (cursor_passed row.key) mid.cursors.items) tables =
    ap (λ (cs : List CursorState). weights cs tables) passed.cursors ∙ ap (λ (key : RowKey). weights (map (cursor_passed key) mid.cursors.items) tables) c.in_ok-key.ensures in
    let between : weights mid.cursors.items tables ≡ weights c.fill_all.new.cursors tables = ap (λ (cs : List CursorState). weights cs tables) is in
    let before : weights c.as_mut_slice.result.now tables ≡ weights old.cursors.items tables = ap (λ (cs : List CursorState). weights cs tables) c.as_mut_slice.ensures.value in
    record {
      file = passed.put.file;
      later = passed.put.later;
      most = passed.put.most;
      added = passed.put.some;
      less = λ _. omega (arith, fewer, now, between, before, c.in_ok-fill_all.ensures.weight);
      none = λ never. absurd cc;
    }

pub returns-clause-writes : goal.returns-clause-writes
returns-clause-writes g c =
    let file = c.args.self.now.builder.file in
    let first = writes_as (Ok c.in_ok-fill_all.field-0) quiet file c.args.disk.now c.fill_all.new.disk tt (writes_reads (Ok c.in_ok-fill_all.field-0) file c.args.disk.now c.fill_all.new.disk c.in_ok-fill_all.ensures.reads) in
    writes_as (Ok c.in_ok-pass.field-0) (Ok true) file c.args.disk.now c.pass.new.disk tt
    (writes_on (Ok c.in_ok-pass.field-0) file c.args.disk.now c.fill_all.new.disk c.pass.new.disk (g.met.D.Disk.counts_now c.fill_all.new.disk) (g.met.D.Disk.lasts_on c.args.disk.now c.fill_all.new.disk c.pass.new.disk) (g.met.D.Disk.fails_after c.args.disk.now c.fill_all.new.disk c.pass.new.disk) first c.in_ok-pass.ensures.writes)

use Rattle.std.proofs.Common.{◌≡◌, ◌∙◌, ◌<◌, ℕ, Bool, List, Ok, Err, ⊎_elim, inl, inr, ap, subst, sym, arith, rules}
use Rattle.sorted_table.specs.declared.builder.Builder.{Builder}
use Rattle.sorted_table.specs.declared.table_row.TableRow.{TableRow}
use Rattle.sorted_table.specs.Building.{IsBuilt}
use Rattle.sorted_table.specs.Tables.{IsReady, HasRows, HoldsRows}
use Rattle.merge_rows.specs.declared.merge.Turn.{Turn}
use Rattle.merge_rows.specs.Answers.{IsMergeAnswer}
use Rattle.merge_rows.specs.Runs.{WritesOnly}
use Rattle.merge_rows.specs.Telling.{AllTell}
use Rattle.merge_rows.specs.Turns.{HoldsMerged}
use Rattle.merge_rows.proofs.Running.{quiet, writes_as, writes_on, writes_fail}
use Rattle.merge_rows.proofs.Stepping.{stay_apart, ready_apart, readable_apart, answer_before, merge_answer_as}
use Rattle.merge_rows.proofs.Turning.{if_finished, merged_rows}
use Rattle.merge_rows.proofs.merge.Merge.turn.Goals as goal

pub returns-in_err-some-clause-writes : goal.returns-in_err-some-clause-writes
returns-in_err-some-clause-writes g c =
    let file = c.args.self.builder.file in
    let fault = c.in_err-some.field-0.0 in
    let P : ℕ → Type 0 = λ f. WritesOnly {T = Bool} g.D.Disk.seen g.D.Disk.sizes g.D.Disk.images g.D.Disk.moment g.D.Disk.images_since g.D.Disk.faults g.D.Disk.lasts g.D.Disk.fails f c.rows.disk c.step.new.disk (Err fault) in
    writes_fail fault file c.args.disk.now c.step.new.disk
    (writes_on (Err fault) file c.args.disk.now c.rows.disk c.step.new.disk (g.met.D.Disk.counts_now c.rows.disk) (g.met.D.Disk.lasts_on c.args.disk.now c.rows.disk c.step.new.disk) (g.met.D.Disk.fails_after c.args.disk.now c.rows.disk c.step.new.disk) c.rows.invariant.writes (subst P c.rows.invariant.file c.in_err-some.ensures.writes))
    c.from_residual.result (search rules)

pub returns-in_err-some-clause-answer : goal.returns-in_err-some-clause-answer
returns-in_err-some-clause-answer g c =
    let tables = c.args.tables.now in
    let seen = g.D.Disk.seen c.args.disk.now in
    let seen' = g.D.Disk.seen c.rows.disk in
    let fault = c.in_err-some.field-0.0 in
    let given : c.from_residual.result ≡ Err fault = search rules in
    subst (IsMergeAnswer tables seen) (sym given)
    (answer_before {T = Turn} tables seen seen' (Err fault) (stay_apart tables c.args.self.builder.file seen seen' c.requires.merging.apart c.rows.invariant.writes.elsewhere.bytes) (merge_answer_as Bool Turn tables seen' fault c.in_err-some.ensures.answer))

pub returns-then-not-some-clause-rows : goal.returns-then-not-some-clause-rows
returns-then-not-some-clause-rows g c =
    let tables = c.args.tables.now in
    let seen = g.D.Disk.seen c.args.disk.now in
    let seen' = g.D.Disk.seen c.rows.disk in
    let seen'' = g.D.Disk.seen c.step.new.disk in
    let merge = c.step.new.self in
    let merging = c.in_ok-some.ensures.merging in
    let stay = stay_apart tables c.args.self.builder.file seen seen' c.requires.merging.apart c.rows.invariant.writes.elsewhere.bytes in
    let stay' = stay_apart tables c.rows.self.builder.file seen' seen'' c.rows.invariant.merging.apart c.step.ensures.writes.elsewhere.bytes in
    let none = c.in_ok-some.ensures.steps.none c.if-not-some.true in
    if_finished c.end.result
    (λ table. (rows : List TableRow) → IsBuilt merge.builder rows (seen'' merge.builder.file) → HoldsRows table (g.D.Disk.seen c.end.new.disk) rows)
    (λ table. (lists : List (List TableRow)) → AllTell HasRows tables seen lists → HoldsMerged table (g.D.Disk.seen c.end.new.disk) lists)
    (λ table given lists tell. record { rows = merging.done; are = merged_rows tables merge seen seen' seen'' (g.D.Disk.sizes c.step.new.disk) stay stay' merging none lists tell; holds = given merging.done merging.built })
    c.end.ensures.rows

pub returns-then-not-some-clause-ready : goal.returns-then-not-some-clause-ready
returns-then-not-some-clause-ready g c =
    let merge = c.step.new.self in
    let merging = c.in_ok-some.ensures.merging in
    if_finished c.end.result
    (λ table. (rows : List TableRow) → IsBuilt merge.builder rows (g.D.Disk.seen c.step.new.disk merge.builder.file) → IsReady table (g.D.Disk.seen c.end.new.disk) (g.D.Disk.sizes c.end.new.disk))
    (λ table. IsReady table (g.D.Disk.seen c.end.new.disk) (g.D.Disk.sizes c.end.new.disk))
    (λ table given. given merging.done merging.built)
    c.end.ensures.ready

pub returns-then-not-some-clause-writes : goal.returns-then-not-some-clause-writes
returns-then-not-some-clause-writes g c =
    let file = c.args.self.builder.file in
    let P : ℕ → Type 0 = λ f. WritesOnly {T = Bool} g.D.Disk.seen g.D.Disk.sizes g.D.Disk.images g.D.Disk.moment g.D.Disk.images_since g.D.Disk.faults g.D.Disk.lasts g.D.Disk.fails f c.rows.disk c.step.new.disk (Ok c.in_ok-some.some) in
    let Q : ℕ → Type 0 = λ f. WritesOnly g.D.Disk.seen g.D.Disk.sizes g.D.Disk.images g.D.Disk.moment g.D.Disk.images_since g.D.Disk.faults g.D.Disk.lasts g.D.Disk.fails f c.step.new.disk c.end.new.disk c.end.result in
    let step = writes_as (Ok c.in_ok-some.some) quiet file c.rows.disk c.step.new.disk tt (subst P c.rows.invariant.file c.in_ok-some.ensures.writes) in
    let far = writes_on quiet file c.args.disk.now c.rows.disk c.step.new.disk (g.met.D.Disk.counts_now c.rows.disk) (g.met.D.Disk.lasts_on c.args.disk.now c.rows.disk c.step.new.disk) (g.met.D.Disk.fails_after c.args.disk.now c.rows.disk c.step.new.disk) c.rows.invariant.writes step in
    writes_on c.end.result file c.args.disk.now c.step.new.disk c.end.new.disk (g.met.D.Disk.counts_now c.step.new.disk) (g.met.D.Disk.lasts_on c.args.disk.now c.step.new.disk c.end.new.disk) (g.met.D.Disk.fails_after c.args.disk.now c.step.new.disk c.end.new.disk) far
    (subst Q (c.in_ok-some.ensures.steps.file ∙ c.rows.invariant.file) c.end.ensures.writes)

pub rows-preserved : goal.rows-preserved
rows-preserved g c =
    let file = c.args.self.builder.file in
    let tables = c.args.tables.now in
    let before = c.rows.invariant in
    let steps = c.in_ok-some.ensures.steps in
    let P : ℕ → Type 0 = λ f. WritesOnly {T = Bool} g.D.Disk.seen g.D.Disk.sizes g.D.Disk.images g.D.Disk.moment g.D.Disk.images_since g.D.Disk.faults g.D.Disk.lasts g.D.Disk.fails f c.rows.disk c.step.new.disk (Ok c.in_ok-some.some) in
    let step = writes_as (Ok c.in_ok-some.some) quiet file c.rows.disk c.step.new.disk tt (subst P before.file c.in_ok-some.ensures.writes) in
    record {
      file = steps.file ∙ before.file;
      begun = before.begun;
      later = omega (arith, steps.later, before.later);
      most = omega (arith, steps.most, before.later, c.rows-test.true, c.written.ensures);
      added = ⊎_elim (λ (same : c.step.new.self.builder ≡ c.rows.self.builder). ⊎_elim (λ none. inl (ap (λ (b : Builder). b.written) same ∙ none)) (λ some. inr (subst (λ (b : Builder). 0 < b.count) (sym same) some)) before.added) (λ some. inr some) steps.added;
      ready = ready_apart tables c.rows.self.builder.file (g.D.Disk.seen c.rows.disk) (g.D.Disk.seen c.step.new.disk) (g.D.Disk.sizes c.rows.disk) (g.D.Disk.sizes c.step.new.disk) before.merging.apart c.step.ensures.writes.elsewhere before.ready;
      merging = c.in_ok-some.ensures.merging;
      number = c.in_ok-some.ensures.frame ∙ before.number;
      writes = writes_on quiet file c.args.disk.now c.rows.disk c.step.new.disk (g.met.D.Disk.counts_now c.rows.disk) (g.met.D.Disk.lasts_on c.args.disk.now c.rows.disk c.step.new.disk) (g.met.D.Disk.fails_after c.args.disk.now c.rows.disk c.step.new.disk) before.writes step;
    }

pub returns-in_err-some-clause-tables : goal.returns-in_err-some-clause-tables
returns-in_err-some-clause-tables g c =
    ready_apart c.args.tables.now c.args.self.builder.file (g.D.Disk.seen c.args.disk.now) (g.D.Disk.seen c.step.new.disk) (g.D.Disk.sizes c.args.disk.now) (g.D.Disk.sizes c.step.new.disk) c.requires.merging.apart (returns-in_err-some-clause-writes g c).elsewhere c.requires.ready

pub returns-in_err-some-clause-readable : goal.returns-in_err-some-clause-readable
returns-in_err-some-clause-readable g c =
    readable_apart g.D.Disk.moment g.D.Disk.images_since c.args.disk.now c.step.new.disk (g.D.Disk.seen c.args.disk.now) (g.D.Disk.images c.args.disk.now) c.args.tables.now c.args.self.builder.file c.requires.merging.apart (returns-in_err-some-clause-writes g c).any_moment

pub returns-then-not-some-clause-tables : goal.returns-then-not-some-clause-tables
returns-then-not-some-clause-tables g c =
    ready_apart c.args.tables.now c.args.self.builder.file (g.D.Disk.seen c.args.disk.now) (g.D.Disk.seen c.end.new.disk) (g.D.Disk.sizes c.args.disk.now) (g.D.Disk.sizes c.end.new.disk) c.requires.merging.apart (returns-then-not-some-clause-writes g c).elsewhere c.requires.ready

pub returns-then-not-some-clause-readable : goal.returns-then-not-some-clause-readable
returns-then-not-some-clause-readable g c =
    readable_apart g.D.Disk.moment g.D.Disk.images_since c.args.disk.now c.end.new.disk (g.D.Disk.seen c.args.disk.now) (g.D.Disk.images c.args.disk.now) c.args.tables.now c.args.self.builder.file c.requires.merging.apart (returns-then-not-some-clause-writes g c).any_moment

pub returns-clause-readable : goal.returns-clause-readable
returns-clause-readable g c =
    readable_apart g.D.Disk.moment g.D.Disk.images_since c.args.disk.now c.rows.disk (g.D.Disk.seen c.args.disk.now) (g.D.Disk.images c.args.disk.now) c.args.tables.now c.args.self.builder.file c.requires.merging.apart c.rows.invariant.writes.any_moment

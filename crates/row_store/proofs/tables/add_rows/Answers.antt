use Rattle.std.specs.Bool.{⊤}
use Rattle.std.proofs.Common.{◌≡◌, ◌∙◌, ◌++◌, ◌∷◌, [], ℕ, List, length, Ok, Err, ap, subst, refl, rules, arith}
use Rattle.std.specs.Map.Iter.{deref_pair}
use Rattle.std.proofs.lemmas.Map.Iter.{rest_all, rest_more}
use Rattle.merge_rows.proofs.Running.{quiet, writes_none, writes_as, writes_on, writes_fail}
use Rattle.merge_rows.specs.Runs.{WritesOnly}
use Rattle.row_store.proofs.Adding.{adding_none, adding_more, adding_all, next_marked}
use Rattle.sorted_table.specs.Building.{IsBuilt, AllBelow}
use Rattle.sorted_table.specs.declared.table_row.TableRow.{TableRow}
use Rattle.row_store.proofs.tables.add_rows.Goals as goal

pub loop-key-init : goal.loop-key-init
loop-key-init g c =
    let same : c.into_iter-key-iterator.result ≡ c.args.fresh.now.entries = search rules in
    record {
      file = refl;
      ordered = search rules;
      adding = adding_none c.args.fresh.now.entries _ c.args.builder.now (g.D.Disk.seen c.args.disk.now c.args.builder.now.file) (search rules);
      growing = c.requires.growing;
      asked = omega (arith, ap length same);
      writes = writes_none c.args.builder.now.file c.args.disk.now (g.met.D.Disk.only_now c.args.disk.now) (g.met.D.Disk.lasts_here c.args.disk.now);
    }

pub add_row-requires-clause-attr : goal.add_row-requires-clause-attr
add_row-requires-clause-attr g c =
    let file = c.args.builder.now.file in
    next_marked c.args.fresh.now c.loop-key.key-iterator c.next.new.self (c.in-Some.key.now, c.in-Some.attr.now) c.args.builder.now c.loop-key.builder (g.D.Disk.seen c.args.disk.now file) (g.D.Disk.seen c.loop-key.disk file) c.loop-key.invariant.adding
    (rest_more deref_pair c.loop-key.key-iterator c.next.new.self c.next.result (c.in-Some.key, c.in-Some.attr) c.in-Some.is c.next.ensures.steps) c.loop-key.invariant.ordered c.requires.marked

pub loop-key-preserved : goal.loop-key-preserved
loop-key-preserved g c =
    let file = c.args.builder.now.file in
    let before = c.loop-key.invariant in
    let next = rest_more deref_pair c.loop-key.key-iterator c.next.new.self c.next.result (c.in-Some.key, c.in-Some.attr) c.in-Some.is c.next.ensures.steps in
    let row : TableRow = record { key = c.in-Some.key.now; attr = c.in-Some.attr.now } in
    let P : ℕ → Type 0 = λ f. WritesOnly {T = ⊤} g.D.Disk.seen g.D.Disk.sizes g.D.Disk.images g.D.Disk.moment g.D.Disk.images_since g.D.Disk.faults g.D.Disk.lasts g.D.Disk.fails f c.loop-key.disk c.add_row.new.disk (Ok c.in_ok-add_row.field-0) in
    let B : ℕ → Type 0 = λ f. (rows : List TableRow) → IsBuilt c.loop-key.builder rows (g.D.Disk.seen c.loop-key.disk f) → AllBelow rows c.in-Some.key.now → IsBuilt c.add_row.new.builder (rows ++ row ∷ []) (g.D.Disk.seen c.add_row.new.disk f) in
    let step = writes_as (Ok c.in_ok-add_row.field-0) quiet file c.loop-key.disk c.add_row.new.disk tt (subst P before.file c.in_ok-add_row.ensures.writes) in
    record {
      file = c.add_row.ensures.file ∙ before.file;
      ordered = before.ordered;
      adding = adding_more c.args.fresh.now.entries c.loop-key.key-iterator c.next.new.self (c.in-Some.key.now, c.in-Some.attr.now) c.args.builder.now c.loop-key.builder c.add_row.new.builder
          (g.D.Disk.seen c.args.disk.now file) (g.D.Disk.seen c.loop-key.disk file) (g.D.Disk.seen c.add_row.new.disk file) before.adding next before.ordered (subst B before.file c.in_ok-add_row.ensures.built);
      growing = c.in_ok-add_row.ensures.growing;
      asked = omega (arith, before.asked, ap length next, c.add_row.ensures.asked);
      writes = writes_on quiet file c.args.disk.now c.loop-key.disk c.add_row.new.disk (g.met.D.Disk.counts_now c.loop-key.disk) (g.met.D.Disk.lasts_on c.args.disk.now c.loop-key.disk c.add_row.new.disk) (g.met.D.Disk.fails_after c.args.disk.now c.loop-key.disk c.add_row.new.disk) before.writes step;
    }

pub returns-in_err-add_row-clause-writes : goal.returns-in_err-add_row-clause-writes
returns-in_err-add_row-clause-writes g c =
    let file = c.args.builder.now.file in
    let fault = c.in_err-add_row.field-0.0 in
    let P : ℕ → Type 0 = λ f. WritesOnly {T = ⊤} g.D.Disk.seen g.D.Disk.sizes g.D.Disk.images g.D.Disk.moment g.D.Disk.images_since g.D.Disk.faults g.D.Disk.lasts g.D.Disk.fails f c.loop-key.disk c.add_row.new.disk (Err fault) in
    writes_fail fault file c.args.disk.now c.add_row.new.disk
    (writes_on (Err fault) file c.args.disk.now c.loop-key.disk c.add_row.new.disk (g.met.D.Disk.counts_now c.loop-key.disk) (g.met.D.Disk.lasts_on c.args.disk.now c.loop-key.disk c.add_row.new.disk) (g.met.D.Disk.fails_after c.args.disk.now c.loop-key.disk c.add_row.new.disk) c.loop-key.invariant.writes (subst P c.loop-key.invariant.file c.in_err-add_row.ensures.writes))
    c.from_residual.result (search rules)

pub returns-clause-built : goal.returns-clause-built
returns-clause-built g c =
    let file = c.args.builder.now.file in
    adding_all c.args.fresh.now.entries c.loop-key.key-iterator c.args.builder.now c.loop-key.builder (g.D.Disk.seen c.args.disk.now file) (g.D.Disk.seen c.loop-key.disk file) c.loop-key.invariant.adding
    (rest_all deref_pair c.loop-key.key-iterator _ c.next.result c.in-None.is c.next.ensures.steps)

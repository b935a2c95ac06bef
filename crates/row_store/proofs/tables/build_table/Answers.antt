use Rattle.std.specs.Bool.{⊤}
use Rattle.std.proofs.Common.{◌∙◌, ℕ, Ok, subst}
use Rattle.merge_rows.proofs.Running.{quiet, writes_as, writes_on}
use Rattle.merge_rows.specs.Runs.{WritesOnly}
use Rattle.row_store.proofs.tables.build_table.Goals as goal

pub returns-clause-writes : goal.returns-clause-writes
returns-clause-writes g c =
    let file = c.args.file in
    let mid = c.add_rows.new.disk in
    let P : ℕ → Type 0 = λ f. WritesOnly {T = ⊤} g.D.Disk.seen g.D.Disk.sizes g.D.Disk.images g.D.Disk.moment g.D.Disk.images_since g.D.Disk.faults g.D.Disk.lasts g.D.Disk.fails f c.args.disk.now c.add_rows.new.disk (Ok c.in_ok-add_rows.field-0) in
    let Q : ℕ → Type 0 = λ f. WritesOnly g.D.Disk.seen g.D.Disk.sizes g.D.Disk.images g.D.Disk.moment g.D.Disk.images_since g.D.Disk.faults g.D.Disk.lasts g.D.Disk.fails f c.add_rows.new.disk c.finish.new.disk c.finish.result in
    let first = writes_as (Ok c.in_ok-add_rows.field-0) quiet file c.args.disk.now mid tt (subst P c.in_ok-builder.ensures.file c.in_ok-add_rows.ensures.writes) in
    let second : Q c.add_rows.new.builder.file = record {
      elsewhere = c.finish.ensures.elsewhere;
      told = c.finish.ensures.stays_told;
      any_moment = c.finish.ensures.any_moment;
      cause = c.finish.ensures.cause;
      lasts = c.finish.ensures.lasts;
      failed = c.finish.ensures.failed;
    } in
    writes_on c.finish.result file c.args.disk.now mid c.finish.new.disk (g.met.D.Disk.counts_now mid) (g.met.D.Disk.lasts_on c.args.disk.now mid c.finish.new.disk) (g.met.D.Disk.fails_after c.args.disk.now mid c.finish.new.disk) first
    (subst Q (c.add_rows.ensures.file ∙ c.in_ok-builder.ensures.file) second)

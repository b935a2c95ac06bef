use Rattle.std.specs.Prelude.{IfOk}
use Rattle.std.proofs.Common.{◌≡◌, ◌∙◌, ap, subst, Option}
use Rattle.mds_base.specs.declared.row_key.RowKey.{RowKey}
use Rattle.row_store.specs.Rows.{rows_of}
use Rattle.row_store.proofs.SaidBehind.{Entries, first_of, from_floor, rises_of, whole, on_ok}
use Rattle.sorted_table.specs.Starts.{is_before}
use Rattle.sorted_table.specs.TableRows.{Rises}
use Rattle.row_store.proofs.behind.said_from.Goals as goal

pub returns-in-None-clause-found : goal.returns-in-None-clause-found
returns-in-None-clause-found c =
    let P : Entries → Type 0 = λ es. IfOk c.first_behind.result (λ found. found ≡ first_of (is_before c.args.start.now) es) in
    subst P (c.range.ensures.between tt ∙ whole c.args.fresh.now.entries) c.first_behind.ensures

pub returns-in-None-clause-rise : goal.returns-in-None-clause-rise
returns-in-None-clause-rise c = on_ok c.first_behind.result (Rises (rows_of c.args.fresh.now.entries)) (rises_of c.args.fresh.now.entries c.range.ensures.ordered)

pub returns-in-Some-clause-found : goal.returns-in-Some-clause-found
returns-in-Some-clause-found c =
    let before = is_before c.args.start.now in
    let below = rw c.in-Some.is at c.in_ok-floor.ensures in
    let P : Option RowKey → Type 0 = λ key. IfOk c.first_behind-in-Some.result (λ found. found ≡ key) in
    subst P (ap (first_of (is_before c.args.start.now)) (c.range-in-Some.ensures.between tt) ∙ from_floor (is_before c.args.start.now) c.in-Some.floor c.args.fresh.now.entries below) c.first_behind-in-Some.ensures

pub returns-in-Some-clause-rise : goal.returns-in-Some-clause-rise
returns-in-Some-clause-rise c = on_ok c.first_behind-in-Some.result (Rises (rows_of c.args.fresh.now.entries)) (rises_of c.args.fresh.now.entries c.range-in-Some.ensures.ordered)

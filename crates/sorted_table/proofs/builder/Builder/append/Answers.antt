use Rattle.std.proofs.Common.{◌≡◌, ◌∙◌, ◌++◌, ap, Bor, rules}
use Rattle.std.specs.Option.{option_map}
use Rattle.mds_base.specs.declared.attr.Attr.{Attr}
use Rattle.sorted_table.specs.declared.builder.Builder.{Builder}
use Rattle.sorted_table.specs.declared.table_row.TableRow.{TableRow}
use Rattle.sorted_table.specs.TableRows.{row_spelling}
use Rattle.sorted_table.proofs.Builds.{row_added}
use Rattle.sorted_table.proofs.builder.Builder.append.Goals as goal

pub returns-clause-built : goal.returns-clause-built
returns-clause-built c = λ rows seen room below.
    let row : TableRow = record { key = c.args.key.now; attr = option_map (λ (a : Bor Attr). a.now) c.args.attr } in
    let others = c.in_ok-keep_first.ensures.others in
    row_added c.args.self.now _ row rows seen room below (record { key = c.in_ok-put_row.ensures.key; attr = c.requires })
    c.in_ok-keep_first.ensures.first (λ some. ap (λ v. v.items) (c.in_ok-keep_first.ensures.later some))
    (c.in_ok-put_row.ensures.put ∙ ap (λ (b : Builder). b.rows.items ++ row_spelling row) others)
    (search rules) (ap (λ (b : Builder). b.written) others) (search rules) (ap (λ (b : Builder). b.sum) others)

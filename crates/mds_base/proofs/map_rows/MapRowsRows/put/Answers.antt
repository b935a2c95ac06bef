use Rattle.std.proofs.Common.{◌∙◌, sym, ap, subst, IsSome}
use Rattle.std.specs.FinMap as map
use Rattle.mds_base.proofs.Maps.{get_entries, one_put}
use Rattle.mds_base.proofs.RowMaps.{row_keys_total, exact_row_keys, named_insert}
use Rattle.mds_base.proofs.map_rows.MapRowsRows.put.Goals as goal

pub returns-in_err-insert-clause-no_memory : goal.returns-in_err-insert-clause-no_memory
returns-in_err-insert-clause-no_memory c = λ some.
    let none = ap (λ m. map.get m c.args.key) (sym c.self.view_is) ∙ get_entries row_keys_total exact_row_keys c.self.inside.rows.entries c.args.key ∙ c.in_err-insert.ensures.absent in
    let missing = subst IsSome none some in cc

pub invariant_of-self-2 : goal.invariant_of-self-2
invariant_of-self-2 c = rw c.in_ok-insert.ensures.entries (named_insert c.self.inside.rows.entries c.args.key c.args.attr c.bytes-name.ensures.is_name c.self.invariant)

pub returns-clause-ok : goal.returns-clause-ok
returns-clause-ok c = one_put row_keys_total exact_row_keys c.self.inside.rows.entries c.insert.new.self.entries c.args.key c.args.attr c.in_ok-insert.ensures.updates.0 ∙ ap (λ m. map.insert m c.args.key c.args.attr) c.self.view_is

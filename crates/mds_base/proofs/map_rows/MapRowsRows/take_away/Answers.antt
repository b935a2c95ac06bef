use Rattle.std.proofs.Common.{◌∙◌, ap}
use Rattle.std.specs.FinMap as map
use Rattle.mds_base.proofs.Maps.{one_taken}
use Rattle.mds_base.proofs.RowMaps.{row_keys_total, exact_row_keys, named_remove}
use Rattle.mds_base.proofs.map_rows.MapRowsRows.take_away.Goals as goal

pub invariant_of-self : goal.invariant_of-self
invariant_of-self c = rw c.remove.ensures.entries (named_remove _ c.self.inside.rows.entries c.self.invariant)

pub returns-clause-ok : goal.returns-clause-ok
returns-clause-ok c = one_taken row_keys_total exact_row_keys c.self.inside.rows.entries c.remove.new.self.entries c.args.key.now c.remove.ensures.updates.0 ∙ ap (λ m. map.remove m c.args.key.now) c.self.view_is

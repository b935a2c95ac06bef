use Rattle.std.proofs.Common.{◌∙◌, sym, ap}
use Rattle.std.specs.FinMap as map
use Rattle.mds_base.proofs.Maps.{get_entries}
use Rattle.mds_base.proofs.RowMaps.{row_keys_total, exact_row_keys}
use Rattle.mds_base.proofs.map_rows.MapRowsRows.get.Goals as goal

pub returns-clause-found : goal.returns-clause-found
returns-clause-found c = c.copied.ensures ∙ c.get.ensures.value ∙ sym (get_entries row_keys_total exact_row_keys c.self.inside.rows.entries c.args.key.now) ∙ ap (λ m. map.get m c.args.key.now) c.self.view_is

use Rattle.std.proofs.Common.{◌∙◌, sym, ap}
use Rattle.std.specs.FinMap as map
use Rattle.std.proofs.lemmas.Cmp.{nat_list_cmp_total}
use Rattle.std.proofs.lemmas.Map.Lookups.{exact_bytes}
use Rattle.mds_base.proofs.Maps.{get_entries}
use Rattle.leases.proofs.ends.Ends.get.Goals as goal

pub returns : goal.returns
returns c = c.copied.ensures ∙ c.get.ensures.value ∙ sym (get_entries nat_list_cmp_total exact_bytes c.self.inside.by_name.entries c.args.name.now) ∙ ap (λ m. map.get m c.args.name.now) c.self.view_is

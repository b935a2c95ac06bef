use Rattle.std.proofs.Common.{◌∙◌, sym, ap, nat_eq, length}
use Rattle.std.specs.FinMap as map
use Rattle.mds_base.proofs.Maps.{entries_of_sorted}
use Rattle.node_core.specs.Nodes.{part_cmp}
use Rattle.node_core.proofs.Views.{parts_total, exact_parts}
use Rattle.node_core.proofs.replaying.is_bare.Goals as goal

pub returns : goal.returns
returns c =
    let es = c.args.parts.now.entries in
    ap (λ k. nat_eq k 0)
    (c.len.ensures.len ∙ ap length (sym (entries_of_sorted parts_total exact_parts es c.len.ensures.ordered))
    ∙ sym (map.len-entries (map.from_entries {R = part_cmp} es)))

use Rattle.std.proofs.Common.{rules, ◌∙◌, sym, ap, map as list_map}
use Rattle.std.specs.FinMap as map
use Rattle.std.proofs.lemmas.Map.Made.{map_same_pairs}
use Rattle.mds_base.proofs.Maps.{entries_of_sorted}
use Rattle.node_core.specs.Nodes.{part_cmp, part_cleared, cleared_part}
use Rattle.node_core.proofs.Views.{parts_total, exact_parts}
use Rattle.node_core.proofs.replaying.clear_in.Goals as goal

pub returns : goal.returns
returns c =
    let es = c.args.parts.now.entries in
    ap (map.from_entries {R = part_cmp}) (map_same_pairs _ part_cleared _ (λ k v b w f' t. search rules) _ _ c.retain.ensures.filtered)
    ∙ ap (λ fs. map.from_entries (list_map cleared_part fs)) (sym (entries_of_sorted parts_total exact_parts es c.retain.ensures.was_ordered))

use Rattle.std.proofs.Common.{subst, sym, ◌∙◌, List}
use Rattle.serde_json.specs.View.{view}
use Rattle.bulk.specs.Trees.{ObjectMap, IsBounded}
use Rattle.bulk.proofs.Bounds.{bounded}
use Rattle.bulk.proofs.tree.Tree.of_value.Goals as goal

pub invariant_of-result : goal.invariant_of-result
invariant_of-result c =
    subst (λ (objects : List ObjectMap). IsBounded objects) (sym c.in_ok-objects.ensures)
    (bounded (view c.args.value.now) (sym c.is_tree_of.ensures ∙ c.if-not-is_tree_of.false))

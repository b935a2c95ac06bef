use Rattle.std.proofs.Common.{◌<◌, ap, sym, subst, List, length, arith}
use Rattle.std.proofs.lemmas.List.Elements.{All-get_or}
use Rattle.mds_base.specs.declared.limits.TheConstants.{BULK_ENTRIES}
use Rattle.bulk.specs.Trees.{ObjectMap, HasAtMost}
use Rattle.bulk.proofs.Bounds.{few_rows}
use Rattle.bulk.proofs.tree.Tree.rows_of.Goals as goal

pub returns-clause-few : goal.returns-clause-few
returns-clause-few c =
    let objects : List ObjectMap = c.self.inside.objects.items in
    let members : ObjectMap = c.index.result.now in
    let within : c.args.index < length objects = omega (arith, c.requires.index, ap length c.self.view_is) in
    let few = All-get_or (HasAtMost BULK_ENTRIES) objects c.args.index members within c.self.invariant.small in
    few_rows c.rows.result BULK_ENTRIES c.args.first members (subst (HasAtMost BULK_ENTRIES) (sym c.index.ensures) few) c.rows.ensures

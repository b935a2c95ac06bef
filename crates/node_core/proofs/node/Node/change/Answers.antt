use Rattle.std.proofs.Common.{ap}
use Rattle.std.specs.FinMap as map
use Rattle.node_core.specs.Nodes.{NodeV, part_cmp}
use Rattle.node_core.proofs.Parts.{new_in}
use Rattle.node_core.proofs.node.Node.change.Goals as goal

pub change_in-requires-clause-newer : goal.change_in-requires-clause-newer
change_in-requires-clause-newer g c =
    new_in c.args.self.now (map.from_entries {R = part_cmp} c.self.inside.parts.entries) c.self.inside.floor c.args.change.dir c.args.change.part c.args.change.session.client c.args.change.session.seq (ap (λ (n : NodeV). n.parts) c.self.view_is) (ap (λ (n : NodeV). n.floor) c.self.view_is) c.requires.made.newer

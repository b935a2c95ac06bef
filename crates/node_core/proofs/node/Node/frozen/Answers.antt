use Rattle.std.proofs.Common.{◌∙◌, ap, Some, None}
use Rattle.name_hash.specs.NameHash.{hash_of}
use Rattle.partition.specs.declared.partition.Partition.{Partition}
use Rattle.partition.specs.Serving.{empty_part}
use Rattle.node_core.specs.Nodes.{NodeV, frozen_in}
use Rattle.node_core.proofs.Parts.{part_found}
use Rattle.node_core.proofs.node.Node.frozen.Goals as goal

pub returns-in-None : goal.returns-in-None
returns-in-None c =
    ap (λ (p : Partition). frozen_in p.split (hash_of c.args.name.now))
    (part_found c.self.inside.parts.entries c.args.self.now c.args.dir c.args.part None (ap (λ (v : NodeV). v.parts) c.self.view_is) c.in-None.ensures.value)

pub returns-in-Some : goal.returns-in-Some
returns-in-Some c =
    c.frozen_depth.ensures
    ∙ ap (λ (p : Partition). frozen_in p.split (hash_of c.args.name.now))
    (part_found c.self.inside.parts.entries c.args.self.now c.args.dir c.args.part (Some c.in-Some.partition.now) (ap (λ (v : NodeV). v.parts) c.self.view_is) c.in-Some.ensures.value)

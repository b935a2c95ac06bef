use Rattle.std.proofs.Common.{◌∙◌, ap}
use Rattle.node_core.specs.Nodes.{NodeV}
use Rattle.node_core.proofs.Bitmaps.{bits_found}
use Rattle.node_core.proofs.node.Node.bitmap.Goals as goal

pub returns-in-None : goal.returns-in-None
returns-in-None c = c.zero.ensures.value ∙ bits_found c.self.inside.bits.entries c.args.self.now c.args.dir _ (ap (λ (x : NodeV). x.bits) c.self.view_is) c.in-None.ensures.value

pub returns-in-Some : goal.returns-in-Some
returns-in-Some c = bits_found c.self.inside.bits.entries c.args.self.now c.args.dir _ (ap (λ (x : NodeV). x.bits) c.self.view_is) c.in-Some.ensures.value

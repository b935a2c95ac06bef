use Rattle.std.proofs.Common.{◌∙◌, ap}
use Rattle.mds_base.specs.declared.TheConstants.{RADIX}
use Rattle.name_hash.specs.NameHash.{hash_of}
use Rattle.chains.specs.Located.{located}
use Rattle.bitmap.specs.Bits.{Bits, has}
use Rattle.node_core.specs.Nodes.{NodeV, part_for}
use Rattle.node_core.proofs.Bitmaps.{bits_found, zero_located}
use Rattle.node_core.proofs.node.Node.part_for.Goals as goal

pub returns-in-None : goal.returns-in-None
returns-in-None c = zero_located c.args.self.now c.args.dir c.args.name.now (bits_found c.self.inside.bits.entries c.args.self.now c.args.dir _ (ap (λ (x : NodeV). x.bits) c.self.view_is) c.in-None.ensures.value)

pub returns-in-Some : goal.returns-in-Some
unfolding part_for
returns-in-Some c =
    c.locate.ensures.value
    ∙ ap (λ h. located RADIX h (has c.in-Some.bits.now)) c.hash.ensures
    ∙ ap (λ (b : Bits). located RADIX (hash_of c.args.name.now) (has b)) (bits_found c.self.inside.bits.entries c.args.self.now c.args.dir _ (ap (λ (x : NodeV). x.bits) c.self.view_is) c.in-Some.ensures.value)

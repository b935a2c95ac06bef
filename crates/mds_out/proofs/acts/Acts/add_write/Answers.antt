use Rattle.std.proofs.Common.{◌≡◌, ◌∙◌, ap, length, ◌++◌, ◌∷◌, [], refl, rules}
use Rattle.mds_out.specs.Past.{Changed}
use Rattle.mds_out.specs.Change.{Write}
use Rattle.mds_out.specs.declared.heads.Head.TheVariants as head
use Rattle.mds_out.specs.Kept.{acts_of}
use Rattle.mds_out.proofs.Adding.{acts_push}
use Rattle.mds_out.proofs.acts.Acts.add_write.Goals as goal

pub returns-clause-ok : goal.returns-clause-ok
returns-clause-ok c =
    let written = c.self.inside.written.items in
    let bytes = c.args.bytes.now in
    let h = head.Write c.args.file c.args.at (length bytes) in
    let grown : c.extend_from_slice.new.self.items ≡ written ++ bytes = search rules in
    let pushed : c.push.new.self ≡ c.self.inside.heads ++ h ∷ [] = search rules in
    (λ i. acts_of (grown i) (pushed i))
    ∙ acts_push written bytes c.self.inside.heads h c.self.invariant refl
    ∙ ap (λ l. l ++ Changed c.args.file (Write c.args.at bytes) ∷ []) c.self.view_is

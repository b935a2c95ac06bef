use Rattle.std.proofs.Common.{◌≡◌, ◌∙◌, ap, length, ◌++◌, ◌∷◌, [], arith, rules}
use Rattle.mds_out.specs.Change.{Write}
use Rattle.mds_out.specs.declared.changes.KeptChange.TheVariants as change
use Rattle.mds_out.specs.Kept.{changes_in}
use Rattle.mds_out.proofs.Kept.{changes_write}
use Rattle.mds_out.proofs.changes.Changes.add_write.Goals as goal

pub returns-clause-ok : goal.returns-clause-ok
returns-clause-ok c =
    let i = c.self.inside in
    let grown : c.extend_from_slice.new.self.items ≡ i.written.items ++ c.args.bytes.now = search rules in
    let pushed : c.push.new.self.items ≡ i.kept.items ++ change.Write c.args.at c.len-from.result (length c.args.bytes.now) ∷ [] = search rules in
    let from : c.len-from.result ≡ length i.written.items = omega (arith, c.len-from.ensures) in
    ap (λ w. changes_in w c.push.new.self.items) grown
    ∙ ap (changes_in (i.written.items ++ c.args.bytes.now)) (pushed ∙ ap (λ n. i.kept.items ++ change.Write c.args.at n (length c.args.bytes.now) ∷ []) from)
    ∙ changes_write i.written.items c.args.bytes.now i.kept.items c.args.at c.self.invariant
    ∙ ap (λ l. l ++ Write c.args.at c.args.bytes.now ∷ []) c.self.view_is

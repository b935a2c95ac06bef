use Rattle.std.proofs.Common.{◌≡◌, ◌∙◌, sym, ap, length, ◌++◌, ◌∷◌, [], rules}
use Rattle.mds_out.specs.declared.heads.Short.TheVariants as short
use Rattle.mds_out.specs.Kept.{in_full, long_heads}
use Rattle.mds_out.proofs.Adding.{short_push, short_count, none_push, none_count}
use Rattle.mds_out.proofs.heads.Heads.push.Goals as goal

pub invariant_of-self : goal.invariant_of-self
invariant_of-self c =
    let pushed : c.push.new.self.items ≡ c.self.inside.shorts.items ++ c.in-Some.short ∷ [] = search rules in
    ap long_heads pushed ∙ short_count (length c.self.inside.longs.items) c.self.inside.shorts.items c.args.head c.in-Some.short c.in-Some.ensures c.self.invariant

pub returns-in_ok-push-in-Some-clause-ok : goal.returns-in_ok-push-in-Some-clause-ok
returns-in_ok-push-in-Some-clause-ok c =
    let pushed : c.push.new.self.items ≡ c.self.inside.shorts.items ++ c.in-Some.short ∷ [] = search rules in
    ap (in_full c.self.inside.longs.items) pushed
    ∙ short_push c.self.inside.longs.items c.self.inside.shorts.items c.args.head c.in-Some.short c.self.invariant c.in-Some.ensures
    ∙ ap (λ l. l ++ c.args.head ∷ []) c.self.view_is

pub invariant_of-self-else-is_err : goal.invariant_of-self-else-is_err
invariant_of-self-else-is_err c =
    let shorts : c.push-in-None-2.new.self.items ≡ c.self.inside.shorts.items ++ short.Long ∷ [] = search rules in
    let longs : c.push-in-None.new.self.items ≡ c.self.inside.longs.items ++ c.args.head ∷ [] = search rules in
    ap long_heads shorts ∙ none_count c.self.inside.longs.items c.self.inside.shorts.items c.args.head c.self.invariant ∙ ap length (sym longs)

pub returns-else-is_err-clause-ok : goal.returns-else-is_err-clause-ok
returns-else-is_err-clause-ok c =
    let shorts : c.push-in-None-2.new.self.items ≡ c.self.inside.shorts.items ++ short.Long ∷ [] = search rules in
    let longs : c.push-in-None.new.self.items ≡ c.self.inside.longs.items ++ c.args.head ∷ [] = search rules in
    (λ i. in_full (longs i) (shorts i))
    ∙ none_push c.self.inside.longs.items c.self.inside.shorts.items c.args.head c.self.invariant
    ∙ ap (λ l. l ++ c.args.head ∷ []) c.self.view_is

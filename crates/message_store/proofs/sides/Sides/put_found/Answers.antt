use Rattle.std.proofs.Common.{rules, arith, ◌≡◌, ◌∷◌, [], ◌++◌}
use Rattle.message_store.proofs.Slots.{found_put, found_of}
use Rattle.message_store.proofs.sides.Sides.put_found.Goals as goal

pub returns : goal.returns
returns c =
    let unmodified : c.args.attr.mtime ≡ 0 = search rules in
    let more : c.push.new.self.items ≡ c.self.inside.founds.items ++ found_of c.args.attr c.args.until ∷ [] = search rules in
    found_put _ _ c.self.view_is _ _ _ _ _ c.args.attr _ _ c.requires unmodified (omega (arith, c.len-at.ensures, c.self.inside.founds.ok.0)) more

use Rattle.std.proofs.Common.{rules, arith, ◌≡◌, ◌∷◌, [], ◌++◌}
use Rattle.message_store.proofs.Slots.{number_put}
use Rattle.message_store.proofs.sides.Sides.put_number.Goals as goal

pub returns : goal.returns
returns c =
    let more : c.push.new.self.items ≡ c.self.inside.numbers.items ++ c.args.number ∷ [] = search rules in
    number_put _ _ c.self.view_is _ _ _ _ _ _ _ c.requires (omega (arith, c.len-at.ensures, c.self.inside.numbers.ok.0)) more

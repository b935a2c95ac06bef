use Rattle.std.proofs.Common.{◌∙◌, ap, ◌++◌, ◌∷◌, []}
use Rattle.message_store.proofs.Slots.{whole_put}
use Rattle.message_store.proofs.sides.Sides.put_whole.Goals as goal

pub returns-clause-ok : goal.returns-clause-ok
returns-clause-ok c = whole_put _ _ c.self.view_is c.push.new.self c.args.msg.now _ c.len-at.ensures (c.in_ok-push.ensures.ok ∙ ap (λ m. c.self.inside.whole ++ m ∷ []) c.in_ok-copy.ensures)

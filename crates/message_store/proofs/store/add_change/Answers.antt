use Rattle.std.proofs.Common.{rules, ◌≡◌, [], ◌∷◌, ◌++◌}
use Rattle.message_store.proofs.Entries.{slot_added}
use Rattle.message_store.proofs.store.add_change.Goals as goal

pub returns-in_ok-push-in-Some-clause-ok : goal.returns-in_ok-push-in-Some-clause-ok
returns-in_ok-push-in-Some-clause-ok c =
    let pushed : c.push.new.self.items ≡ c.args.made.now.items ++ c.in-Some.slot ∷ [] = search rules in
    slot_added _ _ _ _ c.in-Some.slot _ pushed (c.in-Some.ensures c.args.whole.now.items)

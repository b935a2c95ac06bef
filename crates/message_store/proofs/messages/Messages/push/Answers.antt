use Rattle.std.proofs.Common.{rules, ◌≡◌, [], ◌∷◌, ◌++◌}
use Rattle.message_store.proofs.Slots.{slots_within, slots_shown}
use Rattle.message_store.proofs.messages.Messages.push.Goals as goal

pub invariant_of-self-2 : goal.invariant_of-self-2
invariant_of-self-2 c =
    let pushed : c.push.new.self.items ≡ c.self.inside.slots.items ++ c.in_ok-slot.slot ∷ [] = search rules in
    slots_within _ _ _ _ _ _ c.in_ok-slot.ensures.ok pushed c.self.invariant

pub returns-clause-ok : goal.returns-clause-ok
returns-clause-ok c =
    let pushed : c.push.new.self.items ≡ c.self.inside.slots.items ++ c.in_ok-slot.slot ∷ [] = search rules in
    slots_shown _ _ _ _ _ _ c.in_ok-slot.ensures.ok pushed c.self.invariant _ c.self.view_is

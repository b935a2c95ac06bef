use Rattle.message_store.proofs.Slots.{said_put}
use Rattle.message_store.proofs.sides.Sides.said_slot.Goals as goal

pub returns-in-Some : goal.returns-in-Some
returns-in-Some c = said_put _ _ _ _ _ _ _ c.requires c.in-Some.ensures

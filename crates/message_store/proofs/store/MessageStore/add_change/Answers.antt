use Rattle.message_store.proofs.Entries.{added_more}
use Rattle.message_store.proofs.store.MessageStore.add_change.Goals as goal

pub returns-clause-ok : goal.returns-clause-ok
returns-clause-ok c = added_more _ _ _ _ c.self.view_is c.self.invariant _ _ _ c.in_ok-add_change.ensures.ok

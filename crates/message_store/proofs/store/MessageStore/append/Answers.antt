use Rattle.message_store.proofs.Entries.{sent_more}
use Rattle.message_store.proofs.store.MessageStore.append.Goals as goal

pub returns-clause-ok : goal.returns-clause-ok
returns-clause-ok c = sent_more _ _ _ _ c.self.view_is c.self.invariant _ _ c.in_ok-append.ensures.ok

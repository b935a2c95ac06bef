use Rattle.std.proofs.Common.{◌≡◌, ◌++◌, take}
use Rattle.message_store.proofs.messages.Messages.push_each.Given as goal

abbrev pub invariant-loop-msg : goal.invariant-loop-msg
invariant-loop-msg l = l.self ≡ l.fn.self ++ take l.msg-index l.msg-items

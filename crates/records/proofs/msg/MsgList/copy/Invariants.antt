use Rattle.std.proofs.Common.{◌≡◌, take}
use Rattle.records.proofs.msg.MsgList.copy.Given as goal

abbrev pub invariant-loop-msg : goal.invariant-loop-msg
invariant-loop-msg l = l.copies.items ≡ take l.msg-index l.msg-items

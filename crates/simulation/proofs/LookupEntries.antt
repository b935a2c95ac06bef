-- The entry of a lookup, from the message that asked and its one answer.
use Rattle.std.proofs.Common.{◌≡◌, ◌∙◌, ap, refl, ℕ, ◌≤◌, true, is_some, List, length, get_or, Option, Some, None, arith}
use Rattle.mds_base.specs.declared.ask.Ask.{Ask}
use Rattle.mds_base.specs.declared.call.Call.{Call}
use Rattle.mds_base.specs.declared.call.Call.TheVariants.{Lookup}
use Rattle.mds_base.specs.declared.reply.Reply.{Reply}
use Rattle.records.specs.declared.msg.Msg.{Msg}
use Rattle.records.specs.declared.msg.Msg.TheVariants.{Answer}
use Rattle.node_core.specs.Rules.{request_in}
use Rattle.message_store.specs.Made.{lookup_by}
use Rattle.message_store.specs.Messages.{no_msg}
use Rattle.simulation.specs.Entries.{looked, looked_one, looked_in, lookup_of, only_of, is_lookup, is_lookup_ask, is_lookup_call}

looked_is : (ask : Ask) (call : Call) (reply : Reply) (at : ℕ) → is_some (looked ask call reply at) ≡ is_lookup_call call
looked_is ask (Lookup dir name) reply at = refl
looked_is ask call reply at = refl

-- with one answer, it is a lookup that was asked for
asked_one : (o : Option Ask) (outputs : List Msg) (client seq attempt at : ℕ) (reply : Reply) → only_of outputs ≡ Some (Answer client seq attempt reply)
    → is_some (looked_in o outputs at) ≡ is_lookup_ask o
asked_one None outputs client seq attempt at reply one = refl
asked_one (Some ask) outputs client seq attempt at reply one =
    ap (λ m. is_some (looked_one ask m at)) one ∙ looked_is ask ask.call reply at

pub looked_up : (msg : Msg) (outputs : List Msg) (client seq attempt at : ℕ) (reply : Reply) → only_of outputs ≡ Some (Answer client seq attempt reply)
    → is_some (lookup_of msg outputs at) ≡ is_lookup msg
looked_up msg outputs client seq attempt at reply one = asked_one (request_in msg) outputs client seq attempt at reply one

-- and its entry is that of the message and the answer
pub lookup_made : (msg : Msg) (outputs : List Msg) (at : ℕ) → is_some (lookup_of msg outputs 0) ≡ true
    → (lookup_of msg outputs at ≡ Some (lookup_by msg (get_or outputs 0 no_msg) at)) × (1 ≤ length outputs)
lookup_made msg outputs at is = grind arith

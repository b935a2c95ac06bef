use Rattle.std.proofs.Common.{◌≡◌, ◌∙◌, sym, ap, is_some, length, get_or, true, ◌++◌, ◌∷◌, []}
use Rattle.std.proofs.lemmas.Option.{slice_get-get_or, get_or_from_slice_get}
use Rattle.message_store.specs.Messages.{message_at, no_msg}
use Rattle.message_store.specs.Made.{MessagesV, lookup_by}
use Rattle.simulation.specs.Entries.{lookup_of, with_one}
use Rattle.simulation.proofs.LookupEntries.{lookup_made}
use Rattle.simulation.proofs.entries.send_outputs.Goals as goal

pub append_answer-requires-clause-some : goal.append_answer-requires-clause-some
append_answer-requires-clause-some c =
    let sent = c.args.messages.now.sent in
    let there = slice_get-get_or sent c.args.message no_msg c.requires in
    let looked : is_some (lookup_of (message_at sent c.args.message) c.args.outputs.now 0) ≡ true =
    sym (c.in_ok-is_looked_up.ensures (message_at sent c.args.message) there) ∙ c.if-branch.true in
    (lookup_made (message_at sent c.args.message) c.args.outputs.now 0 looked).1

pub returns-in_ok-append_answer-clause-made : goal.returns-in_ok-append_answer-clause-made
returns-in_ok-append_answer-clause-made c = λ msg there.
    let sent = c.args.messages.now.sent in
    let made = c.args.messages.now.made in
    let outputs = c.args.outputs.now in
    let looked : is_some (lookup_of msg outputs 0) ≡ true = sym (c.in_ok-is_looked_up.ensures msg there) ∙ c.if-branch.true in
    ap (λ (v : MessagesV). v.made) c.in_ok-append_answer.ensures.ok
    ∙ ap (λ m. made ++ lookup_by m (get_or outputs 0 no_msg) (length sent) ∷ []) (get_or_from_slice_get sent c.args.message msg no_msg there)
    ∙ sym (ap (with_one made) (lookup_made msg outputs (length sent) looked).0)

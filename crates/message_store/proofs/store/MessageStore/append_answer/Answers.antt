use Rattle.std.proofs.Common.{rules, ◌≡◌, ◌∙◌, [], ◌∷◌, ◌++◌, List, length, get_or, subst, sym, ◌<◌}
use Rattle.records.specs.declared.msg.Msg.{Msg}
use Rattle.message_store.specs.declared.made.Made.{Made}
use Rattle.message_store.specs.declared.pairs.MadeSlot.TheVariants as slots
use Rattle.message_store.specs.Made.{MessagesV, lookup_by}
use Rattle.message_store.specs.Messages.{message_at, no_msg}
use Rattle.message_store.proofs.Entries.{answered_more, lookup_made}
use Rattle.message_store.proofs.store.MessageStore.append_answer.Goals as goal

abbrev after : MessagesV → List Msg → Made → MessagesV
after now more made = record { sent = now.sent ++ more; made = now.made ++ made ∷ [] }

pub returns-clause-ok : goal.returns-clause-ok
returns-clause-ok c =
    let sent = c.self.inside.sent in
    let more = c.args.msgs.now in
    let sends : c.append.new.self ≡ sent ++ more = c.in_ok-append.ensures.ok in
    let pushed : c.push.new.self.items ≡ c.self.inside.made.items ++ slots.Lookup c.args.request c.len-answer.result ∷ [] = search rules in
    let below = subst (λ v. c.args.request < length v.sent) (sym c.self.view_is) c.requires.request in
    let is = lookup_made sent c.append.new.self more c.self.inside.whole.items c.args.request c.len-answer.result sends below c.len-answer.ensures.is c.requires.some in
    answered_more _ _ _ _ c.self.view_is c.self.invariant _ _ sends _ _ _ pushed is
    ∙ (λ i. after c.args.self.now more (lookup_by (message_at sent c.args.request) (get_or more 0 no_msg) (c.len-answer.ensures.is i)))
    ∙ (λ i. after c.args.self.now more (lookup_by (message_at (c.self.view_is i).sent c.args.request) (get_or more 0 no_msg) (length (c.self.view_is i).sent)))

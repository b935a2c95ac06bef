use Rattle.std.proofs.Common.{◌∙◌, sym, ap, take, map}
use Rattle.std.proofs.lemmas.List.{take-map}
use Rattle.message_store.specs.Made.{made_in}
use Rattle.message_store.proofs.store.MessageStore.cut_made.Goals as goal

pub returns : goal.returns
returns c =
    let shown = made_in c.self.inside.sent c.self.inside.whole.items in
    let cut = ap (map shown) c.truncate.ensures.items ∙ sym (take-map shown c.args.len c.self.inside.made.items) ∙ ap (λ v. take c.args.len v.made) c.self.view_is in
    (λ i. record { sent = ap (λ v. v.sent) c.self.view_is i; made = cut i })

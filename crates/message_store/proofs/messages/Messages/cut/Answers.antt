use Rattle.std.proofs.Common.{◌∙◌, sym, ap, take, map}
use Rattle.std.proofs.lemmas.List.{take-map}
use Rattle.message_store.specs.Messages.{shown}
use Rattle.message_store.proofs.messages.Messages.cut.Goals as goal

pub returns : goal.returns
returns c =
    ap (map (shown c.self.inside.sides)) c.truncate.ensures.items
    ∙ sym (take-map (shown c.self.inside.sides) c.args.len c.self.inside.slots.items)
    ∙ ap (take c.args.len) c.self.view_is

use Rattle.std.proofs.Common.{◌∙◌, sym, ap}
use Rattle.world.specs.Events.{is_for_server}
use Rattle.world.proofs.Stepped.{serves_one}
use Rattle.world.proofs.enabling.serves_at.Goals as goal

pub returns-in-len1 : goal.returns-in-len1
returns-in-len1 c =
    c.is_for_server.ensures ∙ ap (is_for_server c.args.server) c.msg_at.ensures
    ∙ sym (serves_one c.args.sent.now c.args.server c.args.places.now c.places.result.now c.places.ensures c.in-len1.len_at_least c.in-len1.len_below)

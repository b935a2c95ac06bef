use Rattle.std.proofs.Common.{◌≡◌, ◌++◌, ◌∷◌, [], List, rules, ap, ◌∙◌}
use Rattle.mds_out.specs.declared.slots.Slot.{Slot}
use Rattle.mds_out.specs.Slots.{content_in}
use Rattle.mds_out.proofs.Places.{push_empty}
use Rattle.mds_out.proofs.slots.place_for.Goals as goal

pub returns-clause-same : goal.returns-clause-same
returns-clause-same c =
    let slot : Slot = record { number = c.args.number; file = c.new-file.result } in
    let pushed : c.push.new.self.items ≡ c.args.slots.now.items ++ slot ∷ [] = search rules in
    record { each = λ number. ap (λ (l : List Slot). content_in l number) pushed ∙ push_empty c.args.slots.now.items number slot c.new-file.ensures }

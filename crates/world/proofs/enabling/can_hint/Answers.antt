use Rattle.std.proofs.Common.{◌≡◌, ◌∙◌, sym, ap, refl, ◌&&◌, true, Option, Some, None, Bor, is_some}
use Rattle.std.specs.Option.{option_copied}
use Rattle.mds_base.specs.declared.TheConstants.{RADIX}
use Rattle.world.specs.Events.{seat_at, are_known, is_well_formed}
use Rattle.world.proofs.Known.{formed_test}
use Rattle.world.proofs.enabling.can_hint.Goals as goal

some_copied : {T : Type 0} (o : Option (Bor T)) → is_some o ≡ true → is_some (option_copied o) ≡ true
some_copied None e = cc
some_copied (Some x) e = refl

pub returns-then-is_some : goal.returns-then-is_some
returns-then-is_some c =
    let there : is_some (seat_at c.args.clients.now c.args.client) ≡ true = ap is_some (sym c.seat_at.ensures) ∙ some_copied c.seat_at.result (sym c.is_some.ensures ∙ c.if-is_some.true) in
    let formed : is_well_formed RADIX c.args.bitmap.now ≡ true = formed_test RADIX c.args.bitmap.now c.has-well_formed.ensures.well_formed in
    c.are_known.ensures
    ∙ sym (ap (λ b. b && are_known c.args.clients.now c.args.dir c.args.bitmap.now) formed)
    ∙ sym (ap (λ b. b && (is_well_formed RADIX c.args.bitmap.now && are_known c.args.clients.now c.args.dir c.args.bitmap.now)) there)

use Rattle.std.proofs.Common.{◌∙◌, ◌<◌, ◌^◌, sym, arith}
use Rattle.world.specs.Events.{is_known}
use Rattle.world.proofs.Known.{all_items, not_all_items}
use Rattle.world.proofs.enabling.are_known.Goals as goal

pub returns-then-not-is_known : goal.returns-then-not-is_known
returns-then-not-is_known c =
    sym (not_all_items (is_known c.args.clients.now c.args.dir) c.args.bitmap.now c.loop-part.part (sym c.has.ensures.value ∙ c.if-has.true) (sym c.is_known.ensures ∙ c.if-not-is_known.true))

pub returns : goal.returns
returns c =
    sym (all_items (is_known c.args.clients.now c.args.dir) c.args.bitmap.now (λ q there.
    let below : q < 2 ^ 10 = c.has-whole.ensures.well_formed.below q there in
    c.loop-part.invariant q (omega (arith, below)) there))

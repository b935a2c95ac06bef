use Rattle.std.proofs.Common.{◌-◌}
use Rattle.std.proofs.lemmas.Result.{on_ok_weaker}
use Rattle.world.proofs.Stepped.{hint_is}
use Rattle.world.proofs.Within.{with_seat, hinted_fits}
use Rattle.world.proofs.world.World.hint.Goals as goal

pub invariant_of-self : goal.invariant_of-self
invariant_of-self c =
    let seat = c.index_mut-seat.result.now in
    with_seat c.self.invariant (c.args.client - 1) (record { client = c.hint.new.self; quit = seat.quit })
    (hinted_fits _ c.args.self.now c.self.view_is c.self.invariant c.args.client seat c.index_mut-seat.ensures.value c.requires c.args.dir c.args.bitmap.now c.hint.result c.hint.new.self c.hint.ensures.ok c.hint.ensures.err)

pub returns : goal.returns
returns c =
    on_ok_weaker c.hint.result (hint_is _ c.args.self.now c.self.view_is c.args.client c.index_mut-seat.result.now c.index_mut-seat.ensures.value c.args.dir c.args.bitmap.now c.requires c.hint.new.self) c.hint.ensures.ok

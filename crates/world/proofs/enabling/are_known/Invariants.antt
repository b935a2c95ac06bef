use Rattle.std.proofs.Common.{◌≡◌, ℕ, ◌<◌, true}
use Rattle.bitmap.specs.Bits.{has}
use Rattle.world.specs.Events.{is_known}
use Rattle.world.proofs.enabling.are_known.Given as goal

abbrev pub invariant-loop-part : goal.invariant-loop-part
invariant-loop-part l = (q : ℕ) → q < l.part → has l.bitmap q ≡ true → is_known l.clients l.dir q ≡ true

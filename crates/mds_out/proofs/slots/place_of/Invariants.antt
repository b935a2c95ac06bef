use Rattle.std.proofs.Common.{◌≡◌, ℕ, ◌<◌, get_or}
use Rattle.mds_out.specs.declared.slots.Slot.{Slot}
use Rattle.mds_out.proofs.slots.place_of.Given as goal

abbrev pub invariant-loop-place : goal.invariant-loop-place
invariant-loop-place l = (k : ℕ) (d : Slot) → k < l.place → (get_or l.slots k d).number ≡ l.number → ⊥

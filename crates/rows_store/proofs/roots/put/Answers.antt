use Rattle.std.proofs.Common.{ap}
use Rattle.root_slots.specs.declared.root_slots.RootSlots.{RootSlots}
use Rattle.rows_store.proofs.roots.put.Goals as goal

pub open_slot-requires-clause-filled : goal.open_slot-requires-clause-filled
open_slot-requires-clause-filled g c = (c.args.root.now.number, ap (λ (s : RootSlots). s.step) c.in_ok-fill_slot.ensures.filled)

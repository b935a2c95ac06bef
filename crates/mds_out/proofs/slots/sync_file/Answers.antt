use Rattle.std.proofs.Common.{List, subst}
use Rattle.mds_out.specs.declared.slots.Slot.{Slot}
use Rattle.mds_out.specs.Slots.{IsFirst, HasNone}
use Rattle.mds_out.proofs.Places.{synced_place, synced_none}
use Rattle.mds_out.proofs.slots.sync_file.Goals as goal

pub returns-in-Some : goal.returns-in-Some
returns-in-Some c =
    let P : List Slot → Type 0 = λ slots. IsFirst c.args.number slots c.in-Some.place in
    synced_place c.args.slots.now.items c.args.number c.in-Some.place c.index_mut.result.now c.sync.new.self (subst P c.deref.ensures.value c.in-Some.ensures) c.index_mut.ensures.value c.sync.ensures

pub returns-in_default : goal.returns-in_default
returns-in_default c =
    let P : List Slot → Type 0 = λ slots. HasNone c.args.number slots in
    λ outcome. synced_none c.args.slots.now.items c.args.number outcome (subst P c.deref.ensures.value c.in_default.ensures)

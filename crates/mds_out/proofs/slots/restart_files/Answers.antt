use Rattle.std.proofs.Common.{◌≡◌, ◌<◌, ◌++◌, List, length, take, map, set, ap, ◌∙◌, arith, rules}
use Rattle.std.proofs.lemmas.List.{length-set, take_all, drop_all, append-nil}
use Rattle.std.proofs.lemmas.List.Edits.{map_over_more}
use Rattle.mds_out.specs.declared.slots.Slot.{Slot}
use Rattle.mds_out.specs.Content.{Content}
use Rattle.mds_out.proofs.Places.{restarted, restarted_all}
use Rattle.mds_out.proofs.slots.restart_files.Goals as goal

pub loop-place-preserved : goal.loop-place-preserved
loop-place-preserved c =
    let now = c.loop-place.slots.items in
    let within : c.loop-place.place < length c.args.slots.now.items = omega (arith, c.loop-place.invariant.size) in
    record {
      size = length-set now c.loop-place.place _ ∙ c.loop-place.invariant.size;
      done = ap (λ (file : Content). set now c.loop-place.place (record { number = c.index_mut.result.now.number; file = file })) c.restart.ensures
          ∙ map_over_more (restarted c.args.outcome) c.args.slots.now.items now c.loop-place.place c.index_mut.result.now within c.loop-place.invariant.done c.index_mut.ensures.value;
    }

pub returns : goal.returns
returns c =
    let end : length c.args.slots.now.items ≡ c.loop-place.place = search rules in
    restarted_all c.args.outcome c.args.slots.now.items c.loop-place.slots.items
    (c.loop-place.invariant.done ∙ ap (λ (l : List Slot). map (restarted c.args.outcome) (take c.loop-place.place c.args.slots.now.items) ++ l) (drop_all c.loop-place.place c.args.slots.now.items (omega arith)) ∙ append-nil _ ∙ ap (map (restarted c.args.outcome)) (take_all c.loop-place.place c.args.slots.now.items (omega arith)))

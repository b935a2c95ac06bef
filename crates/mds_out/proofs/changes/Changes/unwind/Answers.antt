use Rattle.std.proofs.Common.{◌≡◌, ◌∙◌, ◌-◌, ◌<◌, sym, ap, length, take, drop, get_or, arith, rules}
use Rattle.mds_out.specs.Change.{changed, change_end}
use Rattle.mds_out.specs.Kept.{change_in}
use Rattle.mds_out.specs.Undo.{unwound}
use Rattle.mds_out.proofs.Kept.{change_fits, count_of, unwound_more}
use Rattle.mds_out.proofs.changes.Changes.unwind.Goals as goal

pub redo-len-requires-clause-fits : goal.redo-len-requires-clause-fits
redo-len-requires-clause-fits c =
    let i = c.self.inside in
    let bytes : c.deref.result.now ≡ i.written.items = search rules in
    let element : c.index.result.now ≡ get_or i.kept.items (c.loop-place.place - 1) c.index.result.now = search rules in
    let same : change_in c.deref.result.now c.index.result.now ≡ change_in i.written.items (get_or i.kept.items (c.loop-place.place - 1) c.index.result.now) = ap (λ w. change_in w c.index.result.now) bytes ∙ ap (change_in i.written.items) element in
    let here : c.loop-place.place - 1 < length i.kept.items = omega (arith, c.loop-place.invariant.low, count_of i.written.items i.kept.items c.args.self.now c.self.view_is) in
    let fits = change_fits (length c.args.buffer.now) i.written.items i.kept.items c.args.self.now (c.loop-place.place - 1) c.index.result.now c.self.view_is here c.requires.fit in
    omega (arith, fits, ap change_end same, c.loop-place.invariant.room)

pub loop-place-preserved : goal.loop-place-preserved
loop-place-preserved c =
    let i = c.self.inside in
    let bytes : c.deref.result.now ≡ i.written.items = search rules in
    let element : c.index.result.now ≡ get_or i.kept.items (c.loop-place.place - 1) c.index.result.now = search rules in
    let same : change_in c.deref.result.now c.index.result.now ≡ change_in i.written.items (get_or i.kept.items (c.loop-place.place - 1) c.index.result.now) = ap (λ w. change_in w c.index.result.now) bytes ∙ ap (change_in i.written.items) element in
    let here : c.loop-place.place - 1 < length i.kept.items = omega (arith, c.loop-place.invariant.low, count_of i.written.items i.kept.items c.args.self.now c.self.view_is) in
    let room : length c.redo-len.new.buffer ≡ length c.loop-place.buffer = search rules in
    let front = take c.args.len c.args.buffer.now in
    record {
      low = omega (arith, c.loop-place.invariant.low);
      count = c.redo-len.ensures.count;
      room = room ∙ c.loop-place.invariant.room;
      done = c.redo-len.ensures.redone
          ∙ ap (changed (take c.loop-place.len c.loop-place.buffer)) same
          ∙ ap (λ bytes. changed bytes (change_in i.written.items (get_or i.kept.items (c.loop-place.place - 1) c.index.result.now))) (c.loop-place.invariant.done ∙ ap (λ n. unwound front (drop n c.args.self.now)) (omega arith))
          ∙ sym (unwound_more front i.written.items i.kept.items c.args.self.now (c.loop-place.place - 1) c.index.result.now c.self.view_is here);
    }

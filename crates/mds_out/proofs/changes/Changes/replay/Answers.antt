use Rattle.std.proofs.Common.{◌≡◌, ◌∙◌, ◌<◌, sym, ap, length, take, get_or, arith, rules}
use Rattle.mds_out.specs.Change.{changed, redone}
use Rattle.mds_out.specs.declared.changes.KeptChange.TheVariants as change
use Rattle.mds_out.specs.Kept.{change_in, changes_in}
use Rattle.mds_out.proofs.Kept.{change_fits, redone_more}
use Rattle.mds_out.proofs.changes.Changes.replay.Goals as goal

pub redo-len-requires-clause-fits : goal.redo-len-requires-clause-fits
redo-len-requires-clause-fits c =
    let is : changes_in c.deref.result.now c.deref-kept-items.result.now ≡ c.args.self.now = search rules in
    let here : c.loop-kept.kept-index < length c.deref-kept-items.result.now = search rules in
    let fits = change_fits (length c.args.buffer.now) c.deref.result.now c.deref-kept-items.result.now c.args.self.now c.loop-kept.kept-index (change.Write 0 0 0) is here c.requires.fit in
    omega (arith, fits, c.loop-kept.invariant.room)

pub loop-kept-preserved : goal.loop-kept-preserved
loop-kept-preserved c =
    let is : changes_in c.deref.result.now c.deref-kept-items.result.now ≡ c.args.self.now = search rules in
    let here : c.loop-kept.kept-index < length c.deref-kept-items.result.now = search rules in
    let room : length c.redo-len.new.buffer ≡ length c.loop-kept.buffer = search rules in
    record {
      count = c.redo-len.ensures.count;
      room = room ∙ c.loop-kept.invariant.room;
      replayed = c.redo-len.ensures.redone
          ∙ ap (λ bytes. changed bytes (redone c.args.spoil (change_in c.deref.result.now (get_or c.deref-kept-items.result.now c.loop-kept.kept-index (change.Write 0 0 0))))) c.loop-kept.invariant.replayed
          ∙ sym (redone_more c.args.spoil (take c.args.len c.args.buffer.now) c.deref.result.now c.deref-kept-items.result.now c.args.self.now c.loop-kept.kept-index (change.Write 0 0 0) is here);
    }

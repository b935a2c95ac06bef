use Rattle.std.proofs.Common.{◌≡◌, ◌∙◌, ap, refl, is_some, arith}
use Rattle.std.specs.Prelude.{◌||◌}
use Rattle.std.specs.FinMap as map
use Rattle.partition.proofs.Loading.{nothing_yet, is_added}
use Rattle.partition.proofs.edits.edits_of_load.Goals as goal

pub loop-row-init : goal.loop-row-init
loop-row-init g c = record {
  so_far = nothing_yet (g.R.Rows.contents c.args.rows.now) c.args.dir c.args.part c.args.load.now c.new-edits.result c.new-added.result c.new-edits.ensures c.new-added.ensures;
  rows = refl;
  faults = refl;
}

pub loop-row-preserved : goal.loop-row-preserved
loop-row-preserved g c =
    let key = c.in_ok-key.key in
    let added = c.loop-row.added in
    record {
      so_far = is_added (g.R.Rows.contents c.args.rows.now) c.args.dir c.args.part c.args.load.now c.loop-row.row-index c.loop-row.edits added c.row-item.result key c.in_ok-is_there.field-0
          c.push.new.self c.put.new.self c.in_ok-copy.field-0 c.loop-row.invariant.so_far (omega arith) c.row-item.is c.in_ok-key.ensures
          (c.in_ok-is_there.ensures.ok ∙ ap (λ m. is_some (map.get added key) || is_some (map.get m key)) c.loop-row.invariant.rows)
          c.if-branch.false c.in_ok-copy.ensures
          (c.in_ok-put.ensures.ok ∙ ap (λ m. map.insert m c.in_ok-copy.field-0 c.row-item.result.attr) c.in_ok-is_there.ensures.added)
          c.in_ok-push.ensures.ok;
      rows = c.in_ok-is_there.ensures.rows ∙ c.loop-row.invariant.rows;
      faults = c.in_ok-is_there.ensures.cause.kept ∙ c.loop-row.invariant.faults;
    }

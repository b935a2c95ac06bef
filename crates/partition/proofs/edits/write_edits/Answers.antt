use Rattle.std.proofs.Common.{◌∙◌, arith}
use Rattle.partition.proofs.Loading.{made_more}
use Rattle.partition.proofs.edits.write_edits.Goals as goal

pub loop-edit-preserved : goal.loop-edit-preserved
loop-edit-preserved g c = record {
  made = made_more (g.R.Rows.contents c.args.rows.now) (g.R.Rows.contents c.loop-edit.rows) (g.R.Rows.contents c.write_one.new.rows) c.args.edits.now c.loop-edit.edit-index c.edit-item.result
      (omega arith) c.edit-item.is c.loop-edit.invariant.made c.in_ok-write_one.ensures.ok;
  faults = c.in_ok-write_one.ensures.cause.kept ∙ c.loop-edit.invariant.faults;
}

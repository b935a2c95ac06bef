use Rattle.std.proofs.Common.{◌∙◌}
use Rattle.simulation.proofs.ServeEntries.{changes_more, changes_all}
use Rattle.simulation.proofs.entries.add_each.Goals as goal

pub loop-item-preserved : goal.loop-item-preserved
loop-item-preserved c = (
  changes_more c.args.messages.now.made c.records-item-items.result.now c.loop-item.item-index c.item-item.result _ _ c.loop-item.invariant.0 c.loop-item-test.true c.item-item.is c.in_ok-add_change.ensures.ok,
  c.in_ok-add_change.ensures.sent ∙ c.loop-item.invariant.1,
)

pub returns-clause-ok : goal.returns-clause-ok
returns-clause-ok c = changes_all c.args.messages.now.made _ _ c.args.records.now _ c.loop-item.invariant.0 c.loop-item-test.false c.records-item-items.ensures

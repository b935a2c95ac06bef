use Rattle.serde_json.specs.View.{members_view}
use Rattle.bulk.proofs.Counts.{Counted}
use Rattle.bulk.proofs.measure.+measure.Given as goal

abbrev pub invariant-measure_members-loop-key : goal.invariant-measure_members-loop-key
invariant-measure_members-loop-key l = Counted l.fn.size l.size (members_view l.members.entries) (members_view l.key-iterator)

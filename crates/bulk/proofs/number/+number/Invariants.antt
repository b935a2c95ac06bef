use Rattle.serde_json.specs.View.{members_view}
use Rattle.bulk.proofs.Numbering.{Numbered}
use Rattle.bulk.proofs.number.+number.Given as goal

abbrev pub invariant-number_members-loop-key : goal.invariant-number_members-loop-key
invariant-number_members-loop-key l = Numbered l.fn.objects.items (members_view l.members.entries) (members_view l.key-iterator) l.object l.objects.items

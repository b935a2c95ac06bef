use Rattle.partition.proofs.Laws.{rows_law, refused_law, plain_law, looked_law, counted_law}
use Rattle.partition.proofs.Sweeping.{sweep_first, no_length}
use Rattle.partition.proofs.law.laws_of_serving.Goals as goal

pub returns : goal.returns
returns c = record {
  rows = λ at key. rows_law at.part at.rows at.dir at.number at.ask at.now at.setup at.fresh key;
  refused = λ at left d name. refused_law at.part at.rows left at.dir at.number d name at.ask at.now at.setup at.fresh;
  plain = λ at within entries reply m served here own carried.
      plain_law within entries at.part at.rows at.dir at.number at.ask at.now at.setup at.fresh carried.edits carried.session carried.count reply m served here own carried.change' carried.step';
  looked = λ at within entries reply d name. looked_law within entries at.part at.rows at.dir at.number d name at.ask at.now at.setup at.fresh reply;
  first = sweep_first;
  not_kept = no_length;
  counted = λ at. counted_law at.part at.rows at.dir at.number at.ask at.now at.setup at.fresh;
}

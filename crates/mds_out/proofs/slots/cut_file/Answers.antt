use Rattle.std.proofs.lemmas.Result.{on_ok_weaker}
use Rattle.mds_out.specs.Change.{Cut}
use Rattle.mds_out.proofs.Places.{changed_place}
use Rattle.mds_out.proofs.slots.cut_file.Goals as goal

pub returns-clause-ok : goal.returns-clause-ok
returns-clause-ok c = on_ok_weaker c.cut.result (changed_place c.args.slots.now.items c.place_for.new.slots.items c.args.number c.in_ok-place.place c.index_mut.result.now c.cut.new.self (Cut c.args.to) c.place_for.ensures.same c.in_ok-place.ensures.found c.index_mut.ensures.value) c.cut.ensures.ok

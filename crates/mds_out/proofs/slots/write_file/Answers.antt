use Rattle.std.proofs.lemmas.Result.{on_ok_weaker}
use Rattle.mds_out.specs.Change.{Write}
use Rattle.mds_out.proofs.Places.{changed_place}
use Rattle.mds_out.proofs.slots.write_file.Goals as goal

pub returns-clause-ok : goal.returns-clause-ok
returns-clause-ok c = on_ok_weaker c.write.result (changed_place c.args.slots.now.items c.place_for.new.slots.items c.args.number c.in_ok-place.place c.index_mut.result.now c.write.new.self (Write c.args.at c.args.bytes.now) c.place_for.ensures.same c.in_ok-place.ensures.found c.index_mut.ensures.value) c.write.ensures.ok

use Rattle.sorted_table.specs.Starts.{place_of}
use Rattle.row_store.proofs.SaidBehind.{floor_below}
use Rattle.row_store.proofs.behind.floor.Goals as goal

pub returns : goal.returns
returns c = λ key behind.
    floor_below (record { dir = c.in-Some.dir; part = c.in-Some.part; rev = c.in-Some.rev; name = c.in_ok-name.name }) (place_of c.args.start.now) c.args.start.now.past key (c.in-Some.ensures c.in_ok-name.name) behind

use Rattle.std.proofs.Common.{◌∙◌, sym, ap}
use Rattle.std.specs.FinSet as set
use Rattle.simulation.specs.Shows.{waiting_cmp}
use Rattle.simulation.specs.Waits.{with_last}
use Rattle.simulation.proofs.KeySets.{waiting_total, exact_waiting, one_in}
use Rattle.simulation.proofs.waits.settle.Goals as goal

pub returns-in_ok-insert-clause-ok : goal.returns-in_ok-insert-clause-ok
returns-in_ok-insert-clause-ok c =
    one_in waiting_total exact_waiting c.args.others.now.keys c.insert.new.self.keys c.in-Some.key c.in_ok-insert.ensures.updates.0
    ∙ ap (with_last (set.from_list {R = waiting_cmp} c.args.others.now.keys)) (sym c.in-Some.is)

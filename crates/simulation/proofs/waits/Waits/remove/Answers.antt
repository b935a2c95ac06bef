use Rattle.std.proofs.Common.{◌∙◌, ap}
use Rattle.std.specs.FinSet as set
use Rattle.simulation.specs.Shows.{waiting_cmp}
use Rattle.simulation.specs.Waits.{with_last}
use Rattle.simulation.proofs.WaitsKept.{taken_out}
use Rattle.simulation.proofs.waits.Waits.remove.Goals as goal

pub returns : goal.returns
returns c =
    ap (with_last (set.from_list {R = waiting_cmp} c.take_out.new.others.keys)) c.unless_last-self-inside.ensures
    ∙ taken_out (set.from_list c.self.inside.others.keys) (set.from_list c.take_out.new.others.keys) c.self.inside.last (c.args.server, c.args.message) c.take_out.ensures
    ∙ ap (λ (s : set.FinSet waiting_cmp). set.remove s (c.args.server, c.args.message)) c.self.view_is

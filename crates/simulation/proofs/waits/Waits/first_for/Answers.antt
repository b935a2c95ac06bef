use Rattle.std.proofs.Common.{◌∙◌, sym, ap, subst}
use Rattle.std.specs.FinSet as set
use Rattle.simulation.specs.Shows.{IsFirst, waiting_cmp, earlier}
use Rattle.simulation.specs.Waits.{last_for}
use Rattle.simulation.proofs.WaitsKept.{Waiting, first_with_last}
use Rattle.simulation.proofs.waits.Waits.first_for.Goals as goal

pub returns : goal.returns
returns c =
    subst (IsFirst (Waiting c.args.self.now c.args.server)) (sym (c.earlier.ensures ∙ ap (earlier c.first_among.result) c.last_for.ensures))
    (subst (λ (s : set.FinSet waiting_cmp). IsFirst (Waiting s c.args.server) (earlier c.first_among.result (last_for c.self.inside.last c.args.server))) c.self.view_is
    (first_with_last (set.from_list c.self.inside.others.keys) c.self.inside.last c.args.server c.first_among.result c.first_among.ensures))

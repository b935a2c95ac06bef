use Rattle.std.proofs.Common.{sym, subst}
use Rattle.root_slots.specs.declared.content.Content.TheVariants.{Open}
use Rattle.root_slots.specs.Slot.{HoldsRoot, FindsRoot}
use Rattle.root_slots.proofs.Readings.{chosen_root}
use Rattle.root_slots.proofs.content.choose.Goals as goal

pub returns-in-Open-clause-root : goal.returns-in-Open-clause-root
returns-in-Open-clause-root c = λ first second.
    subst FindsRoot (sym c.choose_open.ensures) (chosen_root (Open c.in-Open.root) c.args.second (subst HoldsRoot c.in-Open.is first) second)

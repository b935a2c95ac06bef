use Rattle.root_slots.proofs.Crashes.{others_free, decides}
use Rattle.root_slots.proofs.root_slots.root_decides_law.Goals as goal

pub returns-clause-others : goal.returns-clause-others
returns-clause-others c = others_free

pub returns-clause-decides : goal.returns-clause-decides
returns-clause-decides c = decides

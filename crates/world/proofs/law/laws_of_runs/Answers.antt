use Rattle.world.proofs.Theorem.{holds_of_runs}
use Rattle.world.proofs.law.laws_of_runs.Goals as goal

pub returns : goal.returns
returns c = holds_of_runs

use Rattle.node_core.proofs.OnTerms.{replays_on_all_terms}
use Rattle.node_core.proofs.law.laws_of_terms.Goals as goal

pub returns : goal.returns
returns c = replays_on_all_terms

use Rattle.records.proofs.Fronts.{no_prefix}
use Rattle.records.proofs.reading.laws_of_spellings.Goals as goal

pub returns-clause-no_prefix : goal.returns-clause-no_prefix
returns-clause-no_prefix c = no_prefix

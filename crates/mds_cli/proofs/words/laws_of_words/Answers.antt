use Rattle.mds_cli.proofs.Options.{asks_one}
use Rattle.mds_cli.proofs.words.laws_of_words.Goals as goal

pub returns : goal.returns
returns c = record { one = asks_one }

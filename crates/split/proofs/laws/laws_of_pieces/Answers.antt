use Rattle.split.proofs.Joining.{all_pieces}
use Rattle.split.proofs.laws.laws_of_pieces.Goals as goal

pub returns : goal.returns
returns c = record { joined = all_pieces }

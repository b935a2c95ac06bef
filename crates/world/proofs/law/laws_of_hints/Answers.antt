use Rattle.world.proofs.Known.{formed_by, formed_test}
use Rattle.world.proofs.law.laws_of_hints.Goals as goal

pub returns : goal.returns
returns c = λ radix bits. (formed_by radix bits, formed_test radix bits)

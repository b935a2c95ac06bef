use Rattle.std.proofs.Common.{rules}
use Rattle.name_hash.specs.NameHash.{hash_of}
use Rattle.name_hash.proofs.hash.Goals as goal

pub returns : goal.returns
unfolding hash_of
returns c = search rules

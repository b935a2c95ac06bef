use Rattle.std.proofs.Common.{sym, []}
use Rattle.std.proofs.lemmas.List.{append-nil}
use Rattle.path_walk.specs.Paths.{names_along}
use Rattle.path_walk.proofs.Steps.{some_walk}
use Rattle.path_walk.proofs.walking.walk.Goals as goal

pub returns-in-Err-OutOfMemory-clause-err : goal.returns-in-Err-OutOfMemory-clause-err
returns-in-Err-OutOfMemory-clause-err g c = ([], sym (append-nil _), some_walk (names_along c.args.path.now))

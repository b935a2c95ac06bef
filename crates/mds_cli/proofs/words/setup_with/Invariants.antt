use Rattle.std.proofs.Common.{map, length}
use Rattle.std.specs.Prelude.{string_bytes}
use Rattle.mds_cli.proofs.Options.{Remains}
use Rattle.mds_cli.proofs.words.setup_with.Given as goal

abbrev pub invariant-loop-rest : goal.invariant-loop-rest
invariant-loop-rest l = Remains (map (λ word. string_bytes word) l.options) l.given l.setup (map (λ word. string_bytes word) l.rest)

abbrev pub decreases-loop-rest : goal.decreases-loop-rest
decreases-loop-rest l = length l.rest

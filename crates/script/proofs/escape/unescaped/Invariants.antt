use Rattle.std.proofs.Common.{◌≡◌, length}
use Rattle.script.specs.Reading.{unescaped}
use Rattle.script.proofs.Unescaping.{onto_all}
use Rattle.script.proofs.escape.unescaped.Given as goal

-- what was spelled so far, and what the rest spells, is what the word spells
abbrev pub invariant-loop-rest : goal.invariant-loop-rest
invariant-loop-rest l = onto_all l.bytes.items (unescaped l.rest) ≡ unescaped l.word

abbrev pub decreases-loop-rest : goal.decreases-loop-rest
decreases-loop-rest l = length l.rest

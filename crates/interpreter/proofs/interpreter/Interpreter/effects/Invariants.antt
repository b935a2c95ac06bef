use Rattle.std.proofs.Common.{◌≡◌, take}
use Rattle.std.specs.List.{flat_map}
use Rattle.interpreter.specs.Text.{effect_of}
use Rattle.interpreter.proofs.interpreter.Interpreter.effects.Given as goal

-- the lines of the entries so far
abbrev pub invariant-loop-at : goal.invariant-loop-at
invariant-loop-at g l = l.text.items ≡ flat_map (effect_of l.self.simulation) (take l.at l.self.simulation.made)

use Rattle.std.proofs.Common.{◌≡◌, ◌≤◌, ◌+◌, ◌*◌, ◌-◌, ◌++◌, length, drop}
use Rattle.script.specs.Text.{name_text}
use Rattle.script.proofs.line_text.LineText.put_name.Given as goal

-- the bytes from here on are written
abbrev pub invariant-loop-at : goal.invariant-loop-at
invariant-loop-at l = (l.at ≤ length l.bytes) × (l.self ≡ name_text (drop l.at l.bytes) ++ l.initial.self)
    × (length l.self + 3 * l.at ≤ 3 * length l.bytes + length l.initial.self)

abbrev pub decreases-loop-at : goal.decreases-loop-at
decreases-loop-at l = l.at

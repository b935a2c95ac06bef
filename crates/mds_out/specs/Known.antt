-- Facts on what a value may tell or keep to itself. For bytes, `Appends`, `Consumes`, `Keeps` and `prepend_known` are
-- std's.
use Rattle.std.specs.Prelude.{⊤, Option, None, Some}

-- where it was told before, it is told now, and P holds of both
abbrev pub OnKnown : {X : Type 0} → Option X → Option X → (X → X → Type 0) → Type 0
OnKnown None now P = ⊤
OnKnown (Some before) None P = ⊥
OnKnown (Some before) (Some now) P = P before now

-- P holds of it, where it is told
abbrev pub OnTold : {X : Type 0} → Option X → (X → Type 0) → Type 0
OnTold None P = ⊤
OnTold (Some told) P = P told

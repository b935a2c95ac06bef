-- What a reader of words answers, beside what reading gives.
use Rattle.std.specs.Prelude.{◌≡◌, Option, Some, None, Result, Ok, Err}
use Rattle.script.specs.declared.line.Line.{Line}
use Rattle.script.specs.declared.fault.LineFault.{LineFault}
use Rattle.script.specs.declared.fault.LineFault.TheVariants.{NotALine, OutOfMemory}
use Rattle.script.specs.declared.fault.Outside.{Outside}

-- what a function returned, seen by view, is what reading gives
abbrev pub Finds : {X Y : Type 0} → (X → Y) → Result X Outside → Option Y → Type 0
Finds view (Ok x) read = read ≡ Some (view x)
Finds view (Err e) read = read ≡ None

-- the same, unless memory ran out
abbrev pub Gives : {X Y : Type 0} → (X → Y) → Result X LineFault → Option Y → Type 0
Gives view (Ok x) read = read ≡ Some (view x)
Gives view (Err NotALine) read = read ≡ None
Gives view (Err OutOfMemory) read = Unit {0}

-- P, where memory ran out
abbrev pub OnMemory : {X : Type 0} → Result X LineFault → Type 0 → Type 0
OnMemory (Ok x) P = Unit {0}
OnMemory (Err NotALine) P = Unit {0}
OnMemory (Err OutOfMemory) P = P

-- the result is this line, or memory ran out
abbrev pub IsLineOrMemory : Result Line LineFault → Line → Type 0
IsLineOrMemory (Ok found) line = found ≡ line
IsLineOrMemory (Err NotALine) line = ⊥
IsLineOrMemory (Err OutOfMemory) line = Unit {0}

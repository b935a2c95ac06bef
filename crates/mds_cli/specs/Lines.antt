-- The lines of a script, as bytes: each line feed ends one, which the last may lack.
use Rattle.std.specs.Prelude.{ℕ, List, [], ◌∷◌, ◌==◌, if◌then◌else◌, not, IsTrue}
use Rattle.std.specs.List.{list_all}
use Rattle.script.specs.Words.{onto_first}

-- the lines, without their line feeds; no bytes have no line, and after a last line feed there is none
abbrev pub lines_of : List ℕ → List (List ℕ)
lines_of [] = []
lines_of (byte ∷ bytes) = if byte == 10 then [] ∷ lines_of bytes else onto_first byte (lines_of bytes)

-- a byte in front of the first of the lines that end, where there is one
abbrev pub onto_ended : ℕ → List (List ℕ) → List (List ℕ)
onto_ended byte [] = []
onto_ended byte (line ∷ lines) = (byte ∷ line) ∷ lines

-- the lines that have their line feed, without it
abbrev pub ended_lines : List ℕ → List (List ℕ)
ended_lines [] = []
ended_lines (byte ∷ bytes) = if byte == 10 then [] ∷ ended_lines bytes else onto_ended byte (ended_lines bytes)

-- the byte is not among these
abbrev pub Lacks : ℕ → List ℕ → Type 0
Lacks stop bytes = IsTrue (list_all (λ byte. not (byte == stop)) bytes)

-- bytes of one line, without its end
abbrev pub IsPart : List ℕ → Type 0
IsPart = Lacks 10

-- bytes without the carriage return at their end
abbrev pub without_return : List ℕ → List ℕ
without_return [] = []
without_return (byte ∷ []) = if byte == 13 then [] else byte ∷ []
without_return (byte ∷ next ∷ bytes) = byte ∷ without_return (next ∷ bytes)

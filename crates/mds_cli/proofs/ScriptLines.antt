-- Scripts, line by line.
use Rattle.std.proofs.Common.{◌≡◌, ◌∙◌, sym, ap, refl, ℕ, ◌≤◌, List, [], ◌∷◌, ◌++◌, length, Bool, true, false, not, cond, arith, append_assoc}
use Rattle.std.specs.Prelude.{◌==◌}
use Rattle.std.specs.List.{AllByRecursion}
use Rattle.std.proofs.lemmas.Bool.{and_parts}
use Rattle.script.specs.Words.{onto_first}
use Rattle.mds_cli.specs.Lines.{IsPart, lines_of, ended_lines, onto_ended}

-- lines, each with its line feed
abbrev pub with_feeds : List (List ℕ) → List ℕ
with_feeds [] = []
with_feeds (line ∷ lines) = line ++ 10 ∷ with_feeds lines

no_feed : (byte : ℕ) (bytes : List ℕ) → IsPart (byte ∷ bytes) → (byte == 10) ≡ false
no_feed byte bytes part = flipped (byte == 10) (and_parts _ _ part).0
  where
    flipped : (b : Bool) → not b ≡ true → b ≡ false
    flipped true is = sym is
    flipped false is = refl

rest_part : (byte : ℕ) (bytes : List ℕ) → IsPart (byte ∷ bytes) → IsPart bytes
rest_part byte bytes part = (and_parts _ _ part).1

-- the lines of bytes that begin with a whole line
first_line : (line rest : List ℕ) → IsPart line → lines_of (line ++ 10 ∷ rest) ≡ line ∷ lines_of rest
first_line [] rest part = refl
first_line (byte ∷ line) rest part =
    ap (λ b. cond b ([] ∷ lines_of (line ++ 10 ∷ rest)) (onto_first byte (lines_of (line ++ 10 ∷ rest)))) (no_feed byte line part)
    ∙ ap (onto_first byte) (first_line line rest (rest_part byte line part))

pub lines_front : (lines : List (List ℕ)) (rest : List ℕ) → AllByRecursion IsPart lines → lines_of (with_feeds lines ++ rest) ≡ lines ++ lines_of rest
lines_front [] rest parts = refl
lines_front (line ∷ lines) rest parts =
    ap lines_of (append_assoc line (10 ∷ with_feeds lines) rest)
    ∙ first_line line (with_feeds lines ++ rest) parts.0
    ∙ ap (λ ls. line ∷ ls) (lines_front lines rest parts.1)

-- the same of the lines that have their line feed
pub first_ended : (line rest : List ℕ) → IsPart line → ended_lines (line ++ 10 ∷ rest) ≡ line ∷ ended_lines rest
first_ended [] rest part = refl
first_ended (byte ∷ line) rest part =
    ap (λ b. cond b ([] ∷ ended_lines (line ++ 10 ∷ rest)) (onto_ended byte (ended_lines (line ++ 10 ∷ rest)))) (no_feed byte line part)
    ∙ ap (onto_ended byte) (first_ended line rest (rest_part byte line part))

pub none_ended : (part : List ℕ) → IsPart part → ended_lines part ≡ []
none_ended [] part = refl
none_ended (byte ∷ bytes) part =
    ap (λ b. cond b ([] ∷ ended_lines bytes) (onto_ended byte (ended_lines bytes))) (no_feed byte bytes part)
    ∙ ap (onto_ended byte) (none_ended bytes (rest_part byte bytes part))

pub ended_front : (lines : List (List ℕ)) (rest : List ℕ) → AllByRecursion IsPart lines → ended_lines (with_feeds lines ++ rest) ≡ lines ++ ended_lines rest
ended_front [] rest parts = refl
ended_front (line ∷ lines) rest parts =
    ap ended_lines (append_assoc line (10 ∷ with_feeds lines) rest)
    ∙ first_ended line (with_feeds lines ++ rest) parts.0
    ∙ ap (λ ls. line ∷ ls) (ended_front lines rest parts.1)

-- one line more
pub feeds_push : (lines : List (List ℕ)) (line : List ℕ) → with_feeds (lines ++ line ∷ []) ≡ with_feeds lines ++ (line ++ 10 ∷ [])
feeds_push [] line = refl
feeds_push (first ∷ lines) line = ap (λ l. first ++ 10 ∷ l) (feeds_push lines line) ∙ sym (append_assoc first (10 ∷ with_feeds lines) (line ++ 10 ∷ []))

pub parts_push : (lines : List (List ℕ)) (line : List ℕ) → AllByRecursion IsPart lines → IsPart line → AllByRecursion IsPart (lines ++ line ∷ [])
parts_push [] line parts part = (part, tt)
parts_push (first ∷ lines) line parts part = (parts.0, parts_push lines line parts.1 part)

-- a last line, and one that is as long as the part of it that was seen
pub last_line : (line : List ℕ) → IsPart line → 1 ≤ length line → lines_of line ≡ line ∷ []
last_line [] part some = absurd (omega (arith, some))
last_line (byte ∷ []) part some = ap (λ b. cond b ([] ∷ []) ((byte ∷ []) ∷ [])) (no_feed byte [] part)
last_line (byte ∷ next ∷ line) part some =
    ap (λ b. cond b ([] ∷ lines_of (next ∷ line)) (onto_first byte (lines_of (next ∷ line)))) (no_feed byte (next ∷ line) part)
    ∙ ap (onto_first byte) (last_line (next ∷ line) (rest_part byte (next ∷ line) part) (omega arith))

pub record LongLine (bytes : List ℕ) (least : ℕ) : Type 0 where
  pub line : List ℕ
  pub rest : List (List ℕ)
  pub is : lines_of bytes ≡ line ∷ rest
  pub long : least ≤ length line

pub long_line : (part rest : List ℕ) → IsPart part → 1 ≤ length part → LongLine (part ++ rest) (length part)
long_line [] rest part some = absurd (omega (arith, some))
long_line (byte ∷ []) rest part some = by (lines_of rest) refl
  where
    here : lines_of (byte ∷ rest) ≡ onto_first byte (lines_of rest)
    here = ap (λ b. cond b ([] ∷ lines_of rest) (onto_first byte (lines_of rest))) (no_feed byte [] part)

    by : (lines : List (List ℕ)) → lines_of rest ≡ lines → LongLine (byte ∷ rest) 1
    by [] is = record { line = byte ∷ []; rest = []; is = here ∙ ap (onto_first byte) is; long = omega arith }
    by (line ∷ lines) is = record { line = byte ∷ line; rest = lines; is = here ∙ ap (onto_first byte) is; long = omega arith }
long_line (byte ∷ next ∷ bytes) rest part some =
    let later = long_line (next ∷ bytes) rest (rest_part byte (next ∷ bytes) part) (omega arith) in
    record {
      line = byte ∷ later.line;
      rest = later.rest;
      is = ap (λ b. cond b ([] ∷ lines_of (next ∷ bytes ++ rest)) (onto_first byte (lines_of (next ∷ bytes ++ rest)))) (no_feed byte (next ∷ bytes) part) ∙ ap (onto_first byte) later.is;
      long = omega (arith, later.long);
    }

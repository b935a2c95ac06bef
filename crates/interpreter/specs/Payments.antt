-- What pays for the stops that a text tells: of each server, faults of its disk and fuses that were armed.
use Rattle.std.specs.Prelude.{◌≡◌, ℕ, ◌+◌, ◌^◌, ◌<◌, ◌&&◌, ◌==◌, Bool, true, not, nat_eq, if◌then◌else◌, List, [], ◌∷◌}
use Rattle.std.specs.Prelude.{◌++◌, codes}
use Rattle.std.specs.Cmp.Lexicographic.{pointwise}
use Rattle.std.specs.List.{AllByRecursion, flat_map, slice_get}
use Rattle.mds_out.specs.Fused.{Fused}
use Rattle.node_store.specs.Store.{Store}
use Rattle.script.specs.declared.line.Line.{Line}
use Rattle.script.specs.declared.line.Line.TheVariants as lines
use Rattle.simulation.specs.Payments.{IsPaid, none_at, once_at}
use Rattle.interpreter.specs.Text.{server_line}

-- whether no line feed stands among these bytes
abbrev pub has_no_feed : List ℕ → Bool
has_no_feed [] = true
has_no_feed (byte ∷ bytes) = not (byte == 10) && has_no_feed bytes

-- a line with its line feed
pub record IsPrinted (line : List ℕ) : Type 0 where
  pub part : List ℕ
  pub none : has_no_feed part ≡ true
  pub is : line ≡ part ++ 10 ∷ []

-- the text of lines
abbrev pub text_of : List (List ℕ) → List ℕ
text_of printed = flat_map (λ line. line) printed

-- how often a line is among these
abbrev pub times : List ℕ → List (List ℕ) → ℕ
times line [] = 0
times line (first ∷ rest) = (if pointwise nat_eq first line then 1 else 0) + times line rest

-- the line of a stop that no line asked for
abbrev pub stopped_line : ℕ → List ℕ
stopped_line server = server_line (codes "stopped ") server

-- From one moment to another lines were put behind what was pending; and of each server, as often as they say that it
-- stopped, that is paid by faults of its disk and armed fuses.
pub record Pays {D : Type 0} (faults : D → ℕ) (lasts : D → D → Type 0) (old new : List (Store (Fused D)))
    (was now : List ℕ) (fuses : ℕ → ℕ) : Type 0 where
  pub printed : List (List ℕ)
  pub each : AllByRecursion IsPrinted printed
  pub text : now ≡ was ++ text_of printed
  pub paid : (s : ℕ) → s < 2 ^ 64 → IsPaid faults lasts (slice_get old s) (slice_get new s)
      (times (stopped_line s) printed) (fuses s)

-- the fuses that a line arms
abbrev pub fuses_of : Line → ℕ → ℕ
fuses_of (lines.Fuse server calls) = once_at server
fuses_of line = none_at

-- these are whole lines, none of which tells of a stop
pub record TellsNoStop (text : List ℕ) : Type 0 where
  pub printed : List (List ℕ)
  pub each : AllByRecursion IsPrinted printed
  pub is : text ≡ text_of printed
  pub none : (s : ℕ) → times (stopped_line s) printed ≡ 0

-- Stops that a text tells, and fuses that lines arm.
use Rattle.std.proofs.Common.{◌≡◌, ◌∙◌, sym, ap, subst, refl, ℕ, ◌+◌, ◌≤◌, ◌==◌, Bool, true, false, not, cond, if◌then◌else◌, nat_eq, List, [], ◌∷◌, ◌++◌, length, take, drop, append_assoc, Option, Some, None, codes, decimal, inl, inr, arith}
use Rattle.std.specs.Cmp.Lexicographic.{pointwise}
use Rattle.std.specs.Fmt.{digits}
use Rattle.std.specs.List.{AllByRecursion, list_all}
use Rattle.std.proofs.lemmas.Bool.{true≢false, and_parts, and_from, eqb-true}
use Rattle.std.proofs.lemmas.List.{take-append-drop}
use Rattle.std.proofs.lemmas.Slice.Eq.{bytes_eq-Decides}
use Rattle.mds_base.specs.declared.setup.Setup.{Setup}
use Rattle.mds_out.specs.Stream.{TakesFront}
use Rattle.script.specs.Grammar.{AreSpelled, IsLine, line_parts}
use Rattle.script.specs.Words.{words_of}
use Rattle.script.proofs.Printing.{words_said}
use Rattle.script.specs.declared.line.Line.{Line}
use Rattle.script.specs.declared.line.Line.TheVariants as lines
use Rattle.simulation.specs.Payments.{once_at}
use Rattle.interpreter.specs.Payments.{IsPrinted, TellsNoStop, has_no_feed, text_of, times, stopped_line, fuses_of}
use Rattle.interpreter.proofs.Payments.{times_append}
use Rattle.mds_cli.specs.Follows.{Says}
use Rattle.mds_cli.specs.Lines.{IsPart, lines_of, ended_lines, onto_ended, without_return}
use Rattle.mds_cli.specs.Payments.{stops_told, arms, fuses_armed, OnTaken}
use Rattle.mds_cli.proofs.ScriptLines.{first_ended}

pub fewer : (b c : Bool) → (b ≡ true → c ≡ true) → (if b then 1 else 0) ≤ (if c then 1 else 0)
fewer false c f = omega arith
fewer true true f = omega arith
fewer true false f = absurd (true≢false (sym (f refl)))

pub equal_bytes : (xs ys : List ℕ) → xs ≡ ys → pointwise nat_eq xs ys ≡ true
equal_bytes xs ys same = (bytes_eq-Decides xs ys).1 same

-- ---- lines of a text

pub clean_part : (bytes : List ℕ) → has_no_feed bytes ≡ true → IsPart bytes
clean_part [] clean = refl
clean_part (byte ∷ bytes) clean =
    let both = and_parts (not (byte == 10)) (has_no_feed bytes) clean in
    and_from (not (byte == 10)) (list_all (λ b. not (b == 10)) bytes) both.0 (clean_part bytes both.1)

told_line : (s : ℕ) (line part : List ℕ) → line ≡ part ++ 10 ∷ [] → (if pointwise nat_eq part (codes "stopped " ++ decimal s) then 1 else 0) ≤ (if pointwise nat_eq line (stopped_line s) then 1 else 0)
told_line s line part is =
    fewer (pointwise nat_eq part (codes "stopped " ++ decimal s)) (pointwise nat_eq line (stopped_line s))
    (λ same. equal_bytes line (stopped_line s) (is ∙ ap (λ l. l ++ 10 ∷ []) ((bytes_eq-Decides part (codes "stopped " ++ decimal s)).0 same)))

sum_within : (a b c d e : ℕ) → a ≤ b → c ≤ d + e → a + c ≤ (b + d) + e
sum_within a b c d e one two = omega (arith, one, two)

-- printed lines tell no more stops than are among them
pub stops_printed : (s : ℕ) (printed : List (List ℕ)) → AllByRecursion IsPrinted printed → (rest : List ℕ) → stops_told (text_of printed ++ rest) s ≤ times (stopped_line s) printed + stops_told rest s
stops_printed s [] each rest = omega arith
stops_printed s (line ∷ more) each rest =
    let part = each.0.part in
    let split : (line ++ text_of more) ++ rest ≡ part ++ 10 ∷ (text_of more ++ rest) =
    ap (λ l. (l ++ text_of more) ++ rest) each.0.is ∙ ap (λ l. l ++ rest) (append_assoc part (10 ∷ []) (text_of more)) ∙ append_assoc part (10 ∷ text_of more) rest in
    subst (λ ls. times (codes "stopped " ++ decimal s) ls ≤ times (stopped_line s) (line ∷ more) + stops_told rest s)
    (sym (ap ended_lines split ∙ first_ended part (text_of more ++ rest) (clean_part part each.0.none)))
    (sum_within (if pointwise nat_eq part (codes "stopped " ++ decimal s) then 1 else 0) (if pointwise nat_eq line (stopped_line s) then 1 else 0) (stops_told (text_of more ++ rest) s) (times (stopped_line s) more) (stops_told rest s) (told_line s line part each.0.is) (stops_printed s more each.1 rest))

-- the lines that ended in a front of a text are the first ones of the whole
ended_more : (text more : List ℕ) → (later : List (List ℕ)) × (ended_lines (text ++ more) ≡ ended_lines text ++ later)
ended_more [] more = (ended_lines more, refl)
ended_more (byte ∷ text) more = by (byte == 10) (ended_lines text) (ended_more text more).0 (ended_more text more).1
  where
    by : (feed : Bool) (ended later : List (List ℕ)) → ended_lines (text ++ more) ≡ ended ++ later → (later : List (List ℕ)) × (cond feed ([] ∷ ended_lines (text ++ more)) (onto_ended byte (ended_lines (text ++ more))) ≡ cond feed ([] ∷ ended) (onto_ended byte ended) ++ later)
    by true ended later is = (later, ap (λ ls. [] ∷ ls) is)
    by false [] later is = (onto_ended byte (ended_lines (text ++ more)), refl)
    by false (line ∷ ended) later is = (later, ap (onto_ended byte) is)

stops_front : (s : ℕ) (text more : List ℕ) → stops_told text s ≤ stops_told (text ++ more) s
stops_front s text more =
    let later = ended_more text more in
    omega (arith, ap (times (codes "stopped " ++ decimal s)) later.1, times_append (codes "stopped " ++ decimal s) (ended_lines text) later.0)

-- bytes that are a front of a text tell no more stops than it
pub took_stops : (before now : Option (List ℕ)) (text : List ℕ) → TakesFront before now text → OnTaken before now (λ taken. (s : ℕ) → stops_told taken s ≤ stops_told text s)
took_stops None now text front = tt
took_stops (Some before) None text front = absurd front.taken
took_stops (Some before) (Some now) text front = (
  take front.count text,
  front.taken,
  λ s. subst (λ t. stops_told (take front.count text) s ≤ stops_told t s) (take-append-drop front.count text) (stops_front s (take front.count text) (drop front.count text)),
)

-- the effects, and what stands behind them
pub effects_told : (s : ℕ) (effects : List ℕ) → TellsNoStop effects → stops_told (effects ++ codes "end\n") s ≤ 0
effects_told s effects quiet =
    let few = stops_printed s quiet.printed quiet.each (codes "end\n") in
    subst (λ t. stops_told (t ++ codes "end\n") s ≤ 0) (sym quiet.is) (least (stops_told (text_of quiet.printed ++ codes "end\n") s) (times (stopped_line s) quiet.printed) few (quiet.none s))
  where
    least : (n m : ℕ) → n ≤ m + 0 → m ≡ 0 → n ≤ 0
    least n m few none = omega (arith, few, none)

-- ---- lines that arm fuses

fuse_words : (server calls s : ℕ) (words : List (List ℕ)) → AreSpelled words (line_parts (lines.Fuse server calls)) → once_at server s ≤ (if arms words s then 1 else 0)
fuse_words server calls s [] spelled = absurd spelled
fuse_words server calls s (verb ∷ []) spelled = absurd spelled.1
fuse_words server calls s (verb ∷ number ∷ words) spelled =
    fewer (s == server) (arms (verb ∷ number ∷ words) s)
    (λ is. and_from (pointwise nat_eq verb (codes "fuse")) (pointwise nat_eq number (decimal s)) (equal_bytes verb (codes "fuse") spelled.0) (equal_bytes number (decimal s) (spelled.1.0.0 ∙ ap decimal (sym (eqb-true s server is)))))

none_armed : (n : ℕ) → 0 ≤ n
none_armed n = omega arith

one_armed : (a n : ℕ) → a ≤ n → a ≤ n + 0
one_armed a n few = omega (arith, few)

-- a line arms no more fuses than its bytes say
pub line_fuses : (setup : Setup) (bytes : List ℕ) (line : Line) → Says setup bytes line → (s : ℕ) → fuses_of line s ≤ fuses_armed (bytes ∷ []) s
line_fuses setup bytes line says s = one_armed (fuses_of line s) (if arms (words_of (without_return bytes)) s then 1 else 0) (by line says.1)
  where
    by : (l : Line) → IsLine setup (without_return bytes) l → fuses_of l s ≤ (if arms (words_of (without_return bytes)) s then 1 else 0)
    by l (inl comment) = subst (λ k. fuses_of k s ≤ (if arms (words_of (without_return bytes)) s then 1 else 0)) (sym comment.1) (none_armed (if arms (words_of (without_return bytes)) s then 1 else 0))
    by (lines.Fuse server calls) (inr said) = fuse_words server calls s (words_of (without_return bytes)) (words_said (line_parts (lines.Fuse server calls)) (without_return bytes) refl said.0)
    by lines.Skipped (inr said) = none_armed (if arms (words_of (without_return bytes)) s then 1 else 0)
    by (lines.Call client call) (inr said) = none_armed (if arms (words_of (without_return bytes)) s then 1 else 0)
    by (lines.Issue client call) (inr said) = none_armed (if arms (words_of (without_return bytes)) s then 1 else 0)
    by (lines.Retry client) (inr said) = none_armed (if arms (words_of (without_return bytes)) s then 1 else 0)
    by (lines.Deliver place) (inr said) = none_armed (if arms (words_of (without_return bytes)) s then 1 else 0)
    by (lines.Take client place) (inr said) = none_armed (if arms (words_of (without_return bytes)) s then 1 else 0)
    by lines.Settle (inr said) = none_armed (if arms (words_of (without_return bytes)) s then 1 else 0)
    by (lines.Tick by') (inr said) = none_armed (if arms (words_of (without_return bytes)) s then 1 else 0)
    by (lines.Stop server) (inr said) = none_armed (if arms (words_of (without_return bytes)) s then 1 else 0)
    by (lines.Restart server) (inr said) = none_armed (if arms (words_of (without_return bytes)) s then 1 else 0)
    by (lines.Batch server places) (inr said) = none_armed (if arms (words_of (without_return bytes)) s then 1 else 0)
    by (lines.Remind server) (inr said) = none_armed (if arms (words_of (without_return bytes)) s then 1 else 0)
    by (lines.Walk client path) (inr said) = none_armed (if arms (words_of (without_return bytes)) s then 1 else 0)
    by (lines.Bulk client dir name json) (inr said) = none_armed (if arms (words_of (without_return bytes)) s then 1 else 0)
    by (lines.Rmdir client dir name) (inr said) = none_armed (if arms (words_of (without_return bytes)) s then 1 else 0)
    by (lines.Feed server) (inr said) = none_armed (if arms (words_of (without_return bytes)) s then 1 else 0)
    by (lines.Promote server) (inr said) = none_armed (if arms (words_of (without_return bytes)) s then 1 else 0)

-- ---- worked rows

told_row : stops_told (codes "1 1 created\nstopped 1\nstopped 12\n1 stopped 1\nstopped 1\nstopped 1") 1 ≡ 2
unfolding digits
told_row = refl

armed_row : fuses_armed (codes "fuse 1 4" ∷ codes "  fuse  1 0 " ∷ codes "fuse 12 1" ∷ codes "# fuse 1 1" ∷ codes "stop 1" ∷ []) 1 ≡ 2
unfolding digits words_of
armed_row = refl

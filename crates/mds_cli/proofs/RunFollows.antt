-- Runs that follow lines: one line more, their traces, and lines that are bad.
use Rattle.std.proofs.Common.{◌≡◌, ◌∙◌, sym, ap, subst, refl, ℕ, ◌+◌, ◌<◌, ◌≤◌, ◌^◌, ◌&&◌, Bool, true, false, cond, List, [], ◌∷◌, ◌++◌, length, arith, append_assoc, Option, Some, None, Bor}
use Rattle.std.specs.Prelude.{◌==◌, MatchOption, unwrap_or}
use Rattle.std.proofs.lemmas.Bool.{eqb-true}
use Rattle.std.proofs.lemmas.List.{append-nil}
use Rattle.mds_base.specs.declared.setup.Setup.{Setup}
use Rattle.script.specs.declared.line.Line.{Line}
use Rattle.script.proofs.Meanings.{one_line}
use Rattle.simulation.specs.Runs.{RunV, grown}
use Rattle.world.specs.declared.event.Event.{Event}
use Rattle.world.specs.Events.{enabled, all_enabled}
use Rattle.world.specs.Histories.{run}
use Rattle.interpreter.specs.Story.{grown_by, all_may, is_allowed}
use Rattle.interpreter.proofs.EventsText.{grown_append, may_append}
use Rattle.mds_cli.specs.Follows.{Says, IsBad, IsCarriedOut, Follows}
use Rattle.mds_cli.specs.Lines.{without_return}

-- ---- a run's trace

pub trace_grown : (r : RunV) (events : List Event) → (grown_by r events).trace ≡ run r.trace events
trace_grown r [] = refl
trace_grown r (event ∷ events) = trace_grown (grown r event) events

pub enabled_grown : (r : RunV) (events : List Event) → all_may r events ≡ all_enabled r.trace.world events
enabled_grown r [] = refl
enabled_grown r (event ∷ events) = ap (λ b. enabled r.trace.world event && b) (enabled_grown (grown r event) events)

-- ---- lines behind lines

pub follows_join : (setup : Setup) (r : RunV) (lines more : List (List ℕ)) (events later : List Event) → Follows setup r lines events → Follows setup (grown_by r events) more later
    → Follows setup r (lines ++ more) (events ++ later)
follows_join setup r [] more events later none f = subst (λ e. Follows setup r more (e ++ later)) (sym none) (subst (λ e. Follows setup (grown_by r e) more later) none f)
follows_join setup r (first ∷ lines) more events later f g = (
  f.0,
  f.1 ++ later,
  ap (λ e. e ++ later) f.2 ∙ append_assoc f.0 f.1 later,
  f.3,
  follows_join setup (grown_by r f.0) lines more f.1 later f.4 (subst (λ q. Follows setup q more later) (ap (grown_by r) f.2 ∙ grown_append r f.0 f.1) g),
)

-- ---- bad lines

-- bytes without the carriage return at their end are at most one less
pub return_short : (bytes : List ℕ) → length bytes ≤ length (without_return bytes) + 1
return_short [] = omega arith
return_short (byte ∷ []) = by (byte == 13)
  where
    by : (b : Bool) → 1 ≤ length (cond b [] (byte ∷ [])) + 1
    by true = omega arith
    by false = omega arith
return_short (byte ∷ next ∷ bytes) = let e = return_short (next ∷ bytes) in omega (arith, e)

-- the carriage return that is left out
pub return_stripped : (front : List ℕ) → without_return (front ++ 13 ∷ []) ≡ front
return_stripped [] = refl
return_stripped (byte ∷ []) = refl
return_stripped (byte ∷ next ∷ bytes) = ap (λ l. byte ∷ l) (return_stripped (next ∷ bytes))

pub no_return : (bytes : List ℕ) → ((front : List ℕ) → bytes ≡ front ++ 13 ∷ [] → ⊥) → without_return bytes ≡ bytes
no_return [] never = refl
no_return (byte ∷ []) never = by (byte == 13) refl
  where
    by : (b : Bool) → (byte == 13) ≡ b → cond b [] (byte ∷ []) ≡ byte ∷ []
    by true is = absurd (never [] (ap (λ x. x ∷ []) (eqb-true byte 13 is)))
    by false is = refl
no_return (byte ∷ next ∷ bytes) never = ap (λ l. byte ∷ l) (no_return (next ∷ bytes) (λ front is. never (byte ∷ front) (ap (λ l. byte ∷ l) is)))

pub return_of : (line : List ℕ) (r : Option (Bor (List ℕ))) → MatchOption r ((front : List ℕ) → line ≡ front ++ 13 ∷ [] → ⊥) (λ front. line ≡ front.now ++ 13 ∷ []) → (kept result : Bor (List ℕ)) → line ≡ kept.now → result ≡ unwrap_or r kept → result.now ≡ without_return line
return_of line None never kept result same is = ap (λ x. x.now) is ∙ sym same ∙ sym (no_return line never)
return_of line (Some front) split kept result same is = ap (λ x. x.now) is ∙ sym (ap without_return split ∙ return_stripped front.now)

-- a line that is too long says nothing
pub long_bad : (setup : Setup) (r : RunV) (bytes : List ℕ) → 2 ^ 20 + 1 < length bytes → IsBad setup r bytes
long_bad setup r bytes long line says = absurd (omega (arith, long, says.0, return_short bytes))

pub too_long_bad : (setup : Setup) (r : RunV) (bytes : List ℕ) → 2 ^ 20 < length (without_return bytes) → IsBad setup r bytes
too_long_bad setup r bytes long line says = absurd (omega (arith, long, says.0))

-- a line that is not allowed is bad
pub refused_bad : (setup : Setup) (r : RunV) (bytes : List ℕ) (line : Line) → Says setup bytes line → is_allowed r.trace.world line ≡ false → IsBad setup r bytes
refused_bad setup r bytes line says refused other said =
    subst (λ l. is_allowed r.trace.world l ≡ false) (one_line setup (without_return bytes) line other says.1 said.1) refused

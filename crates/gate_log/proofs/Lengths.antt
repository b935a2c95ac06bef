-- How long a log is, and where its bodies stand, by its bodies.
use Rattle.std.proofs.Common.{◌≡◌, ◌≢◌, ⊎_elim, ℕ, ◌+◌, List, [], ◌∷◌, ◌++◌, length, take, drop, sum_by, refl, sym, ◌∙◌, ap, arith, append_assoc, length-append}
use Rattle.std.proofs.lemmas.List.{take_at, drop_at}
use Rattle.std.proofs.lemmas.List.Sums.{sum_by-cons}
use Rattle.std.specs.Int.{to_be_bytes, w32}
use Rattle.mds_out.specs.Disk.{Image}
use Rattle.gate_log.specs.Frame.{framed}
use Rattle.gate_log.specs.Log.{log_bytes, log_length, gate_place, body_place, HoldsLog, IsBeforeOrAfter}
use Rattle.gate_log.specs.LogState.{LogState, IsKept}
use Rattle.gate_log.proofs.Frames.{longer, length-framed}
use Rattle.gate_log.proofs.Replays.{log_bytes-append}
use Rattle.gate_log.proofs.Unique.{one_log}

-- the place of a gate, by the lengths of the bodies before it
pub gate_place_is : (bodies : List (List ℕ)) → gate_place bodies ≡ sum_by (λ (body : List ℕ). 5 + length body) bodies
gate_place_is [] = refl
gate_place_is (body ∷ bodies) = omega (arith, length-append (1 ∷ framed body) (log_bytes bodies), length-framed body, gate_place_is bodies, sum_by-cons (λ (one : List ℕ). 5 + length one) body bodies)

-- a log with one body more has another length
pub not_as_long : (bodies : List (List ℕ)) (body : List ℕ) → log_length (bodies ++ body ∷ []) ≡ log_length bodies → ⊥
not_as_long bodies body same = omega (arith, longer bodies body)

regroup : (front len body rest : List ℕ) → front ++ (1 ∷ (len ++ body) ++ rest) ≡ ((front ++ 1 ∷ []) ++ len) ++ (body ++ rest)
regroup front len body rest = simp append_assoc

pub body_stands : (before after : List (List ℕ)) (body file : List ℕ) → HoldsLog (before ++ body ∷ after) file → take (length body) (drop (body_place before) file) ≡ body
body_stands before after body file holds =
    ap (λ l. take (length body) (drop (body_place before) l)) whole ∙ ap (take (length body)) (drop_at front (body ++ tail) (body_place before) size) ∙ take_at body tail (length body) refl
  where
    len : List ℕ
    len = to_be_bytes w32 (length body)

    front : List ℕ
    front = (log_bytes before ++ 1 ∷ []) ++ len

    tail : List ℕ
    tail = log_bytes after ++ holds.gate ∷ holds.rest

    whole : file ≡ front ++ (body ++ tail)
    whole = holds.split ∙ ap (λ l. l ++ holds.gate ∷ holds.rest) (log_bytes-append before (body ∷ after))
        ∙ append_assoc (log_bytes before) (1 ∷ framed body ++ log_bytes after) (holds.gate ∷ holds.rest)
        ∙ ap (λ l. log_bytes before ++ l) (append_assoc (1 ∷ framed body) (log_bytes after) (holds.gate ∷ holds.rest))
        ∙ regroup (log_bytes before) len body tail

    size : length front ≡ body_place before
    size = omega (arith, length-append (log_bytes before ++ 1 ∷ []) len, length-append (log_bytes before) (1 ∷ []))

-- a log that is open is as long as its bodies make it
pub length_known : (log : LogState) (images : Image → Type 0) (bodies : List (List ℕ)) (bytes : List ℕ) → IsKept log images bytes → HoldsLog bodies bytes → log.length ≡ log_length bodies
length_known log images bodies bytes kept holds = kept.is.ends ∙ ap log_length (one_log kept.bodies bodies bytes kept.is.holds holds)

-- After an append that a crash cut short, the length of the log that is opened then tells whether the body is there.
module _ (log : LogState) (images : Image → Type 0) (bodies : List (List ℕ)) (body bytes : List ℕ) (kept : IsKept log images bytes) (either : IsBeforeOrAfter bodies body bytes) where
  pub before_by_length : log.length ≡ log_length bodies → HoldsLog bodies bytes
  before_by_length same = ⊎_elim (λ holds. holds) (λ (holds : HoldsLog (bodies ++ body ∷ []) bytes). absurd (not_as_long bodies body (sym (length_known log images (bodies ++ body ∷ []) bytes kept holds) ∙ same))) either

  pub after_by_length : log.length ≢ log_length bodies → HoldsLog (bodies ++ body ∷ []) bytes
  after_by_length other = ⊎_elim (λ (holds : HoldsLog bodies bytes). absurd (other (length_known log images bodies bytes kept holds))) (λ holds. holds) either

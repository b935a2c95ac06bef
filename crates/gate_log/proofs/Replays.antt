-- The body at a gate of a log, by the bytes that were read there.
use Rattle.std.proofs.Common.{◌≡◌, ℕ, ◌+◌, ◌<◌, ◌≤◌, ◌^◌, List, [], ◌∷◌, ◌++◌, length, take, drop, Option, None, Some, refl, sym, ◌∙◌, ap, subst, arith, append_assoc, length-append}
use Rattle.std.proofs.lemmas.List.{take_at, drop_at, drop-drop, append-nil, get_or_at}
use Rattle.std.proofs.lemmas.Nat.{from_be_bytes-to_be_bytes_4}
use Rattle.std.specs.Int.{to_be_bytes, from_be_bytes, w32}
use Rattle.mds_out.specs.Known.{OnTold}
use Rattle.gate_log.specs.Frame.{framed, spelled_length, IsLengthAt}
use Rattle.gate_log.specs.Log.{log_bytes, HoldsLog}
use Rattle.gate_log.specs.LogState.{LogState, IsLogOf, IsKept}
use Rattle.mds_out.specs.Disk.{Image}
use Rattle.gate_log.specs.Calls.{IsGateAt, IsSomeGate, IsReplayed}
use Rattle.gate_log.proofs.Frames.{longer, length-framed}

pub log_bytes-append : (before after : List (List ℕ)) → log_bytes (before ++ after) ≡ log_bytes before ++ log_bytes after
log_bytes-append [] after = refl
log_bytes-append (body ∷ before) after = ap (λ l. (1 ∷ framed body) ++ l) (log_bytes-append before after) ∙ sym (append_assoc (1 ∷ framed body) (log_bytes before) (log_bytes after))

regroup : (a f l t : List ℕ) → (a ++ ((1 ∷ f) ++ l)) ++ t ≡ (a ++ 1 ∷ []) ++ (f ++ (l ++ t))
regroup a f l t = simp append_assoc

-- at the last gate there is no body
no_body : (log : LogState) (at : ℕ) (before : List (List ℕ)) (bytes : List ℕ) → IsGateAt log at before [] bytes → at + 1 ≡ log.length
no_body log at before bytes gate = ap (λ k. k + 1) (gate.place_is ∙ ap (λ l. length (log_bytes l)) (sym (append-nil before))) ∙ sym gate.is.ends

-- a body behind its gate
record IsHere (log : LogState) (at : ℕ) (body bytes : List ℕ) : Type 0 where
  tail : List ℕ
  split : drop (at + 1) bytes ≡ framed body ++ tail
  room : at + 6 + length body ≤ log.length
  short : length body < 2 ^ 32

here : (log : LogState) (at : ℕ) (before after : List (List ℕ)) (body bytes : List ℕ) → IsGateAt log at before (body ∷ after) bytes → IsHere log at body bytes
here log at before after body bytes gate = record { tail = tail; split = split; room = room; short = short }
  where
    holds : HoldsLog (before ++ body ∷ after) bytes
    holds = gate.is.holds

    tail : List ℕ
    tail = log_bytes after ++ holds.gate ∷ holds.rest

    all : log_bytes (before ++ body ∷ after) ≡ log_bytes before ++ ((1 ∷ framed body) ++ log_bytes after)
    all = log_bytes-append before (body ∷ after)

    whole : bytes ≡ (log_bytes before ++ 1 ∷ []) ++ (framed body ++ tail)
    whole = holds.split ∙ ap (λ l. l ++ holds.gate ∷ holds.rest) all ∙ regroup (log_bytes before) (framed body) (log_bytes after) (holds.gate ∷ holds.rest)

    split : drop (at + 1) bytes ≡ framed body ++ tail
    split = ap (drop (at + 1)) whole ∙ drop_at (log_bytes before ++ 1 ∷ []) (framed body ++ tail) (at + 1) (length-append (log_bytes before) (1 ∷ []) ∙ ap (λ k. k + 1) (sym gate.place_is))

    room : at + 6 + length body ≤ log.length
    room = omega (arith, gate.place_is, gate.is.ends, ap length all, length-append (log_bytes before) ((1 ∷ framed body) ++ log_bytes after), length-append (1 ∷ framed body) (log_bytes after), length-framed body)

    short : length body < 2 ^ 32
    short = subst (λ b. length b < 2 ^ 32) (get_or_at before body after body (length before) refl) (holds.short (length before) body (omega (arith, length-append before (body ∷ after))))

-- the length that is spelled is the body's
spelled_is : (log : LogState) (at : ℕ) (body bytes : List ℕ) → IsHere log at body bytes → spelled_length (drop (at + 1) bytes) ≡ length body
spelled_is log at body bytes is =
    ap (λ l. from_be_bytes w32 (take 4 l)) (is.split ∙ append_assoc (to_be_bytes w32 (length body)) body is.tail)
    ∙ ap (from_be_bytes w32) (take_at (to_be_bytes w32 (length body)) (body ++ is.tail) 4 refl) ∙ from_be_bytes-to_be_bytes_4 (length body) is.short

count_is : (log : LogState) (at n : ℕ) (body bytes : List ℕ) → IsHere log at body bytes → n < 2 ^ 32 → to_be_bytes w32 n ≡ take 4 (drop (at + 1) bytes) → n ≡ length body
count_is log at n body bytes is small spelled = sym (from_be_bytes-to_be_bytes_4 n small) ∙ ap (from_be_bytes w32) spelled ∙ spelled_is log at body bytes is

-- and what is read then is the body
body_is : (log : LogState) (at n : ℕ) (body bytes : List ℕ) → IsHere log at body bytes → n ≡ length body → take n (drop (at + 5) bytes) ≡ body
body_is log at n body bytes is size =
    ap (take n) (ap (λ k. drop k bytes) (omega arith) ∙ sym (drop-drop 4 (at + 1) bytes) ∙ ap (drop 4) (is.split ∙ append_assoc (to_be_bytes w32 (length body)) body is.tail) ∙ drop_at (to_be_bytes w32 (length body)) (body ++ is.tail) 4 refl)
    ∙ take_at body is.tail n (sym size)

next_gate : (log : LogState) (at n : ℕ) (before after : List (List ℕ)) (body bytes : List ℕ) → IsGateAt log at before (body ∷ after) bytes → n ≡ length body → IsGateAt log (at + 5 + n) (before ++ body ∷ []) after bytes
next_gate log at n before after body bytes gate size = record {
  is = subst (λ l. IsLogOf log l bytes) (sym (append_assoc before (body ∷ []) after)) gate.is;
  place_is = omega (arith, gate.place_is, longer before body);
}

never_lacks : (log : LogState) (at : ℕ) (bytes : List ℕ) (before after : List (List ℕ)) → IsGateAt log at before after bytes → at + 1 < log.length → IsLengthAt at log.length None bytes → ⊥
never_lacks log at bytes before [] gate within lacks = omega (arith, no_body log at before bytes gate)
never_lacks log at bytes before (body ∷ after) gate within lacks =
    let is = here log at before after body bytes gate in
    omega (arith, lacks, is.room, spelled_is log at body bytes is)

replayed_bytes : (log : LogState) (at n : ℕ) (bytes into : List ℕ) (before after : List (List ℕ)) → IsGateAt log at before after bytes → at + 1 < log.length → n < 2 ^ 32 → IsLengthAt at log.length (Some n) bytes → into ≡ take n (drop (at + 5) bytes)
    → IsReplayed log before after (Some (at + 5 + n)) into bytes
replayed_bytes log at n bytes into before [] gate within small spelled given = absurd (omega (arith, no_body log at before bytes gate))
replayed_bytes log at n bytes into before (body ∷ after) gate within small spelled given =
    let size = count_is log at n body bytes (here log at before after body bytes gate) small spelled in
    (given ∙ body_is log at n body bytes (here log at before after body bytes gate) size, next_gate log at n before after body bytes gate size)

-- ---- where the disk may tell what it holds

pub not_lacking : (seen : Option (List ℕ)) (log : LogState) (at : ℕ) → OnTold seen (IsSomeGate log at) → at + 1 < log.length → OnTold seen (IsLengthAt at log.length None) → OnTold seen (λ bytes. ⊥)
not_lacking None log at gate within lacks = tt
not_lacking (Some bytes) log at gate within lacks = never_lacks log at bytes gate.before gate.after gate.at within lacks

pub replayed : (seen : Option (List ℕ)) (log : LogState) (at n : ℕ) (into : List ℕ) (before after : List (List ℕ)) → OnTold seen (IsGateAt log at before after) → at + 1 < log.length → n < 2 ^ 32 → OnTold seen (IsLengthAt at log.length (Some n))
    → OnTold seen (λ bytes. into ≡ take n (drop (at + 5) bytes)) → OnTold seen (IsReplayed log before after (Some (at + 5 + n)) into)
replayed None log at n into before after gate within small spelled given = tt
replayed (Some bytes) log at n into before after gate within small spelled given = replayed_bytes log at n bytes into before after gate within small spelled given

ended_bytes : (log : LogState) (at : ℕ) (bytes into : List ℕ) (before after : List (List ℕ)) → IsGateAt log at before after bytes → log.length ≤ at + 1 → IsReplayed log before after None into bytes
ended_bytes log at bytes into before [] gate past = tt
ended_bytes log at bytes into before (body ∷ after) gate past = omega (arith, (here log at before after body bytes gate).room)

pub ended : (seen : Option (List ℕ)) (log : LogState) (at : ℕ) (into : List ℕ) (before after : List (List ℕ)) → OnTold seen (IsGateAt log at before after) → log.length ≤ at + 1 → OnTold seen (IsReplayed log before after None into)
ended None log at into before after gate past = tt
ended (Some bytes) log at into before after gate past = ended_bytes log at bytes into before after gate past

-- ---- gates of a log

pub first_gate : (seen : Option (List ℕ)) (log : LogState) (images : Image → Type 0) → OnTold seen (IsKept log images) → OnTold seen (IsSomeGate log 0)
first_gate None log images kept = tt
first_gate (Some bytes) log images kept = record { before = []; after = kept.bodies; at = record { is = kept.is; place_is = refl } }

some_next : (log : LogState) (at n : ℕ) (bytes : List ℕ) (before after : List (List ℕ)) → IsGateAt log at before after bytes → at + 1 < log.length → n < 2 ^ 32 → IsLengthAt at log.length (Some n) bytes → IsSomeGate log (at + 5 + n) bytes
some_next log at n bytes before [] gate within small spelled = absurd (omega (arith, no_body log at before bytes gate))
some_next log at n bytes before (body ∷ after) gate within small spelled =
    record { before = before ++ body ∷ []; after = after; at = next_gate log at n before after body bytes gate (count_is log at n body bytes (here log at before after body bytes gate) small spelled) }

pub next_some : (seen : Option (List ℕ)) (log : LogState) (at n : ℕ) → OnTold seen (IsSomeGate log at) → at + 1 < log.length → n < 2 ^ 32 → OnTold seen (IsLengthAt at log.length (Some n)) → OnTold seen (IsSomeGate log (at + 5 + n))
next_some None log at n gate within small spelled = tt
next_some (Some bytes) log at n gate within small spelled = some_next log at n bytes gate.before gate.after gate.at within small spelled

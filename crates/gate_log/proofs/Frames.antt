-- What the two writes of an append leave of a log, wholly or torn.
use Rattle.std.proofs.Common.{◌≡◌, ◌≢◌, inl, inr, ⊎_elim, ℕ, ◌+◌, ◌<◌, ◌≤◌, ◌^◌, List, [], ◌∷◌, ◌++◌, length, get_or, take, drop, All, refl, sym, ◌∙◌, ap, subst, arith, append_assoc, length-append, length-drop, take-append-drop}
use Rattle.std.proofs.lemmas.Bool.{cases_eq}
use Rattle.std.proofs.lemmas.Grind.{same_number_lists}
use Rattle.std.proofs.lemmas.List.{take_at, drop_at, drop_more, append-nil, length-take-le, get_or-take, get_or-drop}
use Rattle.std.proofs.lemmas.List.Elements.{All-push}
use Rattle.std.specs.Int.{to_be_bytes, w32}
use Rattle.mds_out.specs.Disk.{put}
use Rattle.mds_out.specs.Images.{IsTorn}
use Rattle.gate_log.specs.Frame.{framed}
use Rattle.gate_log.specs.Log.{log_bytes, log_length, HoldsLog, IsBeforeOrAfter}

-- a front that is the same place by place
same_front : (old new : List ℕ) (n : ℕ) → n ≤ length old → n ≤ length new → ((offset : ℕ) → offset < n → get_or new offset 0 ≡ get_or old offset 0) → take n new ≡ take n old
same_front old new n in_old in_new same = same_number_lists (take n new) (take n old) (length-take-le n new in_new ∙ sym (length-take-le n old in_old))
    (λ k here. get_or-take n new k 0 (omega (arith, length-take-le n new in_new)) ∙ same k (omega (arith, length-take-le n new in_new)) ∙ sym (get_or-take n old k 0 (omega (arith, length-take-le n new in_new))))

-- a rest that is the same place by place
same_rest : (old new : List ℕ) (n : ℕ) → length old ≡ length new → ((offset : ℕ) → n ≤ offset → offset < length old → get_or new offset 0 ≡ get_or old offset 0) → drop n new ≡ drop n old
same_rest old new n sizes same = same_number_lists (drop n new) (drop n old) (omega (arith, length-drop n new, length-drop n old))
    (λ k here. get_or-drop n new k 0 ∙ same (n + k) (omega arith) (omega (arith, length-drop n new)) ∙ sym (get_or-drop n old k 0))

pub log_bytes-push : (bodies : List (List ℕ)) (body : List ℕ) → log_bytes (bodies ++ body ∷ []) ≡ log_bytes bodies ++ 1 ∷ framed body
log_bytes-push [] body = ap (λ (l : List ℕ). 1 ∷ l) (append-nil (framed body))
log_bytes-push (first ∷ bodies) body = ap (λ (l : List ℕ). 1 ∷ framed first ++ l) (log_bytes-push bodies body) ∙ sym (append_assoc (1 ∷ framed first) (log_bytes bodies) (1 ∷ framed body))

pub length-framed : (body : List ℕ) → length (framed body) ≡ 4 + length body
length-framed body = omega (arith, length-append (to_be_bytes w32 (length body)) body)

-- the log with a body behind its closed gate
abbrev pub staged : List (List ℕ) → ℕ → List ℕ → List ℕ → List ℕ
staged bodies gate body rest = log_bytes bodies ++ gate ∷ framed body ++ 0 ∷ rest

regroup : (front frame rest : List ℕ) (gate : ℕ) → (front ++ gate ∷ []) ++ (frame ++ 0 ∷ []) ++ rest ≡ front ++ gate ∷ frame ++ 0 ∷ rest
regroup front frame rest gate = simp append_assoc

-- a list cut at a place, with the byte there
cut_at : (xs : List ℕ) (n : ℕ) → n < length xs → xs ≡ take n xs ++ get_or xs n 0 ∷ drop (n + 1) xs
cut_at xs n within = sym (take-append-drop n xs) ∙ ap (λ l. take n xs ++ l) (drop_more xs n 0 within)

-- a front and a gate
gate_front : (front rest : List ℕ) (gate : ℕ) → take (length front + 1) (front ++ gate ∷ rest) ≡ front ++ gate ∷ []
gate_front front rest gate = ap (take (length front + 1)) (sym (append_assoc front (gate ∷ []) rest)) ∙ take_at (front ++ gate ∷ []) rest (length front + 1) (length-append front (gate ∷ []))

module _ (bodies : List (List ℕ)) (body : List ℕ) where
  staged_is : (gate : ℕ) (rest : List ℕ) → staged bodies gate body rest ≡ log_bytes bodies ++ gate ∷ (framed body ++ 0 ∷ rest)
  staged_is gate rest = append_assoc (log_bytes bodies) (gate ∷ framed body) (0 ∷ rest)

  -- each outcome of the first write keeps the log
  pub torn_behind : (old new : List ℕ) (count : ℕ) → HoldsLog bodies old → IsTorn (log_length bodies) count old new → HoldsLog bodies new
  torn_behind old new count holds torn =
      let size : length old ≡ length (log_bytes bodies) + (1 + length holds.rest) = omega (arith, ap length holds.split, length-append (log_bytes bodies) (holds.gate ∷ holds.rest)) in
      let kept : take (log_length bodies) new ≡ take (log_length bodies) old = same_front old new (log_length bodies) (omega arith) (omega (arith, torn.no_shorter)) (λ offset low. torn.before offset low (omega arith)) in
      record {
        gate = holds.gate;
        rest = drop (log_length bodies) new;
        split = sym (take-append-drop (log_length bodies) new) ∙ ap (λ l. l ++ drop (log_length bodies) new) (kept ∙ ap (take (log_length bodies)) holds.split ∙ gate_front (log_bytes bodies) holds.rest holds.gate)
            ∙ append_assoc (log_bytes bodies) (holds.gate ∷ []) (drop (log_length bodies) new);
        closed = holds.closed;
        short = holds.short;
      }

  -- the file after the first write
  pub written_behind : (old : List ℕ) (holds : HoldsLog bodies old) → put old (log_length bodies) (framed body ++ 0 ∷ []) ≡ staged bodies holds.gate body (drop (log_length bodies + length (framed body ++ 0 ∷ [])) old)
  written_behind old holds =
      ap (λ l. l ++ (framed body ++ 0 ∷ []) ++ drop (log_length bodies + length (framed body ++ 0 ∷ [])) old) (ap (take (log_length bodies)) holds.split ∙ gate_front (log_bytes bodies) holds.rest holds.gate)
      ∙ regroup (log_bytes bodies) (framed body) (drop (log_length bodies + length (framed body ++ 0 ∷ [])) old) holds.gate

  pub holds_staged : (gate : ℕ) (rest file : List ℕ) → gate ≢ 1 → All (λ b. length b < 2 ^ 32) bodies → file ≡ staged bodies gate body rest → HoldsLog bodies file
  holds_staged gate rest file closed short is = record { gate = gate; rest = framed body ++ 0 ∷ rest; split = is ∙ staged_is gate rest; closed = closed; short = short }

  pub holds_opened : (rest file : List ℕ) → length body < 2 ^ 32 → All (λ b. length b < 2 ^ 32) bodies → file ≡ staged bodies 1 body rest → HoldsLog (bodies ++ body ∷ []) file
  holds_opened rest file fits short is = record { gate = 0; rest = rest; split = is ∙ ap (λ l. l ++ 0 ∷ rest) (sym (log_bytes-push bodies body)); closed = omega arith; short = All-push (λ b. length b < 2 ^ 32) bodies body short fits }

  -- each outcome of the second write keeps the log, with the body or without
  pub torn_gate : (gate : ℕ) (rest new : List ℕ) → length body < 2 ^ 32 → All (λ b. length b < 2 ^ 32) bodies → IsTorn (length (log_bytes bodies)) 1 (staged bodies gate body rest) new → IsBeforeOrAfter bodies body new
  torn_gate gate rest new fits short torn = ⊎_elim
      (λ (open_gate : get_or new offset 0 ≡ 1). inr (holds_opened rest new fits short (whole ∙ ap (λ g. staged bodies g body rest) open_gate)))
      (λ (shut : get_or new offset 0 ≢ 1). inl (holds_staged (get_or new offset 0) rest new shut short whole))
      (cases_eq (get_or new offset 0) 1)
    where
      offset : ℕ
      offset = length (log_bytes bodies)

      old : List ℕ
      old = log_bytes bodies ++ gate ∷ (framed body ++ 0 ∷ rest)

      as_old : staged bodies gate body rest ≡ old
      as_old = staged_is gate rest

      tear : IsTorn offset 1 old new
      tear = subst (λ l. IsTorn offset 1 l new) as_old torn

      size : length old ≡ offset + (1 + length (framed body ++ 0 ∷ rest))
      size = omega (arith, length-append (log_bytes bodies) (gate ∷ (framed body ++ 0 ∷ rest)))

      same : length old ≡ length new
      same = omega (arith, size, tear.no_shorter, tear.no_longer)

      head : take offset new ≡ log_bytes bodies
      head = same_front old new offset (omega (arith, size)) (omega (arith, size, same)) (λ k low. tear.before k low (omega (arith, size))) ∙ take_at (log_bytes bodies) (gate ∷ (framed body ++ 0 ∷ rest)) offset refl

      tail : drop (offset + 1) new ≡ framed body ++ 0 ∷ rest
      tail = same_rest old new (offset + 1) same (λ k high here. tear.behind k high here) ∙ ap (drop (offset + 1)) (sym (append_assoc (log_bytes bodies) (gate ∷ []) (framed body ++ 0 ∷ rest))) ∙ drop_at (log_bytes bodies ++ gate ∷ []) (framed body ++ 0 ∷ rest) (offset + 1) (length-append (log_bytes bodies) (gate ∷ []))

      whole : new ≡ staged bodies (get_or new offset 0) body rest
      whole = cut_at new offset (omega (arith, size, same)) ∙ ap (λ l. l ++ get_or new offset 0 ∷ drop (offset + 1) new) head ∙ ap (λ l. log_bytes bodies ++ get_or new offset 0 ∷ l) tail ∙ sym (staged_is (get_or new offset 0) rest)

  -- the file after the second write
  pub written_gate : (gate : ℕ) (rest : List ℕ) → put (staged bodies gate body rest) (length (log_bytes bodies)) (1 ∷ []) ≡ staged bodies 1 body rest
  written_gate gate rest =
      ap (λ l. put l (length (log_bytes bodies)) (1 ∷ [])) (staged_is gate rest)
      ∙ ap (λ l. l ++ (1 ∷ []) ++ drop (length (log_bytes bodies) + 1) (log_bytes bodies ++ gate ∷ (framed body ++ 0 ∷ rest))) (take_at (log_bytes bodies) (gate ∷ (framed body ++ 0 ∷ rest)) (length (log_bytes bodies)) refl)
      ∙ ap (λ l. log_bytes bodies ++ (1 ∷ []) ++ l) (ap (drop (length (log_bytes bodies) + 1)) (sym (append_assoc (log_bytes bodies) (gate ∷ []) (framed body ++ 0 ∷ rest))) ∙ drop_at (log_bytes bodies ++ gate ∷ []) (framed body ++ 0 ∷ rest) (length (log_bytes bodies) + 1) (length-append (log_bytes bodies) (gate ∷ [])))
      ∙ append_assoc (log_bytes bodies) (1 ∷ []) (framed body ++ 0 ∷ rest)
      ∙ sym (staged_is 1 rest)

  pub longer : log_length (bodies ++ body ∷ []) ≡ log_length bodies + 5 + length body
  longer = omega (arith, ap length (log_bytes-push bodies body), length-append (log_bytes bodies) (1 ∷ framed body), length-framed body)

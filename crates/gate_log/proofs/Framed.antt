-- The body in its frame.
use Rattle.std.proofs.Common.{◌≡◌, ℕ, ◌+◌, ◌-◌, List, [], ◌∷◌, ◌++◌, length, take, drop, refl, sym, ◌∙◌, ap, arith, append_assoc, length-append, length-drop}
use Rattle.std.proofs.lemmas.List.{take_at, drop_at}
use Rattle.std.specs.Int.{to_be_bytes, w32}
use Rattle.gate_log.specs.Frame.{framed, body_in}

pub framed_length : (body bytes : List ℕ) → bytes ≡ framed body ++ 0 ∷ [] → length bytes ≡ 5 + length body
framed_length body bytes is = omega (arith, ap length is, length-append (framed body) (0 ∷ []), length-append (to_be_bytes w32 (length body)) body)

-- the body in its frame
pub body_framed : (body bytes : List ℕ) → bytes ≡ framed body ++ 0 ∷ [] → body_in bytes ≡ body
body_framed body bytes is =
    ap (λ n. take (n - 5) (drop 4 bytes)) (framed_length body bytes is)
    ∙ ap (λ l. take (5 + length body - 5) (drop 4 l)) (is ∙ append_assoc (to_be_bytes w32 (length body)) body (0 ∷ []))
    ∙ ap (take (5 + length body - 5)) (drop_at (to_be_bytes w32 (length body)) (body ++ 0 ∷ []) 4 refl)
    ∙ take_at body (0 ∷ []) (5 + length body - 5) (omega arith)

-- a body behind four bytes, once its length is spelled in these and a gate is behind it
pub framed_behind : (buffer spelled bytes : List ℕ) → spelled ≡ to_be_bytes w32 (length buffer - 4) ++ drop 4 buffer → bytes ≡ spelled ++ 0 ∷ [] → bytes ≡ framed (drop 4 buffer) ++ 0 ∷ []
framed_behind buffer spelled bytes is closed = closed ∙ ap (λ l. l ++ 0 ∷ []) (is ∙ ap (λ n. to_be_bytes w32 n ++ drop 4 buffer) (sym (length-drop 4 buffer)))

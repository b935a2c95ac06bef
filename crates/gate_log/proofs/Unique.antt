-- A file holds one log at most, and a file that is cut short holds none.
use Rattle.std.proofs.Common.{◌≡◌, ◌≢◌, ℕ, suc, ◌<◌, ◌≤◌, ◌^◌, List, [], ◌∷◌, ◌++◌, length, take, drop, All, refl, sym, ◌∙◌, ap, subst, arith, append_assoc, length-append}
use Rattle.std.proofs.lemmas.List.{take_at, drop_at}
use Rattle.std.proofs.lemmas.Nat.{from_be_bytes-to_be_bytes_4}
use Rattle.std.specs.Int.{to_be_bytes, from_be_bytes, w32}
use Rattle.gate_log.specs.Frame.{framed}
use Rattle.gate_log.specs.Log.{log_bytes, HoldsLog, IsCutShort, IsLacking}
use Rattle.gate_log.proofs.Frames.{length-framed}

same_head : (x y : ℕ) (xs ys : List ℕ) → x ∷ xs ≡ y ∷ ys → x ≡ y
same_head x y xs ys is = cc

same_tail : (x y : ℕ) (xs ys : List ℕ) → x ∷ xs ≡ y ∷ ys → xs ≡ ys
same_tail x y xs ys is = cc

-- one body begins the bytes
record IsOneBody (x y p q : List ℕ) : Type 0 where
  same : x ≡ y
  rest : p ≡ q

one_body : (x y p q : List ℕ) → length x < 2 ^ 32 → length y < 2 ^ 32 → framed x ++ p ≡ framed y ++ q → IsOneBody x y p q
one_body x y p q short_x short_y is = record { same = same; rest = rest }
  where
    split : (to_be_bytes w32 (length x)) ++ (x ++ p) ≡ (to_be_bytes w32 (length y)) ++ (y ++ q)
    split = sym (append_assoc (to_be_bytes w32 (length x)) x p) ∙ is ∙ append_assoc (to_be_bytes w32 (length y)) y q

    lengths : length x ≡ length y
    lengths = sym (from_be_bytes-to_be_bytes_4 (length x) short_x) ∙ ap (from_be_bytes w32) (sym (take_at (to_be_bytes w32 (length x)) (x ++ p) 4 refl) ∙ ap (take 4) split ∙ take_at (to_be_bytes w32 (length y)) (y ++ q) 4 refl) ∙ from_be_bytes-to_be_bytes_4 (length y) short_y

    after : x ++ p ≡ y ++ q
    after = sym (drop_at (to_be_bytes w32 (length x)) (x ++ p) 4 refl) ∙ ap (drop 4) split ∙ drop_at (to_be_bytes w32 (length y)) (y ++ q) 4 refl

    same : x ≡ y
    same = sym (take_at x p (length x) refl) ∙ ap (take (length x)) after ∙ take_at y q (length x) (sym lengths)

    rest : p ≡ q
    rest = sym (drop_at x p (length x) refl) ∙ ap (drop (length x)) after ∙ drop_at y q (length x) (sym lengths)

later_short : (x : List ℕ) (xs : List (List ℕ)) → All (λ b. length b < 2 ^ 32) (x ∷ xs) → All (λ b. length b < 2 ^ 32) xs
later_short x xs short = λ k d here. short (suc k) d (omega (arith, here))

first_short : (x : List ℕ) (xs : List (List ℕ)) → All (λ b. length b < 2 ^ 32) (x ∷ xs) → length x < 2 ^ 32
first_short x xs short = short 0 x (omega arith)

peeled : (x y : List ℕ) (xs ys : List (List ℕ)) (p q : List ℕ) → All (λ b. length b < 2 ^ 32) (x ∷ xs) → All (λ b. length b < 2 ^ 32) (y ∷ ys) → log_bytes (x ∷ xs) ++ p ≡ log_bytes (y ∷ ys) ++ q → IsOneBody x y (log_bytes xs ++ p) (log_bytes ys ++ q)
peeled x y xs ys p q short_x short_y is = one_body x y (log_bytes xs ++ p) (log_bytes ys ++ q) (first_short x xs short_x) (first_short y ys short_y)
    (sym (append_assoc (framed x) (log_bytes xs) p) ∙ same_tail 1 1 ((framed x ++ log_bytes xs) ++ p) ((framed y ++ log_bytes ys) ++ q) is ∙ append_assoc (framed y) (log_bytes ys) q)

same_bodies : (a b : List (List ℕ)) (g h : ℕ) (r s : List ℕ) → All (λ x. length x < 2 ^ 32) a → All (λ x. length x < 2 ^ 32) b → g ≢ 1 → h ≢ 1 → log_bytes a ++ g ∷ r ≡ log_bytes b ++ h ∷ s → a ≡ b
same_bodies [] [] g h r s short_a short_b shut_g shut_h is = refl
same_bodies [] (y ∷ ys) g h r s short_a short_b shut_g shut_h is = absurd (shut_g (same_head g 1 r ((framed y ++ log_bytes ys) ++ h ∷ s) is))
same_bodies (x ∷ xs) [] g h r s short_a short_b shut_g shut_h is = absurd (shut_h (sym (same_head 1 h ((framed x ++ log_bytes xs) ++ g ∷ r) s is)))
same_bodies (x ∷ xs) (y ∷ ys) g h r s short_a short_b shut_g shut_h is =
    let one = peeled x y xs ys (g ∷ r) (h ∷ s) short_a short_b is in
    let rest : xs ≡ ys = same_bodies xs ys g h r s (later_short x xs short_a) (later_short y ys short_b) shut_g shut_h one.rest in
    ap (λ z. z ∷ xs) one.same ∙ ap (λ zs. y ∷ zs) rest

pub one_log : (a b : List (List ℕ)) (file : List ℕ) → HoldsLog a file → HoldsLog b file → a ≡ b
one_log a b file first second = same_bodies a b first.gate second.gate first.rest second.rest first.short second.short first.closed second.closed (sym first.split ∙ second.split)

not_lacking : (t : List ℕ) (x p : List ℕ) → length x < 2 ^ 32 → t ≡ 1 ∷ (framed x ++ p) → 1 ≤ length p → IsLacking t → ⊥
not_lacking [] x p short is some lacking = omega (arith, ap length is)
not_lacking (gate ∷ after) x p short is some lacking =
    let tail : after ≡ framed x ++ p = same_tail gate 1 after (framed x ++ p) is in
    let number : from_be_bytes w32 (take 4 after) ≡ length x = ap (λ l. from_be_bytes w32 (take 4 l)) (tail ∙ append_assoc (to_be_bytes w32 (length x)) x p) ∙ ap (from_be_bytes w32) (take_at (to_be_bytes w32 (length x)) (x ++ p) 4 refl) ∙ from_be_bytes-to_be_bytes_4 (length x) short in
    omega (arith, ap length tail, length-append (framed x) p, length-framed x, lacking.1, number)

closed_or_short : (a b : List (List ℕ)) (g : ℕ) (r t : List ℕ) → All (λ x. length x < 2 ^ 32) a → All (λ x. length x < 2 ^ 32) b → g ≢ 1 → IsLacking t → (t ≡ [] → b ≡ []) → log_bytes a ++ g ∷ r ≡ log_bytes b ++ t → ⊥
closed_or_short [] [] g r t short_a short_b shut lacking empty is = let here : IsLacking (g ∷ r) = subst IsLacking (sym is) lacking in shut here.0
closed_or_short [] (y ∷ ys) g r t short_a short_b shut lacking empty is = shut (same_head g 1 r ((framed y ++ log_bytes ys) ++ t) is)
closed_or_short (x ∷ xs) [] g r t short_a short_b shut lacking empty is =
    not_lacking t x (log_bytes xs ++ g ∷ r) (first_short x xs short_a) (sym is ∙ ap (λ l. 1 ∷ l) (append_assoc (framed x) (log_bytes xs) (g ∷ r))) (omega (arith, length-append (log_bytes xs) (g ∷ r))) lacking
closed_or_short (x ∷ xs) (y ∷ ys) g r t short_a short_b shut lacking empty is =
    let one = peeled x y xs ys (g ∷ r) t short_a short_b is in
    closed_or_short xs ys g r t (later_short x xs short_a) (later_short y ys short_b) shut lacking (λ none. not_nil y ys (empty none)) one.rest
  where
    not_nil : (z : List ℕ) (zs : List (List ℕ)) → z ∷ zs ≡ [] → zs ≡ []
    not_nil z zs is_nil = cc

pub no_log : (a : List (List ℕ)) (file : List ℕ) (offset : ℕ) → HoldsLog a file → IsCutShort file offset → ⊥
no_log a file offset holds cut = closed_or_short a cut.bodies holds.gate holds.rest cut.rest holds.short cut.short holds.closed cut.lacking cut.empty (sym holds.split ∙ cut.split)

-- What lacks bytes behind the same bodies' bytes lacks them behind the same bodies.
not_empty : (b : List (List ℕ)) (y : List ℕ) (ys : List (List ℕ)) (u : List ℕ) → b ≡ y ∷ ys → (u ≡ [] → b ≡ []) → 1 ≤ length u
not_empty b y ys [] is empty = absurd (apart (sym is ∙ empty refl))
  where
    apart : y ∷ ys ≡ [] → ⊥
    apart same = cc
not_empty b y ys (first ∷ u) is empty = omega arith

both_short : (a b : List (List ℕ)) (t u : List ℕ) → All (λ x. length x < 2 ^ 32) a → All (λ x. length x < 2 ^ 32) b → IsLacking t → IsLacking u → (t ≡ [] → a ≡ []) → (u ≡ [] → b ≡ []) → log_bytes a ++ t ≡ log_bytes b ++ u → a ≡ b
both_short [] [] t u short_a short_b lacking_t lacking_u empty_t empty_u is = refl
both_short [] (y ∷ ys) t u short_a short_b lacking_t lacking_u empty_t empty_u is =
    absurd (not_lacking t y (log_bytes ys ++ u) (first_short y ys short_b) (is ∙ ap (λ l. 1 ∷ l) (append_assoc (framed y) (log_bytes ys) u)) (omega (arith, length-append (log_bytes ys) u, not_empty (y ∷ ys) y ys u refl empty_u)) lacking_t)
both_short (x ∷ xs) [] t u short_a short_b lacking_t lacking_u empty_t empty_u is =
    absurd (not_lacking u x (log_bytes xs ++ t) (first_short x xs short_a) (sym is ∙ ap (λ l. 1 ∷ l) (append_assoc (framed x) (log_bytes xs) t)) (omega (arith, length-append (log_bytes xs) t, not_empty (x ∷ xs) x xs t refl empty_t)) lacking_u)
both_short (x ∷ xs) (y ∷ ys) t u short_a short_b lacking_t lacking_u empty_t empty_u is =
    let one = peeled x y xs ys t u short_a short_b is in
    let rest : xs ≡ ys = both_short xs ys t u (later_short x xs short_a) (later_short y ys short_b) lacking_t lacking_u (λ none. not_nil x xs (empty_t none)) (λ none. not_nil y ys (empty_u none)) one.rest in
    ap (λ z. z ∷ xs) one.same ∙ ap (λ zs. y ∷ zs) rest
  where
    not_nil : (z : List ℕ) (zs : List (List ℕ)) → z ∷ zs ≡ [] → zs ≡ []
    not_nil z zs is_nil = cc

pub one_place : (file : List ℕ) (offset other : ℕ) → IsCutShort file offset → IsCutShort file other → offset ≡ other
one_place file offset other first second =
    let same = both_short first.bodies second.bodies first.rest second.rest first.short second.short first.lacking second.lacking first.empty second.empty (sym first.split ∙ second.split) in
    first.place_is ∙ ap (λ bodies. length (log_bytes bodies)) same ∙ sym second.place_is

-- The chain as a list, and its elements one after another.
use Rattle.std.proofs.Common.{◌≡◌, ℕ, zero, suc, ◌+◌, ◌-◌, ◌*◌, ◌/◌, ◌%◌, ◌^◌, ◌<◌, ◌≤◌, ◌⊎◌, ◌↔◌, ◌==◌, inl, inr, List, [], ◌∷◌, ◌++◌, cond, length, slice_index, Contains, sym, refl, ap, ◌∙◌, subst, arith, pow-suc, pow_pos, pow_mono, mod-eq_of_lt}
use Rattle.std.specs.List.Sorted.{IsStrictlyIncreasing}
use Rattle.std.proofs.Math.Nat.{mod-one, mod-le}
use Rattle.std.proofs.lemmas.Bool.{cases_lt, cases_eq, eq-eqb, ne_eqb}
use Rattle.std.proofs.lemmas.List.Elements.{Contains-append_left, Contains-append_right, Contains-append_cases, Contains-get_or}
use Rattle.std.proofs.lemmas.List.{length_push, get_or_push, get_or_append_left}
use Rattle.std.proofs.lemmas.Nat.{mod-mul-add, mod-pow-add, shr_split}
use Rattle.std.specs.Int.{bit_at}
use Rattle.chains.specs.Chain.{chain_of, OnChain, IsLastOnChain, IsNextOnChain}
use Rattle.chains.proofs.Remainders.{mod_below, mod_under, mod_rises, mod_step}

chain_none : (h : ℕ) → chain_of 0 h ≡ 0 ∷ []
unfolding chain_of
chain_none h = refl

chain_more : (r h : ℕ) → chain_of (suc r) h ≡ cond (h % 2 ^ suc r == h % 2 ^ r) (chain_of r h) (chain_of r h ++ (h % 2 ^ suc r) ∷ [])
unfolding chain_of
chain_more r h = refl

-- a bit that is not set adds nothing to the chain
pub chain_unset : (r h : ℕ) → bit_at h r ≡ 0 → chain_of (suc r) h ≡ chain_of r h
chain_unset r h unset =
    elim (mod_step h r) [
      | inl w ↦ chain_more r h ∙ ap (λ b. cond b (chain_of r h) (chain_of r h ++ (h % 2 ^ suc r) ∷ [])) (eq-eqb (h % 2 ^ suc r) (h % 2 ^ r) w.1)
      | inr w ↦ absurd (omega (arith, w.0))
    ]

-- and a bit that is set adds the sum with its power
pub chain_set : (r h : ℕ) → bit_at h r ≡ 1 → chain_of (suc r) h ≡ chain_of r h ++ (h % 2 ^ r + 2 ^ r) ∷ []
chain_set r h one =
    elim (mod_step h r) [
      | inl w ↦ absurd (omega (arith, w.0))
      | inr w ↦
          chain_more r h
          ∙ (ap (λ b. cond b (chain_of r h) (chain_of r h ++ (h % 2 ^ suc r) ∷ [])) (ne_eqb (h % 2 ^ suc r) (h % 2 ^ r) (λ e. absurd (omega (arith, w.1, e, pow_pos r))))
          ∙ ap (λ x. chain_of r h ++ x ∷ []) w.1)
    ]

one_only : (x y : ℕ) → Contains (x ∷ []) y → y ≡ x
one_only x y (zero, low, is) = sym is
one_only x y (suc k, low, is) = absurd (omega arith)

one_held : (x y : ℕ) → y ≡ x → Contains (x ∷ []) y
one_held x y e = (0, omega arith, sym e)

deeper : {r h x : ℕ} → OnChain r h x → OnChain (suc r) h x
deeper {r} on = record { depth = on.depth; within = omega (arith, on.within); remainder = on.remainder }

shallow : {r h x : ℕ} (on : OnChain (suc r) h x) → OnChain r h x ⊎ (x ≡ h % 2 ^ suc r)
shallow {r} {h} {x} on =
    elim (cases_eq on.depth (suc r)) [
      | inl e ↦ inr (on.remainder ∙ ap (λ d. h % 2 ^ d) e)
      | inr ne ↦ inl (record { depth = on.depth; within = omega (arith, on.within); remainder = on.remainder })
    ]

pub chain_contains : (r h x : ℕ) → Contains (chain_of r h) x ↔ OnChain r h x
chain_contains zero h x = (
  λ has.
      let e : x ≡ 0 = one_only 0 x (subst (λ (xs : List ℕ). Contains xs x) (chain_none h) has) in
      record { depth = 0; within = omega arith; remainder = e ∙ sym (mod-one h) },
  λ on.
      let e : on.depth ≡ 0 = omega (arith, on.within) in
      subst (λ (xs : List ℕ). Contains xs x) (sym (chain_none h)) (one_held 0 x (on.remainder ∙ (ap (λ d. h % 2 ^ d) e ∙ mod-one h))),
)
chain_contains (suc r) h x =
    elim (mod_step h r) [
      | inl w ↦
          let e = chain_unset r h w.0 in (
            λ has. deeper ((chain_contains r h x).0 (subst (λ (xs : List ℕ). Contains xs x) e has)),
            λ on. subst (λ (xs : List ℕ). Contains xs x) (sym e) ((chain_contains r h x).1 (elim (shallow on) [
              | inl low ↦ low
              | inr top ↦ record { depth = r; within = omega arith; remainder = top ∙ w.1 }
            ])),
          )
      | inr w ↦
          let e = chain_set r h w.0 in (
            λ has. elim (Contains-append_cases (chain_of r h) ((h % 2 ^ r + 2 ^ r) ∷ []) x (subst (λ (xs : List ℕ). Contains xs x) e has)) [
              | inl low ↦ deeper ((chain_contains r h x).0 low)
              | inr top ↦ record { depth = suc r; within = omega arith; remainder = one_only (h % 2 ^ r + 2 ^ r) x top ∙ sym w.1 }
            ],
            λ on. subst (λ (xs : List ℕ). Contains xs x) (sym e) (elim (shallow on) [
              | inl low ↦ Contains-append_left (chain_of r h) ((h % 2 ^ r + 2 ^ r) ∷ []) x ((chain_contains r h x).1 low)
              | inr top ↦ Contains-append_right (chain_of r h) ((h % 2 ^ r + 2 ^ r) ∷ []) x (one_held (h % 2 ^ r + 2 ^ r) x (top ∙ w.1))
            ]),
          )
    ]

-- a rising list with a greater number behind it rises
rising_push : (xs : List ℕ) (x : ℕ) → IsStrictlyIncreasing xs → ((y : ℕ) → Contains xs y → y < x) → IsStrictlyIncreasing (xs ++ x ∷ [])
rising_push xs x up below k lt =
    let low : k < length xs = omega (arith, length_push xs x) in
    let front : slice_index (xs ++ x ∷ []) k ≡ slice_index xs k = get_or_append_left xs (x ∷ []) 0 k low in
    elim (cases_lt (k + 1) (length xs)) [
      | inl more ↦ omega (arith, front, get_or_append_left xs (x ∷ []) 0 (k + 1) more, up k more)
      | inr end ↦
          omega (arith, front, get_or_push xs x 0 (k + 1) (omega arith), below (slice_index xs k) (Contains-get_or xs k 0 low))
    ]

pub chain_rising : (r h : ℕ) → IsStrictlyIncreasing (chain_of r h)
chain_rising zero h = subst IsStrictlyIncreasing (sym (chain_none h)) (λ k lt. absurd (omega arith))
chain_rising (suc r) h =
    elim (mod_step h r) [
      | inl w ↦ subst IsStrictlyIncreasing (sym (chain_unset r h w.0)) (chain_rising r h)
      | inr w ↦
          subst IsStrictlyIncreasing (sym (chain_set r h w.0))
          (rising_push (chain_of r h) (h % 2 ^ r + 2 ^ r) (chain_rising r h)
          (λ y has.
          let on = (chain_contains r h y).0 has in
          omega (arith, on.remainder, mod_rises h on.depth r on.within, pow_pos r)))
    ]

pub chain_length : (r h : ℕ) → length (chain_of r h) ≤ r + 1
chain_length zero h = omega (arith, ap length (chain_none h))
chain_length (suc r) h =
    elim (mod_step h r) [
      | inl w ↦ omega (arith, ap length (chain_unset r h w.0), chain_length r h)
      | inr w ↦
          omega (arith, ap length (chain_set r h w.0), length_push (chain_of r h) (h % 2 ^ r + 2 ^ r), chain_length r h)
    ]

-- ---- one element after another

pub last_is : {r h : ℕ} (part : ℕ) → h % 2 ^ r ≡ part → IsLastOnChain r h part
last_is {r} {h} part is x on = omega (arith, on.remainder, mod_rises h on.depth r on.within)

pub next_is : {r : ℕ} (h part t : ℕ) → t < r → h % 2 ^ t ≡ part → h % 2 ^ suc t ≡ part + 2 ^ t → IsNextOnChain r h part (part + 2 ^ t)
next_is {r} h part t deep here more = record {
  on = record { depth = suc t; within = deep; remainder = sym more };
  above = omega (arith, pow_pos t);
  least = λ x on up.
      elim (cases_lt t on.depth) [
        | inl lt ↦ omega (arith, on.remainder, mod_rises h (suc t) on.depth lt)
        | inr le ↦ absurd (omega (arith, on.remainder, mod_rises h on.depth t le))
      ];
}

-- a number whose low bits are all unset
none_below : (n t : ℕ) → ((i : ℕ) → i < t → bit_at n i ≡ 0) → n % 2 ^ t ≡ 0
none_below n zero unset = mod-one n
none_below n (suc t) unset =
    elim (mod_step n t) [
      | inl w ↦ w.1 ∙ none_below n t (λ i lt. unset i (omega arith))
      | inr w ↦ absurd (omega (arith, w.0, unset t (omega arith)))
    ]

-- the lowest bit of what the hash has past an element of the chain leads to the next
pub next_by_lowest : {r h part : ℕ} → OnChain r h part → (rest t : ℕ) → h % 2 ^ r ≡ part + rest → bit_at rest t ≡ 1 → ((i : ℕ) → i < t → bit_at rest i ≡ 0) → IsNextOnChain r h part (part + 2 ^ t)
next_by_lowest {r} {h} {part} on rest t whole one unset =
    let d = on.depth in
    let low : part < 2 ^ d = omega (arith, on.remainder, mod_below h d) in
    let clear = none_below rest t unset in
    let power : rest % 2 ^ suc t ≡ 2 ^ t = elim (mod_step rest t) [ inl w ↦ absurd (omega (arith, w.0)) | inr w ↦ omega (arith, w.1) ] in
    let split : r - d + d ≡ r = omega (arith, on.within) in
    let upper = h / 2 ^ d % 2 ^ (r - d) in
    let high : rest ≡ upper * 2 ^ d + 0 = omega (arith, ap (λ k. h % 2 ^ k) split, mod-pow-add h (r - d) d, on.remainder) in
    let free : rest % 2 ^ d ≡ 0 = ap (λ x. x % 2 ^ d) high ∙ mod-mul-add upper (2 ^ d) 0 (pow_pos d) in
    let le : d ≤ t = elim (cases_lt t d) [
      | inr le ↦ le
      | inl lt ↦ absurd (omega (arith, mod_under rest (suc t) d lt, ap (λ x. x % 2 ^ suc t) free, power, pow_pos t, zero_mod (2 ^ suc t) (pow_pos (suc t))))
    ] in
    let fits : part < 2 ^ t = omega (arith, pow_mono {i = d} {j = t} le) in
    let deep : t < r = elim (cases_lt t r) [
      | inl lt ↦ lt
      | inr past ↦ absurd (omega (arith, mod_below h r, pow_mono {i = r} {j = t} past, power, mod_le rest (2 ^ suc t)))
    ] in
    let whole_t : rest + part ≡ rest / 2 ^ t * 2 ^ t + part = omega (arith, shr_split rest t, clear) in
    let here : h % 2 ^ t ≡ part = sym (mod_under h t r (omega arith)) ∙ (ap (λ x. x % 2 ^ t) (whole ∙ (omega arith ∙ whole_t)) ∙ mod-mul-add (rest / 2 ^ t) (2 ^ t) part fits) in
    let whole_s : part + rest ≡ rest / 2 ^ suc t * 2 ^ suc t + (part + 2 ^ t) = omega (arith, shr_split rest (suc t), power) in
    let fits_s : part + 2 ^ t < 2 ^ suc t = omega (arith, pow-suc 2 t) in
    let more : h % 2 ^ suc t ≡ part + 2 ^ t = sym (mod_under h (suc t) r deep) ∙ (ap (λ x. x % 2 ^ suc t) (whole ∙ whole_s) ∙ mod-mul-add (rest / 2 ^ suc t) (2 ^ suc t) (part + 2 ^ t) fits_s) in
    next_is h part t deep here more
  where
    zero_mod : (m : ℕ) → 0 < m → 0 % m ≡ 0
    zero_mod m pos = mod-eq_of_lt pos

    mod_le : (n m : ℕ) → n % m ≤ n
    mod_le n m = mod-le n m

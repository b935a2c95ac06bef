-- Remainders modulo powers of two.
use Rattle.std.proofs.Common.{◌≡◌, ℕ, zero, suc, ◌+◌, ◌-◌, ◌*◌, ◌%◌, ◌^◌, ◌<◌, ◌≤◌, ◌⊎◌, inl, inr, refl, ap, ◌∙◌, subst, arith, pow-suc, pow_pos, pow_mono, mod-lt}
use Rattle.std.proofs.Math.Pow.{mod-mod-pow}
use Rattle.std.proofs.Math.Nat.{mod-le}
use Rattle.std.proofs.lemmas.Nat.{mod-pow-add}
use Rattle.std.proofs.lemmas.Nat.Bits.{bit_at-lt}
use Rattle.std.proofs.lemmas.Bool.{cases_lt}
use Rattle.std.specs.Int.{bit_at}

pub mod_below : (h d : ℕ) → h % 2 ^ d < 2 ^ d
mod_below h d = mod-lt h (pow_pos d)

-- a shorter remainder of a longer one
pub mod_under : (h i j : ℕ) → i ≤ j → h % 2 ^ j % 2 ^ i ≡ h % 2 ^ i
mod_under h i j le =
    let e : j - i + i ≡ j = omega arith in
    subst (λ (k : ℕ). h % 2 ^ k % 2 ^ i ≡ h % 2 ^ i) e (mod-mod-pow h (j - i) i)

-- a longer remainder is not less
pub mod_rises : (h i j : ℕ) → i ≤ j → h % 2 ^ i ≤ h % 2 ^ j
mod_rises h i j le = omega (arith, mod_under h i j le, mod-le (h % 2 ^ j) (2 ^ i))

pub one_more : (h d : ℕ) → h % 2 ^ suc d ≡ bit_at h d * 2 ^ d + h % 2 ^ d
one_more h d =
    let e : 1 + d ≡ suc d = omega arith in
    subst (λ (k : ℕ). h % 2 ^ k ≡ bit_at h d * 2 ^ d + h % 2 ^ d) e (mod-pow-add h 1 d)

zero_or_one : (n : ℕ) → n < 2 → (n ≡ 0) ⊎ (n ≡ 1)
zero_or_one zero lt = inl refl
zero_or_one (suc zero) lt = inr refl
zero_or_one (suc (suc n)) lt = absurd (omega arith)

-- one digit more leaves the remainder, or adds its power
pub mod_step : (h d : ℕ) → ((bit_at h d ≡ 0) × (h % 2 ^ suc d ≡ h % 2 ^ d)) ⊎ ((bit_at h d ≡ 1) × (h % 2 ^ suc d ≡ h % 2 ^ d + 2 ^ d))
mod_step h d =
    elim (zero_or_one (bit_at h d) (bit_at-lt h d)) [
      | inl e ↦ inl (e, one_more h d ∙ ap (λ b. b * 2 ^ d + h % 2 ^ d) e ∙ omega arith)
      | inr e ↦ inr (e, one_more h d ∙ ap (λ b. b * 2 ^ d + h % 2 ^ d) e ∙ omega arith)
    ]

-- the greater power belongs to the greater exponent
pub exponent_below : (i j : ℕ) → 2 ^ i < 2 ^ j → i < j
exponent_below i j lt =
    elim (cases_lt i j) [ inl below ↦ below | inr le ↦ absurd (omega (arith, pow_mono {i = j} {j = i} le)) ]

-- a number's highest power and the rest are its own
pub same_top : (p q i j : ℕ) → p < 2 ^ i → q < 2 ^ j → p + 2 ^ i ≡ q + 2 ^ j → (i ≡ j) × (p ≡ q)
same_top p q i j lp lq e =
    let up : 2 ^ i < 2 ^ suc j = omega (arith, pow-suc 2 j) in
    let down : 2 ^ j < 2 ^ suc i = omega (arith, pow-suc 2 i) in
    let same : i ≡ j = omega (arith, exponent_below i (suc j) up, exponent_below j (suc i) down) in
    (same, omega (arith, ap (λ k. 2 ^ k) same))

-- Six steps, each of which lets the bits of a mask and those above them change places, turn 64 bits round.
use Rattle.std.proofs.Common.{◌≡◌, ◌∙◌, sym, ap, refl, ℕ, zero, suc, ◌+◌, ◌-◌, ◌*◌, ◌/◌, ◌%◌, ◌^◌, ◌<◌, ◌≤◌, ◌==◌, ◌&&◌, ◌||◌, nat_lt, nat_le, Bool, true, min, bit_and, arith, pow_pos, inl, inr, lit<}
use Rattle.std.proofs.lemmas.Bool.{cases_lt, agree_below_at, eqb-true, and_parts, leb-true}
use Rattle.std.proofs.lemmas.Nat.{or_lt, and_le_r, mod_below}
use Rattle.std.proofs.lemmas.Nat.Bits.{bit_at-lt, bit_at_and, bit_at_or, same_from_bits_below}
use Rattle.std.specs.Int.{bit_at}
use Rattle.chains.specs.Reversed.{reversed}
use Rattle.chains.specs.Swapped.{swapped}
use Rattle.chains.proofs.Reversals.{reversed_below, reversed_bit}
use Rattle.chains.proofs.Shifts.{bit_at_shr, bit_at_shl_low, bit_at_shl_high}

-- ---- one step, at one bit

upper : (by mask n i : ℕ) → bit_at (bit_and (n / 2 ^ by) mask) i ≡ min (bit_at n (by + i)) (bit_at mask i)
upper by mask n i = bit_at_and (n / 2 ^ by) mask i ∙ ap (λ x. min x (bit_at mask i)) (bit_at_shr n by i)

lower_none : (by x i : ℕ) → i < 64 → i < by → bit_at (x * 2 ^ by % 2 ^ 64) i ≡ 0
lower_none by x i within lt = bit_at_shl_low 64 x by i within lt

lower_some : (by mask n i : ℕ) → i < 64 → by ≤ i → bit_at (bit_and n mask * 2 ^ by % 2 ^ 64) i ≡ min (bit_at n (i - by)) (bit_at mask (i - by))
lower_some by mask n i within le =
    bit_at_shl_high 64 (bit_and n mask) by i within le ∙ bit_at_and n mask (i - by)

-- where the bit at i comes from, by the mask's bit there
abbrev turned_by : ℕ → ℕ → ℕ → ℕ
turned_by by i zero = i - by
turned_by by i (suc here) = by + i

-- the mask is right at i, by its bits there and `by` below
abbrev is_right : ℕ → ℕ → ℕ → ℕ → Bool
is_right by i zero there = nat_le by i && there == 1
is_right by i (suc here) there = nat_lt i by || there == 0

swapped_at : (by mask n i here there : ℕ) → bit_at mask i ≡ here → bit_at mask (i - by) ≡ there → i < 64 → is_right by i here there ≡ true → bit_at (swapped by mask n) i ≡ bit_at n (turned_by by i here)
swapped_at by mask n i zero there is other within right =
    let parts = and_parts _ _ right in
    let le : by ≤ i = leb-true by i parts.0 in
    let one : there ≡ 1 = eqb-true there 1 parts.1 in
    omega (arith, bit_at_or (bit_and (n / 2 ^ by) mask) (bit_and n mask * 2 ^ by % 2 ^ 64) i, upper by mask n i, lower_some by mask n i within le, bit_at-lt n (i - by))
swapped_at by mask n i (suc here) there is other within right =
    let bound = bit_at-lt mask i in
    elim (cases_lt i by) [
      | inl lt ↦ omega (arith, bit_at_or (bit_and (n / 2 ^ by) mask) (bit_and n mask * 2 ^ by % 2 ^ 64) i, upper by mask n i, lower_none by (bit_and n mask) i within lt, bit_at-lt n (by + i))
      | inr le ↦
          let none : there ≡ 0 = grind arith in
          omega (arith, bit_at_or (bit_and (n / 2 ^ by) mask) (bit_and n mask * 2 ^ by % 2 ^ 64) i, upper by mask n i, lower_some by mask n i within le, bit_at-lt n (by + i))
    ]

-- ---- a step, at each of the 64 bits

abbrev turned : ℕ → ℕ → ℕ → ℕ
turned by mask i = turned_by by i (bit_at mask i)

abbrev is_step : ℕ → ℕ → ℕ → Bool
is_step by mask i = is_right by i (bit_at mask i) (bit_at mask (i - by)) && nat_lt (turned by mask i) 64

record Steps (by mask : ℕ) : Type 0 where
  pub right : (i : ℕ) → i < 64 → is_step by mask i ≡ true

swaps : {by mask : ℕ} → Steps by mask → (n i : ℕ) → i < 64 → bit_at (swapped by mask n) i ≡ bit_at n (turned by mask i)
swaps {by} {mask} steps n i within = swapped_at by mask n i (bit_at mask i) (bit_at mask (i - by)) refl refl within (and_parts _ _ (steps.right i within)).0

stays : {by mask : ℕ} → Steps by mask → (i : ℕ) → i < 64 → turned by mask i < 64
stays {by} {mask} steps i within = leb-true (suc (turned by mask i)) 64 (and_parts _ _ (steps.right i within)).1

step1 : Steps 1 0x5555_5555_5555_5555
step1 = record { right = λ i lt. agree_below_at (is_step 1 0x5555_5555_5555_5555) (λ i. true) 64 i refl lt }

step2 : Steps 2 0x3333_3333_3333_3333
step2 = record { right = λ i lt. agree_below_at (is_step 2 0x3333_3333_3333_3333) (λ i. true) 64 i refl lt }

step4 : Steps 4 0x0f0f_0f0f_0f0f_0f0f
step4 = record { right = λ i lt. agree_below_at (is_step 4 0x0f0f_0f0f_0f0f_0f0f) (λ i. true) 64 i refl lt }

step8 : Steps 8 0x00ff_00ff_00ff_00ff
step8 = record { right = λ i lt. agree_below_at (is_step 8 0x00ff_00ff_00ff_00ff) (λ i. true) 64 i refl lt }

step16 : Steps 16 0x0000_ffff_0000_ffff
step16 = record { right = λ i lt. agree_below_at (is_step 16 0x0000_ffff_0000_ffff) (λ i. true) 64 i refl lt }

step32 : Steps 32 0x0000_0000_ffff_ffff
step32 = record { right = λ i lt. agree_below_at (is_step 32 0x0000_0000_ffff_ffff) (λ i. true) 64 i refl lt }

swapped_below : (by mask n : ℕ) → mask < 2 ^ 64 → swapped by mask n < 2 ^ 64
swapped_below by mask n lt = or_lt 64 (bit_and (n / 2 ^ by) mask) (bit_and n mask * 2 ^ by % 2 ^ 64) (omega (arith, and_le_r (n / 2 ^ by) mask, lt)) (mod_below (bit_and n mask * 2 ^ by) (2 ^ 64) (pow_pos 64))

-- ---- all six_swaps

abbrev from_place : ℕ → ℕ
from_place i = turned 1 0x5555_5555_5555_5555 (turned 2 0x3333_3333_3333_3333 (turned 4 0x0f0f_0f0f_0f0f_0f0f (turned 8 0x00ff_00ff_00ff_00ff (turned 16 0x0000_ffff_0000_ffff (turned 32 0x0000_0000_ffff_ffff i)))))

from_place_is : (i : ℕ) → i < 64 → from_place i ≡ 64 - suc i
from_place_is i lt = eqb-true (from_place i) (64 - suc i) (agree_below_at (λ i. from_place i == 64 - suc i) (λ i. true) 64 i refl lt)

abbrev pub six_swaps : ℕ → ℕ
six_swaps n = swapped 32 0x0000_0000_ffff_ffff (swapped 16 0x0000_ffff_0000_ffff (swapped 8 0x00ff_00ff_00ff_00ff (swapped 4 0x0f0f_0f0f_0f0f_0f0f (swapped 2 0x3333_3333_3333_3333 (swapped 1 0x5555_5555_5555_5555 n)))))

pub six_swaps_reverse : (n : ℕ) → six_swaps n ≡ reversed 64 n
six_swaps_reverse n = same_from_bits_below 64 (six_swaps n) (reversed 64 n) (swapped_below 32 0x0000_0000_ffff_ffff (swapped 16 0x0000_ffff_0000_ffff (swapped 8 0x00ff_00ff_00ff_00ff (swapped 4 0x0f0f_0f0f_0f0f_0f0f (swapped 2 0x3333_3333_3333_3333 (swapped 1 0x5555_5555_5555_5555 n))))) (lit< tt)) (reversed_below 64 n) same
  where
    same : (i : ℕ) → i < 64 → bit_at (six_swaps n) i ≡ bit_at (reversed 64 n) i
    same i w0 =
        let n1 = swapped 1 0x5555_5555_5555_5555 n in
        let n2 = swapped 2 0x3333_3333_3333_3333 n1 in
        let n4 = swapped 4 0x0f0f_0f0f_0f0f_0f0f n2 in
        let n8 = swapped 8 0x00ff_00ff_00ff_00ff n4 in
        let n16 = swapped 16 0x0000_ffff_0000_ffff n8 in
        let w1 = stays step32 i w0 in
        let w2 = stays step16 _ w1 in
        let w3 = stays step8 _ w2 in
        let w4 = stays step4 _ w3 in
        let w5 = stays step2 _ w4 in
        swaps step32 n16 i w0
        ∙ swaps step16 n8 _ w1
        ∙ swaps step8 n4 _ w2
        ∙ swaps step4 n2 _ w3
        ∙ swaps step2 n1 _ w4
        ∙ swaps step1 n _ w5
        ∙ ap (bit_at n) (from_place_is i w0)
        ∙ sym (reversed_bit 64 n i w0)

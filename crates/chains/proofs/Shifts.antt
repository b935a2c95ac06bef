-- The bits of a number that was shifted, at a width.
use Rattle.std.proofs.Common.{◌≡◌, ℕ, ◌+◌, ◌-◌, ◌*◌, ◌/◌, ◌%◌, ◌^◌, ◌<◌, ◌≤◌, sym, ap, ◌∙◌, pow_pos, add-zero}
use Rattle.std.proofs.lemmas.Nat.{shr-shr, shr_split}
use Rattle.std.proofs.lemmas.Nat.Bits.{bit_at_cat_low, bit_at_cat_high, bit_at-zero}
use Rattle.std.specs.Int.{bit_at}

pub bit_at_shr : (n by i : ℕ) → bit_at (n / 2 ^ by) i ≡ bit_at n (by + i)
bit_at_shr n by i = ap (λ x. x % 2) (shr-shr n by i)

pub bit_at_low : (n k i : ℕ) → i < k → bit_at (n % 2 ^ k) i ≡ bit_at n i
bit_at_low n k i lt = sym (bit_at_cat_low (n / 2 ^ k) k (n % 2 ^ k) i lt) ∙ ap (λ x. bit_at x i) (shr_split n k)

pub bit_at_shl_low : (width n by i : ℕ) → i < width → i < by → bit_at (n * 2 ^ by % 2 ^ width) i ≡ 0
bit_at_shl_low width n by i within lt =
    bit_at_low (n * 2 ^ by) width i within
    ∙ (ap (λ y. bit_at y i) (sym (add-zero (n * 2 ^ by))) ∙ (bit_at_cat_low n by 0 i lt ∙ bit_at-zero i))

pub bit_at_shl_high : (width n by i : ℕ) → i < width → by ≤ i → bit_at (n * 2 ^ by % 2 ^ width) i ≡ bit_at n (i - by)
bit_at_shl_high width n by i within le =
    bit_at_low (n * 2 ^ by) width i within
    ∙ (ap (λ y. bit_at y i) (sym (add-zero (n * 2 ^ by))) ∙ bit_at_cat_high n by 0 i (pow_pos by) le)

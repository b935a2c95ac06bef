-- A step along a chain by the lowest bit of what the hash has past an element.
use Rattle.std.proofs.Common.{◌≡◌, ℕ, ◌+◌, ◌-◌, ◌*◌, ◌%◌, ◌^◌, ◌<◌, ◌≤◌, w32, sym, ap, subst, arith, pow_mono}
use Rattle.std.specs.Int.{trailing_zeros}
use Rattle.std.proofs.lemmas.Nat.{one_shl}
use Rattle.std.proofs.lemmas.Nat.Bits.{bit_at-trailing_zeros}
use Rattle.chains.specs.Chain.{OnChain, IsLastOnChain, IsNextOnChain}
use Rattle.chains.proofs.Remainders.{mod_below, mod_rises}
use Rattle.chains.proofs.Lists.{last_is, next_by_lowest}

-- the number of partitions as the code writes it
pub all_parts : (r : ℕ) → r ≤ 32 → 1 * 2 ^ r % 2 ^ 64 ≡ 2 ^ r
all_parts r fits = one_shl r 64 (omega arith)

pub low_fits : (r h m : ℕ) → r ≤ 32 → m ≡ 2 ^ r → h % m < 2 ^ 32
low_fits r h m fits is = omega (arith, ap (λ x. h % x) is, mod_below h r, pow_mono {i = r} {j = 32} fits)

pub part_within : {r h part : ℕ} (m : ℕ) → m ≡ 2 ^ r → OnChain r h part → part ≤ h % m
part_within {r} {h} m is on = omega (arith, ap (λ x. h % x) is, on.remainder, mod_rises h on.depth r on.within)

pub last_by_rest : {r h part : ℕ} (m : ℕ) → m ≡ 2 ^ r → OnChain r h part → h % m - part ≡ 0 → IsLastOnChain r h part
last_by_rest {r} {h} {part} m is on none = last_is part (omega (arith, ap (λ x. h % x) is, part_within m is on))

pub next_by_rest : {r h part : ℕ} (m : ℕ) → r ≤ 32 → m ≡ 2 ^ r → OnChain r h part → (h % m - part ≡ 0 → ⊥) → IsNextOnChain r h part (part + 1 * 2 ^ trailing_zeros w32 (h % m - part) % 2 ^ 32)
next_by_rest {r} {h} {part} m fits is on some =
    let rest = h % m - part in
    let t = trailing_zeros w32 rest in
    let within : rest < 2 ^ 32 = omega (arith, low_fits r h m fits is) in
    let lowest = bit_at-trailing_zeros w32 rest (omega arith) within in
    subst (λ (x : ℕ). IsNextOnChain r h part (part + x)) (sym (one_shl t 32 lowest.0))
    (next_by_lowest on rest t (omega (arith, ap (λ x. h % x) is, part_within m is on)) lowest.1 lowest.2)

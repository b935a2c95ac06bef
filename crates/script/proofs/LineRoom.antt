-- How much room a line of text has left.
use Rattle.std.proofs.Common.{◌≡◌, ◌∙◌, sym, ap, subst, ℕ, ◌+◌, ◌-◌, ◌≤◌, ◌<◌, ◌^◌, List, ◌++◌, length, drop, decimal, arith}
use Rattle.std.proofs.lemmas.List.{length-drop, length-append}
use Rattle.std.proofs.lemmas.Fmt.{length-decimal-le}

pub digits_few : (n : ℕ) → n < 2 ^ 64 → length (decimal n) ≤ 20
digits_few n fits = length-decimal-le 20 n (omega arith) (omega (arith, fits)) fits

-- a number that finds room before the text
pub number_fits : (n from : ℕ) (bytes text : List ℕ) → n < 2 ^ 64 → from ≤ length bytes → drop from bytes ≡ text → 20 + length text ≤ length bytes → length (decimal n) ≤ from
number_fits n from bytes text fits within is room =
    let short = digits_few n fits in
    let left = sym (ap length is) ∙ length-drop from bytes in
    omega (arith, short, left, room, within)

pub number_room : (n : ℕ) (before text after : List ℕ) → n < 2 ^ 64 → after ≡ decimal n ++ text → text ≡ before → length after ≤ 20 + length before
number_room n before text after fits is same =
    let short = digits_few n fits in
    let all = ap length is ∙ length-append (decimal n) text in
    let kept = ap length same in
    omega (arith, short, all, kept)

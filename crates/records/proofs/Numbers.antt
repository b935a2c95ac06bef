-- Numbers of some bytes, between two bounds.
use Rattle.std.proofs.Common.{◌≡◌, ◌∙◌, sym, ap, refl, ℕ, zero, suc, ◌+◌, ◌-◌, ◌*◌, ◌/◌, ◌^◌, ◌<◌, ◌≤◌, true, false, List, [], length, get_or, take, drop, add-one, arith, Ok, Err}
use Rattle.std.proofs.Math.Seq.{drop-cons}
use Rattle.std.proofs.lemmas.List.{length-drop, drop_all, take_all}
use Rattle.std.proofs.lemmas.Bool.Decides.{nat_tests}
use Rattle.std.proofs.Math.Nat.{pow-suc, pow-le-pow_right}
use Rattle.records.specs.declared.fault.Fault.TheVariants.{Short, Bad}
use Rattle.records.specs.Reading.{leads_into, byte_where, number_after, number_at}

-- a number of which so many bytes were read: what is left to read gives what all of it gives
pub record Numbers (least most width value place : ℕ) (bytes : List ℕ) : Type 0 where
  pub gives : number_after least most value (width - place) (drop place bytes) ≡ number_at width least most bytes
  pub below : value < 256 ^ place
  pub within : place ≤ length bytes

pub weight_pos : (k : ℕ) → 0 < 256 ^ k
weight_pos zero = omega arith
weight_pos (suc k) = let rest = weight_pos k in omega (arith, pow-suc 256 k)

-- a number of fewer bytes is smaller
pub fewer_bytes : (value k n : ℕ) → value < 256 ^ k → k ≤ n → value < 256 ^ n
fewer_bytes value k n below le = let grows : 256 ^ k ≤ 256 ^ n = pow-le-pow_right (omega arith) le in omega arith

-- room for one byte more
pub has_room : (value place width : ℕ) → value < 256 ^ place → place < width → width ≤ 8 → value < 2 ^ 56
has_room value place width below lt le = fewer_bytes value place 7 below (omega arith)

pub numbers_begin : (least most width : ℕ) (bytes : List ℕ) → Numbers least most width 0 0 bytes
unfolding number_at
numbers_begin least most width bytes = let whole : width - 0 ≡ width = omega arith in record { gives = ap (λ (k : ℕ). number_after least most 0 k bytes) whole; below = weight_pos 0; within = omega arith }

pub no_byte : (least most width value place : ℕ) (bytes : List ℕ) → Numbers least most width value place bytes → place < width → length bytes ≤ place → number_at width least most bytes ≡ Err Short
unfolding number_after byte_where
no_byte least most width value place bytes so_far more none =
    let k : width - place ≡ suc (width - 1 - place) = omega arith in
    let rest : drop place bytes ≡ [] = drop_all place bytes none in
    let step : number_after least most value (width - place) (drop place bytes) ≡ Err Short = rw (k, rest) refl in
    sym so_far.gives ∙ step

pub no_number : (least most width value place : ℕ) (bytes : List ℕ) → Numbers least most width value place bytes → place < width → place < length bytes → leads_into least most (width - 1 - place) (value * 256 + get_or bytes place 0) ≡ false → number_at width least most bytes ≡ Err (Bad (length bytes - place))
unfolding number_after byte_where
no_number least most width value place bytes so_far more some off =
    let k : width - place ≡ suc (width - 1 - place) = omega arith in
    let left : length bytes - place ≡ suc (length (drop (suc place) bytes)) = omega (arith, length-drop (suc place) bytes) in
    let step : number_after least most value (width - place) (drop place bytes) ≡ Err (Bad (length bytes - place)) = rw (k, drop-cons bytes place 0 some, off, left) refl in
    sym so_far.gives ∙ step

pub one_byte : (least most width value place : ℕ) (bytes : List ℕ) → Numbers least most width value place bytes → place < width → place < length bytes → get_or bytes place 0 < 256 → leads_into least most (width - 1 - place) (value * 256 + get_or bytes place 0) ≡ true → Numbers least most width (value * 256 + get_or bytes place 0) (place + 1) bytes
unfolding number_after byte_where
one_byte least most width value place bytes so_far more some byte on =
    let k : width - place ≡ suc (width - 1 - place) = omega arith in
    let same : width - (place + 1) ≡ width - 1 - place = omega arith in
    let step : number_after least most value (width - place) (drop place bytes) ≡ number_after least most (value * 256 + get_or bytes place 0) (width - (place + 1)) (drop (place + 1) bytes) = rw (k, drop-cons bytes place 0 some, on, same, add-one place) refl in
    let grows = pow-suc 256 place in
    record { gives = sym step ∙ so_far.gives; below = rw add-one (omega (arith, so_far.below)); within = omega arith }

pub whole_rest : (n : ℕ) (bytes : List ℕ) → take (length bytes - n) (drop n bytes) ≡ drop n bytes
whole_rest n bytes = take_all (length bytes - n) (drop n bytes) (omega (arith, length-drop n bytes))

pub numbers_end : (least most width value place : ℕ) (bytes : List ℕ) → Numbers least most width value place bytes → place ≡ width → number_at width least most bytes ≡ Ok (value, take (length bytes - width) (drop width bytes))
unfolding number_after
numbers_end least most width value place bytes so_far end =
    let none : width - place ≡ 0 = omega arith in
    let step : number_after least most value (width - place) (drop place bytes) ≡ Ok (value, drop width bytes) = rw (none, end) refl in
    sym so_far.gives ∙ step ∙ ap (λ (rest : List ℕ). Ok (value, rest)) (sym (whole_rest width bytes))

pub weight_fits : (k : ℕ) → k ≤ 7 → 256 ^ k < 2 ^ 64
weight_fits k le = let grows : 256 ^ k ≤ 256 ^ 7 = pow-le-pow_right (omega arith) le in omega arith

-- the tests of a byte
pub leads_on : (least most left value weight : ℕ) → weight ≡ 256 ^ left → least / weight ≤ value → value ≤ most / weight → leads_into least most left value ≡ true
leads_on least most left value weight is low high = rw (← is) (grind (arith, nat_tests))

pub leads_off_low : (least most left value weight : ℕ) → weight ≡ 256 ^ left → value < least / weight → leads_into least most left value ≡ false
leads_off_low least most left value weight is low = rw (← is) (grind (arith, nat_tests))

pub leads_off_high : (least most left value weight : ℕ) → weight ≡ 256 ^ left → most / weight < value → leads_into least most left value ≡ false
leads_off_high least most left value weight is high = rw (← is) (grind (arith, nat_tests))

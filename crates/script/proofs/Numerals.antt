-- Words that are numbers.
use Rattle.std.proofs.Common.{◌≡◌, ◌∙◌, sym, ap, subst, refl, ℕ, ◌+◌, ◌*◌, ◌<◌, ◌≤◌, ◌^◌, zero, suc, List, [], ◌∷◌, ◌++◌, length, take, drop, get_or, take-append-drop, lit<, Bool, cond, arith, Option, Some, None, decimal, nat_eq, nat_lt}
use Rattle.std.specs.Prelude.{◌&&◌}
use Rattle.std.specs.Cmp.Lexicographic.{pointwise}
use Rattle.std.specs.Char.{digit_value}
use Rattle.std.specs.Str.Parse.{AllDigits, digits_value, digits_value_after}
use Rattle.std.proofs.lemmas.Str.Parse.{IsNumeralModel}
use Rattle.std.proofs.lemmas.Bool.{and_parts, and_from, ltb-true, lt-ltb}
use Rattle.std.proofs.lemmas.Option.{cond_some}
use Rattle.std.proofs.lemmas.List.{take_all}
use Rattle.std.proofs.lemmas.Int.Digits.{digits_more, digits_value_more}
use Rattle.std.proofs.lemmas.Slice.Eq.{bytes_eq-Decides}
use Rattle.std.proofs.lemmas.Fmt.{decimal_is_IsNumeral, decimal-digits_value, digits_decimal, decimal_nonempty, decimal_digit, length-decimal-le, first_decimal}
use Rattle.script.specs.Grammar.{IsNumeral}
use Rattle.script.specs.Reading.{number_of}

abbrev is_spelling : List ℕ → ℕ → Bool
is_spelling word n = nat_lt n (2 ^ 64) && pointwise nat_eq (decimal n) word

-- a word is a number where it is that number's spelling
pub number_is : (word : List ℕ) (n : ℕ) → word ≡ decimal n → n < 2 ^ 64 → number_of word ≡ Some n
unfolding number_of
number_is word n is fits =
    let value : digits_value 10 word ≡ n = ap (digits_value 10) is ∙ (decimal_is_IsNumeral n fits).1 in
    ap (λ v. cond (is_spelling word v) (Some v) None) value
    ∙ ap (λ t. cond t (Some n) None) (and_from (nat_lt n (2 ^ 64)) (pointwise nat_eq (decimal n) word) (lt-ltb n (2 ^ 64) fits) ((bytes_eq-Decides (decimal n) word).1 (sym is)))

pub record IsNumber (word : List ℕ) (n : ℕ) : Type 0 where
  pub is : word ≡ decimal n
  pub fits : n < 2 ^ 64

pub number_found : (word : List ℕ) (n : ℕ) → number_of word ≡ Some n → IsNumber word n
unfolding number_of
number_found word n found =
    let parts = cond_some (is_spelling word (digits_value 10 word)) (digits_value 10 word) n found in
    let tests = and_parts (nat_lt (digits_value 10 word) (2 ^ 64)) (pointwise nat_eq (decimal (digits_value 10 word)) word) parts.0 in
    record {
      is = sym ((bytes_eq-Decides (decimal (digits_value 10 word)) word).0 tests.1) ∙ ap decimal parts.1;
      fits = subst (λ v. v < 2 ^ 64) parts.1 (ltb-true (digits_value 10 word) (2 ^ 64) tests.0);
    }

-- a word is no number where it is the spelling of none
pub no_number : (word : List ℕ) → ((n : ℕ) → n < 2 ^ 64 → word ≡ decimal n → ⊥) → number_of word ≡ None
no_number word none = by (number_of word) refl
  where
    by : (o : Option ℕ) → number_of word ≡ o → number_of word ≡ None
    by None is = is
    by (Some n) is = let found = number_found word n is in absurd (none n found.fits found.is)

-- ---- the words that are numbers

own : IsNumeralModel (AllDigits 10) (digits_value 10)
own = record { to = λ digits all. all; from = λ digits all. all; same = λ digits all. refl }

pub numeral_spelled : (word : List ℕ) (n : ℕ) → IsNumeral word → digits_value 10 word ≡ n → (word ≡ decimal n) × (n < 2 ^ 64)
numeral_spelled word n numeral value =
    (sym (decimal-digits_value own word numeral.digits numeral.some numeral.plain numeral.fits) ∙ ap decimal value, subst (λ v. v < 2 ^ 64) value numeral.fits)

plain_decimal : (n : ℕ) → n < 2 ^ 64 → get_or (decimal n) 0 0 ≡ 48 → length (decimal n) ≡ 1
plain_decimal zero fits is = ap length (decimal_digit 0 (lit< tt))
plain_decimal (suc n) fits is = absurd (omega (arith, is, first_decimal (suc n) (omega arith) fits))

pub numeral_of : (n : ℕ) → n < 2 ^ 64 → IsNumeral (decimal n) × (digits_value 10 (decimal n) ≡ n)
numeral_of n fits =
    let both = decimal_is_IsNumeral n fits in (
      record {
        digits = digits_decimal own n fits;
        some = decimal_nonempty n fits;
        few = length-decimal-le 20 n (lit< tt) (omega (arith, fits)) fits;
        plain = plain_decimal n fits;
        fits = subst (λ v. v < 2 ^ 64) (sym both.1) fits;
      },
      both.1,
    )

pub numeral_found : (word : List ℕ) (n : ℕ) → (word ≡ decimal n) × (n < 2 ^ 64) → IsNumeral word × (digits_value 10 word ≡ n)
numeral_found word n spelled = subst (λ w. IsNumeral w × (digits_value 10 w ≡ n)) (sym spelled.0) (numeral_of n spelled.1)

-- ---- What the code does with a word: it reads it digit by digit

-- the spelling of a number begins as a number
pub begins_so : (word : List ℕ) (n : ℕ) → n < 2 ^ 64 → word ≡ decimal n → (0 < length word) × (get_or word 0 0 ≡ 48 → length word ≡ 1)
begins_so word n fits is = let found = numeral_found word n (is, fits) in (found.0.some, found.0.plain)

digit_in : (word : List ℕ) (i : ℕ) → AllDigits 10 word → i < length word → digit_value (get_or word i 0) < 10
digit_in [] i all within = absurd (omega (arith, within))
digit_in (byte ∷ word) zero all within = all.0
digit_in (byte ∷ word) (suc i) all within = digit_in word i all.1 (omega (arith, within))

-- a byte that is no digit
pub no_digit : (word : List ℕ) (i : ℕ) → i < length word → (digit_value (get_or word i 0) < 10 → ⊥) → number_of word ≡ None
no_digit word i within other = no_number word (λ n fits is. other (digit_in word i (numeral_found word n (is, fits)).0.digits within))

le_after : (n : ℕ) (digits : List ℕ) → n ≤ digits_value_after 10 n digits
le_after n [] = omega arith
le_after n (digit ∷ digits) = let more = le_after (n * 10 + digit_value digit) digits in omega (arith, more)

front_after : (n : ℕ) (front digits : List ℕ) → digits_value_after 10 n front ≤ digits_value_after 10 n (front ++ digits)
front_after n [] digits = le_after n digits
front_after n (digit ∷ front) digits = front_after (n * 10 + digit_value digit) front digits

front_value : (word : List ℕ) (i : ℕ) → digits_value 10 (take i word) ≤ digits_value 10 word
front_value word i = subst (λ w. digits_value 10 (take i word) ≤ digits_value 10 w) (take-append-drop i word) (front_after 0 (take i word) (drop i word))

-- digits of a number that is too great
pub too_great : (word : List ℕ) (i : ℕ) → i < length word → 2 ^ 64 ≤ digits_value 10 (take i word) * 10 + digit_value (get_or word i 0) → number_of word ≡ None
too_great word i within great = no_number word (λ n fits is.
    let found = numeral_found word n (is, fits) in
    omega (arith, great, digits_value_more 10 word i within, front_value word (i + 1), found.1, fits))

-- one digit more
pub digit_more : (word : List ℕ) (i number : ℕ) → i < length word → AllDigits 10 (take i word) → number ≡ digits_value 10 (take i word) → digit_value (get_or word i 0) < 10 → AllDigits 10 (take (i + 1) word) × (number * 10 + digit_value (get_or word i 0) ≡ digits_value 10 (take (i + 1) word))
digit_more word i number within all is digit = (digits_more 10 word i within all digit, ap (λ n. n * 10 + digit_value (get_or word i 0)) is ∙ sym (digits_value_more 10 word i within))

-- the product, and the sum, of one digit more
pub product_great : (number value digit : ℕ) → number ≡ value → (number * 10 < 2 ^ 64 → ⊥) → 2 ^ 64 ≤ value * 10 + digit
product_great number value digit is great = omega (arith, is, great)

pub sum_great : (number value product digit wide : ℕ) → number ≡ value → product ≡ number * 10 → wide ≡ digit → (product + wide < 2 ^ 64 → ⊥) → 2 ^ 64 ≤ value * 10 + digit
sum_great number value product digit wide is times same great = omega (arith, is, times, same, great)

pub sum_is : (number product digit wide total : ℕ) → product ≡ number * 10 → wide ≡ digit → total ≡ product + wide → total ≡ number * 10 + digit
sum_is number product digit wide total times same is = omega (arith, times, same, is)

pub whole_number : (word : List ℕ) (i number : ℕ) → length word ≤ i → 0 < length word → (get_or word 0 0 ≡ 48 → length word ≡ 1) → AllDigits 10 (take i word) → number ≡ digits_value 10 (take i word) → number < 2 ^ 64 → number_of word ≡ Some number
whole_number word i number past some alone digits is fits =
    let all = subst (AllDigits 10) (take_all i word past) digits in
    let value : number ≡ digits_value 10 word = is ∙ ap (digits_value 10) (take_all i word past) in
    number_is word number (sym (decimal-digits_value own word all some alone (subst (λ v. v < 2 ^ 64) value fits)) ∙ ap decimal (sym value)) fits

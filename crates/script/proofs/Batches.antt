-- Numbers that are read one after another.
use Rattle.std.proofs.Common.{◌≡◌, ◌∙◌, sym, ap, ℕ, ◌-◌, ◌<◌, zero, suc, List, [], ◌∷◌, ◌++◌, true, false, cond, arith, Option, Some, None, Result, Ok, Err, append_assoc, refl, subst}
use Rattle.std.specs.Result.{IsErrAnd}
use Rattle.std.proofs.lemmas.List.{append-nil}
use Rattle.script.specs.declared.fault.LineFault.{LineFault}
use Rattle.script.specs.declared.fault.LineFault.TheVariants.{NotALine}
use Rattle.script.specs.Answers.{Gives}
use Rattle.script.specs.Reading.{◌>>=◌, is_end, number_at, numbers_at}

-- numbers in front of those that were found
abbrev pub behind_numbers : List ℕ → Option (List ℕ × List ℕ) → Option (List ℕ × List ℕ)
behind_numbers numbers None = None
behind_numbers numbers (Some more) = Some (numbers ++ more.0, more.1)

pub none_before : (found : Option (List ℕ × List ℕ)) → behind_numbers [] found ≡ found
none_before None = refl
none_before (Some more) = refl

moved : (numbers : List ℕ) (number : ℕ) (found : Option (List ℕ × List ℕ)) → behind_numbers numbers (found >>= (λ more. Some (number ∷ more.0, more.1))) ≡ behind_numbers (numbers ++ number ∷ []) found
moved numbers number None = refl
moved numbers number (Some more) = ap (λ l. Some (l, more.1)) (sym (append_assoc numbers (number ∷ []) more.0))

-- one number more
one_more : (left : ℕ) (numbers bytes rest : List ℕ) (number : ℕ) → is_end bytes ≡ false → number_at bytes ≡ Some (number, rest) → behind_numbers (numbers ++ number ∷ []) (numbers_at left rest) ≡ behind_numbers numbers (numbers_at (suc left) bytes)
unfolding numbers_at
one_more left numbers bytes rest number going found = sym (
    ap (λ t. behind_numbers numbers (cond t (Some ([], bytes)) (number_at bytes >>= (λ number. numbers_at left number.1 >>= (λ more. Some (number.0 ∷ more.0, more.1)))))) going
    ∙ ap (λ o. behind_numbers numbers (o >>= (λ number. numbers_at left number.1 >>= (λ more. Some (number.0 ∷ more.0, more.1))))) found
    ∙ moved numbers number (numbers_at left rest))

pub number_more : (most : ℕ) (numbers bytes rest : List ℕ) (number : ℕ) (all : Option (List ℕ × List ℕ)) → 0 < most → is_end bytes ≡ false → number_at bytes ≡ Some (number, rest) → behind_numbers numbers (numbers_at most bytes) ≡ all → behind_numbers (numbers ++ number ∷ []) (numbers_at (most - 1) rest) ≡ all
number_more zero numbers bytes rest number all some going found so_far = absurd (omega (arith, some))
number_more (suc left) numbers bytes rest number all some going found so_far =
    let less : suc left - 1 ≡ left = omega arith in
    ap (λ n. behind_numbers (numbers ++ number ∷ []) (numbers_at n rest)) less ∙ one_more left numbers bytes rest number going found ∙ so_far

-- a word that is no number
pub number_none : (most : ℕ) (numbers bytes : List ℕ) (all : Option (List ℕ × List ℕ)) → 0 < most → is_end bytes ≡ false → number_at bytes ≡ None → behind_numbers numbers (numbers_at most bytes) ≡ all → all ≡ None
unfolding numbers_at
number_none zero numbers bytes all some going none so_far = absurd (omega (arith, some))
number_none (suc left) numbers bytes all some going none so_far =
    sym so_far
    ∙ ap (λ t. behind_numbers numbers (cond t (Some ([], bytes)) (number_at bytes >>= (λ number. numbers_at left number.1 >>= (λ more. Some (number.0 ∷ more.0, more.1)))))) going
    ∙ ap (λ o. behind_numbers numbers (o >>= (λ number. numbers_at left number.1 >>= (λ more. Some (number.0 ∷ more.0, more.1))))) none

at_end : (most : ℕ) (bytes : List ℕ) → is_end bytes ≡ true → numbers_at most bytes ≡ Some ([], bytes)
unfolding numbers_at
at_end zero bytes end = refl
at_end (suc left) bytes end = ap (λ t. cond t (Some ([], bytes)) (number_at bytes >>= (λ number. numbers_at left number.1 >>= (λ more. Some (number.0 ∷ more.0, more.1))))) end

at_zero : (most : ℕ) (bytes : List ℕ) → most ≡ 0 → numbers_at most bytes ≡ Some ([], bytes)
unfolding numbers_at
at_zero zero bytes none = refl
at_zero (suc left) bytes none = absurd (omega (arith, none))

done : (numbers bytes : List ℕ) (found all : Option (List ℕ × List ℕ)) → found ≡ Some ([], bytes) → behind_numbers numbers found ≡ all → all ≡ Some (numbers, bytes)
done numbers bytes found all is so_far = sym so_far ∙ ap (behind_numbers numbers) is ∙ ap (λ l. Some (l, bytes)) (append-nil numbers)

pub numbers_end : (most : ℕ) (numbers bytes : List ℕ) (all : Option (List ℕ × List ℕ)) → is_end bytes ≡ true → behind_numbers numbers (numbers_at most bytes) ≡ all → all ≡ Some (numbers, bytes)
numbers_end most numbers bytes all end so_far = done numbers bytes (numbers_at most bytes) all (at_end most bytes end) so_far

pub numbers_full : (most : ℕ) (numbers bytes : List ℕ) (all : Option (List ℕ × List ℕ)) → most ≡ 0 → behind_numbers numbers (numbers_at most bytes) ≡ all → all ≡ Some (numbers, bytes)
numbers_full most numbers bytes all none so_far = done numbers bytes (numbers_at most bytes) all (at_zero most bytes none) so_far

-- a call that passes on that nothing was read
pub gives_none : {X Y : Type 0} (view : X → Y) (r : Result X LineFault) (all : Option Y) → IsErrAnd r (λ f. f ≡ NotALine) → all ≡ None → Gives view r all
gives_none view (Ok x) all is none = absurd is
gives_none view (Err f) all is none = subst (λ (f : LineFault). Gives view (Err f) all) (sym is) none

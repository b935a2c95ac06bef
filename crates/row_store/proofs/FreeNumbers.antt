-- How many numbers of files can be taken.
use Rattle.std.proofs.Common.{◌≡◌, ⊎_elim, sym, subst, refl, ℕ, ◌+◌, ◌<◌, ◌≤◌, List, [], ◌∷◌, length, Bool, true, false, arith}
use Rattle.std.specs.Prelude.{◌&&◌, ◌||◌, ◌==◌, not}
use Rattle.std.specs.List.{list_any}
use Rattle.std.proofs.Math.Dec.{eqb}
use Rattle.std.proofs.lemmas.Bool.{cases_lt, eq-eqb, eqb-true}
use Rattle.std.proofs.lemmas.Map.Steps.{le-length_from_below}
use Rattle.root_slots.specs.Root.{is_fresh}

turned : (a b : ℕ) → eqb a b ≡ true → eqb b a ≡ true
turned a b is = eq-eqb b a (sym (eqb-true a b is))

either : (a b c d : Bool) → (a ≡ true → c ≡ true) → (b ≡ true → d ≡ true) → (a || b) ≡ true → (c || d) ≡ true
either a b true d first second is = refl
either true b false d first second is = let wrong : false ≡ true = first refl in cc
either false b false d first second is = second is

among : (files : List ℕ) (q : ℕ) → list_any (λ other. other == q) files ≡ true → list_any (eqb q) files ≡ true
among [] q is = is
among (first ∷ files) q is = either (first == q) (list_any (λ other. other == q) files) (eqb q first) (list_any (eqb q) files) (turned first q) (among files q) is

one_of : (a b : Bool) → (not a && not b) ≡ false → (a || b) ≡ true
one_of true b is = refl
one_of false true is = refl
one_of false false is = cc

not_fresh : (files : List ℕ) (q : ℕ) → is_fresh q files ≡ false → list_any (eqb q) (0 ∷ files) ≡ true
not_fresh files q is = either (q == 0) (list_any (λ other. other == q) files) (eqb q 0) (list_any (eqb q) files) (λ same. same) (among files q) (one_of (q == 0) (list_any (λ other. other == q) files) is)

-- so many numbers, from 0 up, can be 0 or one of these
pub few_taken : (files : List ℕ) (n : ℕ) → ((q : ℕ) → q < n → is_fresh q files ≡ false) → n ≤ length files + 1
few_taken files n each =
    let most : n ≤ length (0 ∷ files) = le-length_from_below (0 ∷ files) n (λ q below. not_fresh files q (each q below)) in
    omega (arith, most)

-- one number more that is not free
pub one_more : (files : List ℕ) (n : ℕ) → ((q : ℕ) → q < n → is_fresh q files ≡ false) → is_fresh n files ≡ false → (q : ℕ) → q < n + 1 → is_fresh q files ≡ false
one_more files n each last q below = ⊎_elim
    (λ less. each q less)
    (λ not_less. let same : q ≡ n = omega arith in subst (λ (k : ℕ). is_fresh k files ≡ false) (sym same) last)
    (cases_lt q n)

-- the number before all is not free
pub none_before : (files : List ℕ) (q : ℕ) → q < 1 → is_fresh q files ≡ false
none_before files q below = let zero : q ≡ 0 = omega arith in subst (λ (k : ℕ). is_fresh k files ≡ false) (sym zero) refl

-- Finite sets of partitions as tests: the laws by which the words of `chains` speak of them.
use Rattle.std.proofs.Common.{◌≡◌, ℕ, ◌==◌, ◌&&◌, ◌||◌, Bool, true, false, sym, refl, ap, ◌∙◌}
use Rattle.std.proofs.Math.Path.{fun_ext}
use Rattle.std.specs.Cmp.{unsigned_tied, nat_cmp_total, IsEquivalence, IsPartialEquivalence, partial_equiv_from_equiv}
use Rattle.std.proofs.lemmas.Bool.{and_parts, and_from}
use Rattle.std.specs.FinSet as set
use Rattle.std.specs.Ordering.{nat_cmp}
use Rattle.std.proofs.lemmas.Map.Lookups.{exact_unsigned}
use Rattle.chains.specs.WellFormed.{with_number, union_of}
use Rattle.bitmap.specs.Bits.{Bits, has, is_same}

pub has_with : (bits : Bits) (q : ℕ) → has (set.insert bits q) ≡ with_number (has bits) q
has_with bits q =
    fun_ext (λ i. set.contains-insert nat_cmp_total bits q i ∙ ap (λ b. b || has bits i) (unsigned_tied i q))

pub has_union : (a b : Bits) → has (set.union a b) ≡ union_of (has a) (has b)
has_union a b = fun_ext (λ i. set.contains-union nat_cmp_total a b i)

or_none : (b : Bool) → (b || false) ≡ b
or_none true = refl
or_none false = refl

pub has_zero : has (set.insert set.empty 0) ≡ (λ (i : ℕ). i == 0)
has_zero =
    has_with set.empty 0
    ∙ fun_ext (λ i. ap (λ b. (i == 0) || b) (set.contains-empty nat_cmp i) ∙ or_none (i == 0))

-- sets with the same numbers are one
pub same_bits : (a b : Bits) → has a ≡ has b → a ≡ b
same_bits a b same = set.same_set nat_cmp_total exact_unsigned a b (λ i. ap (λ (t : ℕ → Bool). t i) same)

-- ---- `==`

pub same_from_test : (a b : Bits) → is_same a b ≡ true → a ≡ b
unfolding is_same
same_from_test a b e =
    let both = and_parts (set.is_subset a b) (set.is_subset b a) e in
    set.same_set nat_cmp_total exact_unsigned a b
    (λ i. one_truth (set.contains a i) (set.contains b i)
    (set.is_subset-contains nat_cmp_total a b both.0 i) (set.is_subset-contains nat_cmp_total b a both.1 i))
  where
    one_truth : (p q : Bool) → (p ≡ true → q ≡ true) → (q ≡ true → p ≡ true) → p ≡ q
    one_truth true q f g = sym (f refl)
    one_truth false true f g = g refl
    one_truth false false f g = refl

same_itself : (a : Bits) → is_same a a ≡ true
unfolding is_same
same_itself a =
    let each = set.contains-is_subset nat_cmp_total a a (λ _ e. e) in
    and_from (set.is_subset a a) (set.is_subset a a) each each

pub test_from_same : (a b : Bits) → a ≡ b → is_same a b ≡ true
test_from_same a b e = ap (is_same a) (sym e) ∙ same_itself a

and_turned : (p q : Bool) → (p && q) ≡ (q && p)
and_turned true true = refl
and_turned true false = refl
and_turned false true = refl
and_turned false false = refl

turned : (a b : Bits) → is_same a b ≡ is_same b a
unfolding is_same
turned a b = and_turned (set.is_subset a b) (set.is_subset b a)

pub is_same_equivalence : IsEquivalence is_same
is_same_equivalence = record {
  refl = same_itself;
  symm = turned;
  congr = λ a b d e. ap (λ (x : Bits). is_same x d) (same_from_test a b e);
}

pub is_same_partial : IsPartialEquivalence is_same
is_same_partial = partial_equiv_from_equiv is_same_equivalence

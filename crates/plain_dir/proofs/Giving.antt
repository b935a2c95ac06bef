-- Ranges of numbers: what is in them, and which have none in common.
use Rattle.std.proofs.Common.{◌≡◌, ◌∙◌, sym, ap, subst, refl, ℕ, ◌+◌, ◌-◌, ◌<◌, ◌≤◌, zero, suc, List, [], ◌∷◌, ◌++◌, Bool, true, false, cond, arith, nat_eq, nat_le, nat_lt, append_assoc}
use Rattle.std.specs.Prelude.{◌==◌, ◌||◌}
use Rattle.std.specs.List.{AllByRecursion, IsDistinct, range_with_len, list_any}
use Rattle.std.proofs.lemmas.Bool.{true≢false, or_parts, or_from, ne_eqb, eqb-true, eqb-false, eq-eqb, lt-ltb, ltb-true, leb-true, leb-false}
use Rattle.std.proofs.lemmas.List.{append-nil}
use Rattle.mds_base.proofs.Lists.{all_front, all_both, all_rest}
use Rattle.plain_dir.specs.declared.numbers.Range.{Range}
use Rattle.plain_dir.specs.Numbers.{numbers_of, Apart, IsNew, meets}

-- ---- the numbers of a range

range_all : (P : ℕ → Type 0) (first count : ℕ) → ((y : ℕ) → first ≤ y → y < first + count → P y) → AllByRecursion P (range_with_len first count)
range_all P first zero each = tt
range_all P first (suc count) each = (each first (omega arith) (omega arith), range_all P (first + 1) count (λ y low high. each y (omega (arith, low)) (omega (arith, high))))

range_at : (P : ℕ → Type 0) (first count y : ℕ) → AllByRecursion P (range_with_len first count) → first ≤ y → y < first + count → P y
range_at P first zero y all low high = absurd (omega (arith, low, high))
range_at P first (suc count) y all low high = by (nat_eq first y) refl (range_at P (first + 1) count y all.1)
  where
    by : (t : Bool) → nat_eq first y ≡ t → (first + 1 ≤ y → y < first + 1 + count → P y) → P y
    by true is later = subst P (eqb-true first y is) all.0
    by false is later = let differ = eqb-false first y is in later (omega (arith, low, differ)) (omega (arith, high))

-- ---- two ranges

common : (r s : Range) (y : ℕ) → r.first ≤ y → y < r.first + r.count → s.first ≤ y → y < s.first + s.count → meets r s ≡ true
common r s y low high least most =
    ap (λ t. cond t false (cond (nat_le r.first s.first) (nat_lt (s.first - r.first) r.count) (nat_lt (r.first - s.first) s.count)))
    (or_from (r.count == 0) (s.count == 0) (ne_eqb r.count 0 (λ none. omega (arith, none, low, high))) (ne_eqb s.count 0 (λ none. omega (arith, none, least, most))))
    ∙ by (nat_le r.first s.first) refl
  where
    by : (t : Bool) → nat_le r.first s.first ≡ t → cond t (nat_lt (s.first - r.first) r.count) (nat_lt (r.first - s.first) s.count) ≡ true
    by true is = lt-ltb (s.first - r.first) r.count (omega (arith, high, least))
    by false is = lt-ltb (r.first - s.first) s.count (omega (arith, low, most))

ranges_differ : (r s : Range) → meets r s ≡ false → Apart (range_with_len r.first r.count) (range_with_len s.first s.count)
ranges_differ r s none = range_all (λ x. AllByRecursion (λ y. nat_eq x y ≡ false) (range_with_len s.first s.count)) r.first r.count (λ x low high.
    range_all (λ y. nat_eq x y ≡ false) s.first s.count (λ y least most.
    ne_eqb x y (λ same. true≢false (sym (common r s x low high (subst (λ k. s.first ≤ k) (sym same) least) (subst (λ k. k < s.first + s.count) (sym same) most)) ∙ none))))

-- a number that both have
record Shared (r s : Range) : Type 0 where
  number : ℕ
  low : r.first ≤ number
  high : number < r.first + r.count
  least : s.first ≤ number
  most : number < s.first + s.count

shared : (r s : Range) → meets r s ≡ true → Shared r s
shared r s meet = by ((r.count == 0) || (s.count == 0)) refl
  where
    first_in : (t : Bool) → nat_le r.first s.first ≡ t → ((r.count == 0) ≡ false) × ((s.count == 0) ≡ false) → cond t (nat_lt (s.first - r.first) r.count) (nat_lt (r.first - s.first) s.count) ≡ true → Shared r s
    first_in true is some near =
        let gap = ltb-true (s.first - r.first) r.count near in
        let below = leb-true r.first s.first is in
        let two = eqb-false s.count 0 some.1 in
        record { number = s.first; low = below; high = omega (arith, gap, below); least = omega arith; most = omega (arith, two) }
    first_in false is some near =
        let gap = ltb-true (r.first - s.first) s.count near in
        let above = leb-false r.first s.first is in
        let one = eqb-false r.count 0 some.0 in
        record { number = r.first; low = omega arith; high = omega (arith, one); least = omega (arith, above); most = omega (arith, gap, above) }

    by : (t : Bool) → ((r.count == 0) || (s.count == 0)) ≡ t → Shared r s
    by true is = absurd (true≢false (sym (sym (ap (λ t. cond t false (cond (nat_le r.first s.first) (nat_lt (s.first - r.first) r.count) (nat_lt (r.first - s.first) s.count))) is) ∙ meet)))
    by false is = first_in (nat_le r.first s.first) refl (or_parts (r.count == 0) (s.count == 0) is) (sym (ap (λ t. cond t false (cond (nat_le r.first s.first) (nat_lt (s.first - r.first) r.count) (nat_lt (r.first - s.first) s.count))) is) ∙ meet)

not_apart : (r s : Range) → meets r s ≡ true → Apart (range_with_len r.first r.count) (range_with_len s.first s.count) → ⊥
not_apart r s meet apart =
    let x = shared r s meet in
    let row = range_at (λ x. AllByRecursion (λ y. nat_eq x y ≡ false) (range_with_len s.first s.count)) r.first r.count x.number apart x.low x.high in
    true≢false (sym (eq-eqb x.number x.number refl) ∙ range_at (λ y. nat_eq x.number y ≡ false) s.first s.count x.number row x.least x.most)

-- ---- all ranges so far, and one more

pub none_meets : (ranges : List Range) (s : Range) → list_any (λ r. meets r s) ranges ≡ false → Apart (numbers_of ranges) (range_with_len s.first s.count)
none_meets [] s none = tt
none_meets (r ∷ ranges) s none =
    let parts = or_parts (meets r s) (list_any (λ r. meets r s) ranges) none in
    all_both (λ x. AllByRecursion (λ y. nat_eq x y ≡ false) (range_with_len s.first s.count)) (range_with_len r.first r.count) (numbers_of ranges) (ranges_differ r s parts.0) (none_meets ranges s parts.1)

pub some_meets : (ranges : List Range) (s : Range) → list_any (λ r. meets r s) ranges ≡ true → Apart (numbers_of ranges) (range_with_len s.first s.count) → ⊥
some_meets [] s some apart = true≢false (sym some)
some_meets (r ∷ ranges) s some apart = by (meets r s) refl (some_meets ranges s)
  where
    by : (t : Bool) → meets r s ≡ t → (list_any (λ r. meets r s) ranges ≡ true → Apart (numbers_of ranges) (range_with_len s.first s.count) → ⊥) → ⊥
    by true is later = not_apart r s is (all_front (λ x. AllByRecursion (λ y. nat_eq x y ≡ false) (range_with_len s.first s.count)) (range_with_len r.first r.count) (numbers_of ranges) apart)
    by false is later = later (ap (λ t. t || list_any (λ r. meets r s) ranges) (sym is) ∙ some) (all_rest (λ x. AllByRecursion (λ y. nat_eq x y ≡ false) (range_with_len s.first s.count)) (range_with_len r.first r.count) (numbers_of ranges) apart)

-- the ranges with one more
pub numbers_push : (ranges : List Range) (s : Range) → numbers_of (ranges ++ s ∷ []) ≡ numbers_of ranges ++ range_with_len s.first s.count
numbers_push [] s = append-nil (range_with_len s.first s.count)
numbers_push (r ∷ ranges) s = ap (λ l. range_with_len r.first r.count ++ l) (numbers_push ranges s) ∙ sym (append_assoc (range_with_len r.first r.count) (numbers_of ranges) (range_with_len s.first s.count))

-- the numbers of a range are at least 2 where the first is, or there is none
pub from_two : (s : Range) → (0 < s.count → 2 ≤ s.first) → AllByRecursion (λ number. 2 ≤ number) (range_with_len s.first s.count)
from_two s above = range_all (λ number. 2 ≤ number) s.first s.count (λ y low high. let big = above (omega (arith, low, high)) in omega (arith, low, big))

pub below_two : (s : Range) → 0 < s.count → s.first < 2 → AllByRecursion (λ number. 2 ≤ number) (range_with_len s.first s.count) → ⊥
below_two s some small all = let big = range_at (λ number. 2 ≤ number) s.first s.count s.first all (omega arith) (omega (arith, some)) in omega (arith, big, small)

-- ---- lists of numbers

range_distinct : (first count : ℕ) → IsDistinct nat_eq (range_with_len first count)
unfolding IsDistinct
range_distinct first zero = tt
range_distinct first (suc count) = (range_all (λ y. nat_eq first y ≡ false) (first + 1) count (λ y low high. ne_eqb first y (λ same. omega (arith, same, low))), range_distinct (first + 1) count)

pub distinct_both : (xs ys : List ℕ) → IsDistinct nat_eq xs → IsDistinct nat_eq ys → Apart xs ys → IsDistinct nat_eq (xs ++ ys)
unfolding IsDistinct
distinct_both [] ys one two apart = two
distinct_both (x ∷ xs) ys one two apart = (all_both (λ y. nat_eq x y ≡ false) xs ys one.0 apart.0, distinct_both xs ys one.1 two apart.1)

pub distinct_apart : (xs ys : List ℕ) → IsDistinct nat_eq (xs ++ ys) → Apart xs ys
unfolding IsDistinct
distinct_apart [] ys once = tt
distinct_apart (x ∷ xs) ys once = (all_rest (λ y. nat_eq x y ≡ false) xs ys once.0, distinct_apart xs ys once.1)

-- ---- what is answered of one range more

pub refused_common : (items : List Range) (s : Range) (before : List ℕ) (t : Bool) → numbers_of items ≡ before → t ≡ list_any (λ r. meets r s) items → t ≡ true → IsNew before (range_with_len s.first s.count) → ⊥
refused_common items s before t is test common new = some_meets items s (sym test ∙ common) (subst (λ ns. Apart ns (range_with_len s.first s.count)) (sym is) new.apart)

pub accepted : (items pushed : List Range) (s : Range) (before : List ℕ) (t : Bool) → numbers_of items ≡ before → t ≡ list_any (λ r. meets r s) items → t ≡ false → AllByRecursion (λ number. 2 ≤ number) (range_with_len s.first s.count) → pushed ≡ items ++ s ∷ [] → IsNew before (range_with_len s.first s.count) × (numbers_of pushed ≡ before ++ range_with_len s.first s.count)
accepted items pushed s before t is test none above push = (
  record {
    from_two = above;
    once = range_distinct s.first s.count;
    apart = subst (λ ns. Apart ns (range_with_len s.first s.count)) is (none_meets items s (sym test ∙ none));
  },
  ap numbers_of push ∙ numbers_push items s ∙ ap (λ ns. ns ++ range_with_len s.first s.count) is,
)

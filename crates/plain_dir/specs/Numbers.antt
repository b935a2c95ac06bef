-- Directory numbers that are given once.
use Rattle.std.specs.Prelude.{◌≡◌, ◌≤◌, ℕ, ◌-◌, ◌==◌, ◌||◌, List, [], ◌∷◌, ◌++◌, Bool, false, nat_eq, nat_le, nat_lt}
use Rattle.std.specs.Prelude.{if◌then◌else◌}
use Rattle.std.specs.List.{AllByRecursion, IsDistinct, range_with_len}
use Rattle.plain_dir.specs.declared.numbers.Range.{Range}

-- the numbers of the ranges, one range after another
abbrev pub numbers_of : List Range → List ℕ
numbers_of [] = []
numbers_of (range ∷ ranges) = range_with_len range.first range.count ++ numbers_of ranges

-- no number of the first list is one of the second
abbrev pub Apart : List ℕ → List ℕ → Type 0
Apart xs ys = AllByRecursion (λ x. AllByRecursion (λ y. nat_eq x y ≡ false) ys) xs

-- the numbers may be given after those: each is at least 2, none stands twice, and none was given
pub record IsNew (before more : List ℕ) : Type 0 where
  pub from_two : AllByRecursion (λ number. 2 ≤ number) more
  pub once : IsDistinct nat_eq more
  pub apart : Apart before more

-- the ranges have a number in common
abbrev pub meets : Range → Range → Bool
meets a b = if (a.count == 0) || (b.count == 0) then false else if nat_le a.first b.first
    then nat_lt (b.first - a.first) a.count else nat_lt (a.first - b.first) b.count

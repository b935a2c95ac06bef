-- What a bitmap stands for: a finite set of partitions.
use Rattle.std.specs.Prelude.{◌≡◌, ℕ, ◌≤◌, ◌&&◌, Bool, false}
use Rattle.std.specs.Coded.{Coded, coded_ℕ}
use Rattle.std.specs.Ordering.{nat_cmp}
use Rattle.std.specs.FinSet as set
use Rattle.chains.specs.WellFormed.{IsRequiredBy}

-- a set of partitions
abbrev pub Bits : Type 0
Bits = set.FinSet nat_cmp

abbrev pub coded_bits : Coded Bits
coded_bits = set.code coded_ℕ

-- whether a partition is in the set, as a test
abbrev pub has : Bits → ℕ → Bool
has bits = set.contains bits

-- the least number that the child part + 2 ^ depth requires and the set lacks
pub record IsLeastLacking (bits : Bits) (part depth m : ℕ) : Type 0 where
  pub lacks : has bits m ≡ false
  pub required : IsRequiredBy part depth m
  pub least : (x : ℕ) → has bits x ≡ false → IsRequiredBy part depth x → m ≤ x

-- whether two sets have the same numbers, as `==` answers
unfoldable pub is_same : Bits → Bits → Bool
is_same a b = set.is_subset a b && set.is_subset b a

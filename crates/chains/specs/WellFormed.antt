-- Well-formed sets of partitions. A set is a test of numbers, so that the words here serve a bitmap and
-- any other set of partitions alike.
use Rattle.std.specs.Prelude.{◌≡◌, ℕ, suc, ◌+◌, ◌^◌, ◌<◌, ◌≤◌, ◌==◌, ◌||◌, ◌⊎◌, Bool, false, IsTrue}

-- a set of numbers below 2 ^ radix with 0 in it, and with each p + 2 ^ j, where p < 2 ^ j, its parent p
-- and the child of p before it
pub record IsWellFormed (radix : ℕ) (set : ℕ → Bool) : Type 0 where
  pub below : (i : ℕ) → IsTrue (set i) → i < 2 ^ radix
  pub root : IsTrue (set 0)
  pub parent : (p j : ℕ) → p < 2 ^ j → IsTrue (set (p + 2 ^ j)) → IsTrue (set p)
  pub before : (p j : ℕ) → p < 2 ^ j → IsTrue (set (p + 2 ^ suc j)) → IsTrue (set (p + 2 ^ j))

-- the set with one number more
abbrev pub with_number : (ℕ → Bool) → ℕ → ℕ → Bool
with_number set number i = (i == number) || set i

-- the union of two sets
abbrev pub union_of : (ℕ → Bool) → (ℕ → Bool) → ℕ → Bool
union_of a b i = a i || b i

-- each number of the first set is in the second
abbrev pub IsWithin : (ℕ → Bool) → (ℕ → Bool) → Type 0
IsWithin a b = (i : ℕ) → IsTrue (a i) → IsTrue (b i)

-- what a set has to have: 0, and m where it has m + 2 ^ j with m < 2 ^ (j + 1). There m is the parent of
-- that number if m < 2 ^ j, and else the child before it
abbrev pub IsRequired : ℕ → (ℕ → Bool) → ℕ → Type 0
IsRequired radix set m =
    (m ≡ 0) ⊎ ((j : ℕ) × (j < radix) × (m < 2 ^ suc j) × IsTrue (set (m + 2 ^ j)))

-- what a set has to have and lacks
abbrev pub IsMissing : ℕ → (ℕ → Bool) → ℕ → Type 0
IsMissing radix set m = (set m ≡ false) × IsRequired radix set m

-- the least number that is missing
pub record IsLeastMissing (radix : ℕ) (set : ℕ → Bool) (m : ℕ) : Type 0 where
  pub missing : IsMissing radix set m
  pub least : (x : ℕ) → IsMissing radix set x → m ≤ x

-- what the child part + 2 ^ depth has to have in a set: part, and the child of part before it
abbrev pub IsRequiredBy : ℕ → ℕ → ℕ → Type 0
IsRequiredBy part depth m =
    (m ≡ part) ⊎ ((j : ℕ) × (suc j ≡ depth) × (part < 2 ^ j) × (m ≡ part + 2 ^ j))

-- How deep a partition of a set is split, and its children.
use Rattle.std.specs.Prelude.{◌≡◌, ℕ, ◌+◌, ◌^◌, ◌<◌, ◌≤◌, ◌||◌, Bool, false, IsTrue, nat_le}
use Rattle.chains.specs.Located.{run}

-- the least depth that has the digits of part and where the child part + 2 ^ depth is not in the set, and
-- the radix where there is none
unfoldable pub depth_of : ℕ → ℕ → (ℕ → Bool) → ℕ
depth_of radix part set = run radix (λ i. nat_le (2 ^ i) part || set (part + 2 ^ i))

-- depth is the least number, not below the number of binary digits of part, that is the radix or has the
-- child part + 2 ^ depth not in the set
pub record IsDepth (radix part : ℕ) (set : ℕ → Bool) (depth : ℕ) : Type 0 where
  pub within : depth ≤ radix
  pub digits : part < 2 ^ depth
  pub free : depth < radix → set (part + 2 ^ depth) ≡ false
  pub least : (i : ℕ) → i < depth → part < 2 ^ i → IsTrue (set (part + 2 ^ i))

-- each child of part that `all` has is in `some`
abbrev pub HasChildren : ℕ → (ℕ → Bool) → (ℕ → Bool) → Type 0
HasChildren part some all =
    (i : ℕ) → part < 2 ^ i → IsTrue (all (part + 2 ^ i)) → IsTrue (some (part + 2 ^ i))

-- the same, but for the child part + 2 ^ depth
abbrev pub HasOtherChildren : ℕ → ℕ → (ℕ → Bool) → (ℕ → Bool) → Type 0
HasOtherChildren part depth some all =
    (i : ℕ) → (i ≡ depth → ⊥) → part < 2 ^ i → IsTrue (all (part + 2 ^ i)) → IsTrue (some (part + 2 ^ i))

-- the set has each child of part below this depth
abbrev pub HasChildrenBelow : ℕ → ℕ → (ℕ → Bool) → Type 0
HasChildrenBelow part depth set = (i : ℕ) → i < depth → part < 2 ^ i → IsTrue (set (part + 2 ^ i))

-- the set has no child of part at this depth or above
abbrev pub HasNoChildrenFrom : ℕ → ℕ → (ℕ → Bool) → Type 0
HasNoChildrenFrom part depth set = (i : ℕ) → depth ≤ i → part < 2 ^ i → set (part + 2 ^ i) ≡ false

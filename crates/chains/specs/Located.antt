-- Where a hash is located by a set of partitions.
use Rattle.std.specs.Prelude.{ℕ, zero, suc, ◌%◌, ◌^◌, ◌≤◌, Bool, cond, IsTrue}
use Rattle.chains.specs.Chain.{OnChain}

-- how many of the tests at 0, 1, .. hold before the first that fails, at most `limit`
unfoldable pub run : ℕ → (ℕ → Bool) → ℕ
run zero test = 0
run (suc limit) test = cond (test 0) (suc (run limit (λ i. test (suc i)))) 0

-- the last element of the longest front of the chain that is in the set
unfoldable pub located : ℕ → ℕ → (ℕ → Bool) → ℕ
located radix hash set = hash % 2 ^ run radix (λ i. set (hash % 2 ^ suc i))

-- part and all chain elements below it are in the set
abbrev pub HasChainTo : ℕ → ℕ → (ℕ → Bool) → ℕ → Type 0
HasChainTo radix hash set part = (x : ℕ) → OnChain radix hash x → x ≤ part → IsTrue (set x)

-- part is the greatest chain element such that it and all chain elements below it are in the set
pub record IsLocated (radix hash : ℕ) (set : ℕ → Bool) (part : ℕ) : Type 0 where
  pub on : OnChain radix hash part
  pub held : HasChainTo radix hash set part
  pub greatest : (x : ℕ) → OnChain radix hash x → HasChainTo radix hash set x → x ≤ part

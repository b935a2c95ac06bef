-- The chain of a hash: its remainders modulo the powers of two, from 2 ^ 0 to 2 ^ radix.
-- Every definition of this crate takes the radix as an argument.
use Rattle.std.specs.Prelude.{◌≡◌, ℕ, zero, suc, ◌%◌, ◌^◌, ◌<◌, ◌≤◌, ◌==◌, List, [], ◌∷◌, ◌++◌, if◌then◌else◌}
use Rattle.std.specs.Prelude.{MatchOption, Option}

-- the remainders modulo 2 ^ 0, .., 2 ^ radix, equal ones taken once: a rising list
unfoldable pub chain_of : ℕ → ℕ → List ℕ
chain_of zero hash = 0 ∷ []
chain_of (suc radix) hash =
    if hash % 2 ^ suc radix == hash % 2 ^ radix
    then chain_of radix hash
    else (chain_of radix hash ++ (hash % 2 ^ suc radix) ∷ [])

-- part is on the chain: the hash's remainder modulo some 2 ^ depth
pub record OnChain (radix hash part : ℕ) : Type 0 where
  pub depth : ℕ
  pub within : depth ≤ radix
  pub remainder : part ≡ hash % 2 ^ depth

-- no element of the chain is above part
abbrev pub IsLastOnChain : ℕ → ℕ → ℕ → Type 0
IsLastOnChain radix hash part = (x : ℕ) → OnChain radix hash x → x ≤ part

-- next is the least element of the chain above part
pub record IsNextOnChain (radix hash part next : ℕ) : Type 0 where
  pub on : OnChain radix hash next
  pub above : part < next
  pub least : (x : ℕ) → OnChain radix hash x → part < x → next ≤ x

-- what follows part on the chain: its next element, and nothing exactly at the end
abbrev pub FollowsOnChain : ℕ → ℕ → ℕ → Option ℕ → Type 0
FollowsOnChain radix hash part next =
    MatchOption next (IsLastOnChain radix hash part) (IsNextOnChain radix hash part)

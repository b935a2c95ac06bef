-- Bytes that are written behind others: whatever the bytes began with they begin with afterwards, too.
use Rattle.std.specs.Prelude.{◌≡◌, ℕ, List, ◌++◌}

-- the bytes begin with these
pub record BeginsWith (bytes front : List ℕ) : Type 0 where
  pub more : List ℕ
  pub is : bytes ≡ front ++ more

-- what was written is behind all that stood there
abbrev pub OnlyGrows : List ℕ → List ℕ → Type 0
OnlyGrows old new = (front : List ℕ) → BeginsWith old front → BeginsWith new front

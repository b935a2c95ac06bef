-- What a read gives and what a write takes.
use Rattle.std.specs.Prelude.{◌≡◌, ◌≤◌, ℕ, List, [], length, take, Option}
use Rattle.std.specs.Io.KnownBytes.{Appends, Consumes}
use Rattle.mds_out.specs.Known.{OnTold}

-- A read gave the next k bytes, at the start of `into`, and took them from what is left. None are given only at the
-- end.
pub record Gives (before after : Option (List ℕ)) (into : List ℕ) (k : ℕ) : Type 0 where
  pub within : k ≤ length into
  pub given : Consumes before after (take k into)
  pub ends : k ≡ 0 → OnTold before (λ bytes. bytes ≡ [])

-- A write took the first k of these bytes, and at least one.
pub record Takes (before after : Option (List ℕ)) (bytes : List ℕ) (k : ℕ) : Type 0 where
  pub some : 1 ≤ k
  pub within : k ≤ length bytes
  pub taken : Appends before after (take k bytes)

-- A sink took a front of these bytes, maybe all and maybe none.
pub record TakesFront (before after : Option (List ℕ)) (bytes : List ℕ) : Type 0 where
  pub count : ℕ
  pub within : count ≤ length bytes
  pub taken : Appends before after (take count bytes)

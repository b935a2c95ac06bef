-- Changes that take a file back, done from the newest to the oldest.
use Rattle.std.specs.Prelude.{ℕ, List, [], ◌∷◌}
use Rattle.mds_out.specs.Change.{Change, changed}

-- the bytes after these changes, of which the last one is done first
abbrev pub unwound : List ℕ → List Change → List ℕ
unwound bytes [] = bytes
unwound bytes (change ∷ changes) = changed (unwound bytes changes) change

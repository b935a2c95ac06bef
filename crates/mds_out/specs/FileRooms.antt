-- What a file in memory keeps true of its buffer.
use Rattle.std.specs.Prelude.{◌≡◌, ℕ, ◌≤◌, List, length, take, All}
use Rattle.mds_out.specs.Change.{Change, change_end}
use Rattle.mds_out.specs.Content.{bytes_of}
use Rattle.mds_out.specs.Undo.{unwound}

-- `len` bytes of `current` are the file, `undo` takes them back to the synced file, and there is room for each change
pub record HasRooms (current : List ℕ) (len : ℕ) (undo since : List Change) : Type 0 where
  pub reads : take len current ≡ bytes_of (record { synced = unwound (take len current) undo; since = since })
  pub room : len ≤ length current
  pub undo_fits : All (λ change. change_end change ≤ length current) undo
  pub changes_fit : All (λ change. change_end change ≤ length current) since

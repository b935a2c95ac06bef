-- What a file of a memory disk is: the bytes that its last sync left, and the changes since.
use Rattle.std.specs.Prelude.{ℕ, List, [], ◌∷◌, ◌++◌, map, fold, true, false, Bool}
use Rattle.mds_out.specs.Change.{Change, changed, redone, step_of}
use Rattle.mds_out.specs.Images.{History, history_at_sync, history_of}
use Rattle.mds_out.specs.declared.outcome.Outcome.{Outcome}
use Rattle.mds_out.specs.declared.outcome.Outcome.TheVariants.{Old, New, Mixed}

pub record Content : Type 0 where
  pub synced : List ℕ
  pub since : List Change

-- directly after a sync
abbrev pub at_rest : List ℕ → Content
at_rest bytes = record { synced = bytes; since = [] }

-- the bytes after these changes, spoilt or not
abbrev pub replayed : Bool → List ℕ → List Change → List ℕ
replayed spoil bytes changes = fold (λ now change. changed now (redone spoil change)) bytes changes

-- as it reads
abbrev pub bytes_of : Content → List ℕ
bytes_of content = replayed false content.synced content.since

-- what a restart leaves of it
abbrev pub left_of : Outcome → Content → List ℕ
left_of Old content = content.synced
left_of New content = bytes_of content
left_of Mixed content = replayed true content.synced content.since

-- what it went through since its last sync
abbrev pub history : Content → History
history content = history_of (history_at_sync content.synced) (map step_of content.since)

-- after one change more
abbrev pub with_change : Content → Change → Content
with_change content change = record content { since = content.since ++ change ∷ [] }

-- What becomes of messages: the count of those that a link lost or kept for later, and a list of fates that are given
-- in turn.
use Rattle.std.specs.Prelude.{◌≡◌, ℕ, zero, suc, ◌+◌, ◌≤◌, min, List, length, slice_index_or}
use Rattle.mds_out.specs.declared.fate.Fate.{Fate}
use Rattle.mds_out.specs.declared.fate.Fate.TheVariants.{Deliver, Lose, Twice, Late}
use Rattle.mds_out.specs.Fault.{Rose}

-- the count rises where the message is lost or late, and stays else
abbrev pub IsCounted : ℕ → ℕ → Fate → Type 0
IsCounted before now Deliver = now ≡ before
IsCounted before now Lose = Rose before now
IsCounted before now Twice = now ≡ before
IsCounted before now Late = Rose before now

-- A link's count never falls, and rises exactly at `Lose` and `Late`.
pub record HasFateCause (before now : ℕ) (fate : Fate) : Type 0 where
  pub later : before ≤ now
  pub counted : IsCounted before now fate

-- a list of fates, and the place of the one that is given next
pub record Fates : Type 0 where
  pub list : List Fate
  pub next : ℕ

abbrev pub lost_by : Fate → ℕ
lost_by Deliver = 0
lost_by Lose = 1
lost_by Twice = 0
lost_by Late = 1

-- how many of the first so many fates of a list are `Lose` or `Late`
abbrev pub lost_before : List Fate → ℕ → ℕ
lost_before fates zero = 0
lost_before fates (suc place) = lost_before fates place + lost_by (slice_index_or fates place Deliver)

-- after one fate was given; at the list's end nothing changes
abbrev pub after_fate : Fates → Fates
after_fate fates = record fates { next = min (fates.next + 1) (length fates.list) }

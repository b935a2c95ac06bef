-- The files of a disk in memory, each in a slot with its number.
use Rattle.std.specs.Prelude.{◌≡◌, ◌≢◌, ◌<◌, ℕ, List, [], ◌∷◌, length, slice_index_or, ◌==◌, if◌then◌else◌}
use Rattle.mds_out.specs.declared.slots.Slot.{Slot}
use Rattle.mds_out.specs.declared.outcome.Outcome.{Outcome}
use Rattle.mds_out.specs.Content.{Content, at_rest}
use Rattle.mds_out.specs.Past.{Act, content_of, acted}

-- the file of this number, in its first slot; an empty one, where it has none
abbrev pub content_in : List Slot → ℕ → Content
content_in [] number = at_rest []
content_in (slot ∷ slots) number = if slot.number == number then slot.file else content_in slots number

-- no slot has this number
pub record HasNone (number : ℕ) (slots : List Slot) : Type 0 where
  pub other : (place : ℕ) (default : Slot) → place < length slots → (slice_index_or slots place default).number ≢ number

-- the first slot of this number is here
pub record IsFirst (number : ℕ) (slots : List Slot) (place : ℕ) : Type 0 where
  pub within : place < length slots
  pub is : (default : Slot) → (slice_index_or slots place default).number ≡ number
  pub before : (other : ℕ) (default : Slot) → other < place → (slice_index_or slots other default).number ≢ number

-- each file has gone through this act
pub record HaveActed (outcome : Outcome) (act : Act) (old new : List Slot) : Type 0 where
  pub each : (number : ℕ) → content_in new number ≡ acted outcome number (content_in old number) act

-- each file is as it was
pub record AreAsBefore (old new : List Slot) : Type 0 where
  pub each : (number : ℕ) → content_in new number ≡ content_in old number

-- the slots hold what these acts made
pub record HoldPast (outcome : Outcome) (acts : List Act) (slots : List Slot) : Type 0 where
  pub each : (number : ℕ) → content_in slots number ≡ content_of outcome acts number

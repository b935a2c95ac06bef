-- What a crash may leave of one file.
use Rattle.std.specs.Prelude.{◌≡◌, ◌⊎◌, ℕ, ◌+◌, ◌<◌, ◌≤◌, ⊤, min, max, List, [], ◌∷◌, length, slice_index}

-- What a file went through since its last sync that succeeded: the file as that sync left it, the least and the
-- greatest length that the file had since, the one at that sync counted, and the ranges that writes touched since, each
-- as its first place and its length.
pub record History : Type 0 where
  pub synced : List ℕ
  pub least : ℕ
  pub most : ℕ
  pub touched : List (ℕ × ℕ)

-- a write touched this place
abbrev pub IsTouched : List (ℕ × ℕ) → ℕ → Type 0
IsTouched [] place = ⊥
IsTouched (range ∷ ranges) place = ((range.0 ≤ place) × (place < range.0 + range.1)) ⊎ IsTouched ranges place

-- A crash may leave any bytes of the least to the greatest length that agree with the synced file at each place below
-- the least length that no write touched.
pub record IsImage (history : History) (image : List ℕ) : Type 0 where
  pub shortest : history.least ≤ length image
  pub longest : length image ≤ history.most
  pub untouched : (place : ℕ) → place < history.least → (IsTouched history.touched place → ⊥)
      → slice_index image place ≡ slice_index history.synced place

-- directly after a sync that succeeded
abbrev pub history_at_sync : List ℕ → History
history_at_sync bytes = record { synced = bytes; least = length bytes; most = length bytes; touched = [] }

-- What is done to a file between two syncs, well or in part: a write of a count of bytes at a place, or a cut to a
-- length.
pub data Step : Type 0 where
  Writes : (at count : ℕ) → Step
  Cuts : (to : ℕ) → Step

abbrev pub history_after : History → Step → History
history_after history (Writes at count) =
    record history { most = max history.most (at + count); touched = (at, count) ∷ history.touched }
history_after history (Cuts to) = record history { least = min history.least to }

abbrev pub history_of : History → List Step → History
history_of history [] = history
history_of history (step ∷ steps) = history_of (history_after history step) steps

-- After a write of a count of bytes that a crash cuts short: any bytes in the range and past the old end, the same
-- elsewhere.
pub record IsTorn (at count : ℕ) (old new : List ℕ) : Type 0 where
  pub no_shorter : length old ≤ length new
  pub no_longer : length new ≤ max (length old) (at + count)
  pub before : (place : ℕ) → place < at → place < length old → slice_index new place ≡ slice_index old place
  pub behind : (place : ℕ) → at + count ≤ place → place < length old → slice_index new place ≡ slice_index old place

-- After a cut that a crash cuts short: some length between, any bytes from the new end on, the same before it.
pub record IsShortened (to : ℕ) (old new : List ℕ) : Type 0 where
  pub no_shorter : min to (length old) ≤ length new
  pub no_longer : length new ≤ length old
  pub before : (place : ℕ) → place < to → place < length new → slice_index new place ≡ slice_index old place

-- one step, which a crash may cut short
abbrev pub IsLed : Step → List ℕ → List ℕ → Type 0
IsLed (Writes at count) = IsTorn at count
IsLed (Cuts to) = IsShortened to

-- a write begins within the greatest length
abbrev pub Reaches : History → Step → Type 0
Reaches history (Writes at count) = at ≤ history.most
Reaches history (Cuts to) = ⊤

-- one step after another
abbrev pub AreLed : List Step → List ℕ → List ℕ → Type 0
AreLed [] old new = new ≡ old
AreLed (step ∷ steps) old new = (mid : List ℕ) × IsLed step old mid × AreLed steps mid new

-- What the steps lead to from a synced file, one after another and each maybe cut short, is an image of the definition.
abbrev pub StepsGiveImages : Type 0
StepsGiveImages = (synced : List ℕ) (steps : List Step) (image : List ℕ) → AreLed steps synced image
    → IsImage (history_of (history_at_sync synced) steps) image

-- Each image of the definition after a step comes, by that step, from one before it, where the file reached to the
-- place of the write.
abbrev pub ImagesComeByStep : Type 0
ImagesComeByStep = (history : History) (step : Step) (image : List ℕ) → history.least ≤ history.most
    → Reaches history step → IsImage (history_after history step) image
    → (before : List ℕ) × IsImage history before × IsLed step before image

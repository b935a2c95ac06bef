-- Counts of objects and members, as the test of a value keeps them; no public clause cites them.
use Rattle.std.specs.Prelude.{◌≡◌, ℕ, ◌+◌, ◌-◌, ◌^◌, min}
use Rattle.bulk.specs.declared.measure.Size.{Size}

-- a count as it is kept: what is past the greatest number of 64 bits is that number
abbrev pub cap : ℕ → ℕ
cap count = min count (2 ^ 64 - 1)

-- the counts after so many objects and members more
pub record Grown (old new : Size) (more_objects more_entries : ℕ) : Type 0 where
  pub objects_are : cap new.objects ≡ cap (old.objects + more_objects)
  pub entries_are : cap new.entries ≡ cap (old.entries + more_entries)

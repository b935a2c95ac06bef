-- What is found of a list of entries as a history that begins with no entry of any directory.
use Rattle.std.specs.Prelude.{◌+◌, ◌<◌, List, length, take}
use Rattle.std.specs.FinMap as map
use Rattle.mds_base.specs.declared.entry.Entry.{Entry}
use Rattle.mds_base.specs.History.{IsLegal}
use Rattle.plain_dir.specs.declared.check.Check.{Check}
use Rattle.plain_dir.specs.declared.check.Check.TheVariants.{Legal, Breaks}

-- it is legal, or the entries before the place are, and no longer with the one that stands there
abbrev pub IsCheckOf : List Entry → Check → Type 0
IsCheckOf history Legal = IsLegal map.empty history
IsCheckOf history (Breaks place) = (place < length history) × IsLegal map.empty (take place history)
    × (IsLegal map.empty (take (place + 1) history) → ⊥)

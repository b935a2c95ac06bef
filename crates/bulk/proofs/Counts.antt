-- What the test of an object keeps at each of its members.
use Rattle.std.proofs.Common.{◌≡◌, ◌+◌}
use Rattle.serde_json.specs.Data.{Members}
use Rattle.bulk.specs.declared.measure.Size.{Size}
use Rattle.bulk.specs.Grammar.{are_entries, objects_within, entries_within}
use Rattle.bulk.specs.Sizes.{cap}

-- the members before `left` are entries and were counted: what is left comes to what the whole comes to
pub record Counted (start size : Size) (all left : Members) : Type 0 where
  pub named : are_entries left ≡ are_entries all
  pub objects_are : cap (size.objects + objects_within left) ≡ cap (start.objects + (objects_within all + 1))
  pub entries_are : cap (size.entries + entries_within left) ≡ cap (start.entries + entries_within all)

-- A partition and its rows once a plan was made, and what serving a call comes to.
use Rattle.std.specs.Prelude.{◌≡◌, ℕ, ◌-◌, ◌≤◌, List, [], length, take}
use Rattle.std.specs.FinMap as map
use Rattle.mds_base.specs.declared.ask.Ask.{Ask}
use Rattle.mds_base.specs.declared.session.Session.{Session}
use Rattle.mds_base.specs.declared.setup.Setup.{Setup}
use Rattle.mds_base.specs.declared.split_state.SplitState.TheVariants.{Quiet}
use Rattle.mds_base.specs.RowKeys.{RowMap}
use Rattle.sessions.specs.declared.kept.Judged.TheVariants.{New}
use Rattle.sessions.specs.Kept as sessions
use Rattle.leases.specs.Leases.{unleased, granted, swept}
use Rattle.partition.specs.declared.edits.RowEdit.{RowEdit}
use Rattle.partition.specs.declared.plan.Step.{Step}
use Rattle.partition.specs.declared.plan.Change.{Change}
use Rattle.partition.specs.declared.plan.Change.TheVariants.{Nothing, Lease, Note}
use Rattle.partition.specs.declared.plan.Plan.{Plan}
use Rattle.partition.specs.declared.partition.Partition.{Partition}
use Rattle.partition.specs.Rows.{written}
use Rattle.partition.specs.Planning.{plan_part}

-- a partition with this many rows, these sessions and this floor
abbrev pub part_of : ℕ → List Session → ℕ → Partition
part_of count list floor = record {
  sessions = sessions.from_listed list;
  leases = unleased floor;
  count = count;
  split = Quiet;
}

-- a partition in which nothing was noted
abbrev pub empty_part : ℕ → Partition
empty_part floor = record { sessions = map.empty; leases = unleased floor; count = 0; split = Quiet }

-- the partition once a session kept a change, with this many rows
abbrev pub part_noted : Partition → Session → ℕ → Partition
part_noted part session count = record part {
  sessions = sessions.noted part.sessions session.client session.seq session.said;
  count = count;
}

-- the partition once a change was made in it
abbrev pub changed : Partition → Change → Partition
changed part Nothing = part
changed part (Lease name until) = record part { leases = granted part.leases name until }
changed part (Note edits session count) = part_noted part session count

-- the partition without the leases that have ended
abbrev pub part_swept : Partition → ℕ → Partition
part_swept part now = record part { leases = swept part.leases now }

-- the partition and the rows once a plan was made
abbrev pub part_made : Partition → Plan → Partition
part_made part plan = part_swept (changed part plan.change) plan.moment

abbrev pub edits_in : Change → List RowEdit
edits_in Nothing = []
edits_in (Lease name until) = []
edits_in (Note edits session count) = edits

abbrev pub rows_made : RowMap → Plan → RowMap
rows_made rows plan = written rows (edits_in plan.change)

-- what a change notes is new to its client's session
abbrev pub IsNewer : Partition → Change → Type 0
IsNewer part Nothing = Unit {0}
IsNewer part (Lease name until) = Unit {0}
IsNewer part (Note edits session count) = sessions.judged part.sessions session.client session.seq ≡ New

-- the rows after some of the edits from the first on, but not the last one: a single edit was not made
pub record IsInPart (rows : RowMap) (edits : List RowEdit) (now : RowMap) : Type 0 where
  pub made : ℕ
  pub few : made ≤ length edits - 1
  pub rows' : now ≡ written rows (take made edits)

-- what serving gives: the step, the partition and the rows
pub record ServedPart : Type 0 where
  pub step : Step
  pub part : Partition
  pub rows : RowMap

-- serving a call in partition `number` of a directory
abbrev pub serve_part : Partition → RowMap → ℕ → ℕ → Ask → ℕ → Setup → ℕ → ServedPart
serve_part part rows dir number ask now setup fresh = record {
  step = (plan_part part rows dir number ask now setup fresh).step;
  part = part_made part (plan_part part rows dir number ask now setup fresh);
  rows = rows_made rows (plan_part part rows dir number ask now setup fresh);
}

-- what serving gave is what the definition says
pub record IsServedPart (served : ServedPart) (step : Step) (part : Partition) (rows : RowMap) : Type 0 where
  pub step' : step ≡ served.step
  pub part' : part ≡ served.part
  pub rows' : rows ≡ served.rows

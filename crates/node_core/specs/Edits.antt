-- A change of one partition and of its rows, worked out and still to be made.
use Rattle.std.specs.Prelude.{◌≡◌, ℕ, ◌+◌, ◌≤◌, length, Option, Some, None, unwrap_or}
use Rattle.std.specs.FinMap as map
use Rattle.mds_base.specs.declared.reply.Final.{Final}
use Rattle.mds_base.specs.declared.reply.Final.TheVariants.{CreatedDir}
use Rattle.mds_base.specs.declared.session.Session.{Session}
use Rattle.mds_base.specs.RowKeys.{RowMap}
use Rattle.sessions.specs.declared.kept.Judged.TheVariants.{New}
use Rattle.sessions.specs.Kept.{judge_kept}
use Rattle.partition.specs.Rows.{written}
use Rattle.partition.specs.Serving.{empty_part, part_noted}
use Rattle.node_core.specs.declared.change.Change.{Change}
use Rattle.node_core.specs.Nodes.{NodeV, PartKey, PartMap, session_in}

-- the partitions once a change was noted in one of them, which has this many rows then
abbrev pub parts_noted : PartMap → ℕ → PartKey → Session → ℕ → PartMap
parts_noted parts floor key session count =
    map.insert parts key (part_noted (unwrap_or (map.get parts key) (empty_part floor)) session count)

-- how many numbers the reply of a change gives
abbrev pub numbers_of : Final → ℕ
numbers_of (CreatedDir number) = 1
numbers_of said = 0

-- the node once a change was made
abbrev pub node_noted : NodeV → Change → NodeV
node_noted node change = record node {
  next = node.next + numbers_of change.session.said;
  parts = parts_noted node.parts node.floor (change.dir, change.part) change.session change.count;
}

-- a change that can be made, whole or not at all: nothing at or past its number is kept of its client, and it edits one
-- row at most
pub record CanBeMade (node : NodeV) (change : Change) : Type 0 where
  pub newer : judge_kept (session_in node change.dir change.part change.session.client) change.session.seq ≡ New
  pub few : length change.edits ≤ 1

-- the same of a change or none, which leaves node and rows
abbrev pub noted_by : NodeV → Option Change → NodeV
noted_by node None = node
noted_by node (Some change) = node_noted node change

abbrev pub written_by : RowMap → Option Change → RowMap
written_by rows None = rows
written_by rows (Some change) = written rows change.edits

abbrev pub MayBeMade : NodeV → Option Change → Type 0
MayBeMade node None = Unit {0}
MayBeMade node (Some change) = CanBeMade node change

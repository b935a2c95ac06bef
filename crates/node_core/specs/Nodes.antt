-- What a server keeps, as a value: its next directory number, what it knows of the partitions of directories, and its
-- own partitions. The rows stand beside the node.
use Rattle.std.specs.Prelude.{ℕ, ◌+◌, ◌*◌, ◌-◌, ◌==◌, ◌&&◌, Bool, List, length, Option, Some, None, unwrap_or, nat_le}
use Rattle.std.specs.Prelude.{if◌then◌else◌}
use Rattle.std.specs.declared.cmp.Ordering.{Ordering}
use Rattle.std.specs.Ordering.{nat_cmp, ordering_then}
use Rattle.std.specs.FinMap as map
use Rattle.std.specs.FinSet as set
use Rattle.bitmap.specs.Bits.{Bits, has}
use Rattle.chains.specs.Located.{located}
use Rattle.std.specs.Prelude.{map as list_map}
use Rattle.mds_base.specs.declared.limits.TheConstants.{SERVER_DIRECTORIES, SERVE_DIRECTORIES}
use Rattle.mds_base.specs.declared.TheConstants.{RADIX}
use Rattle.mds_base.specs.declared.attr.Attr.{Attr}
use Rattle.mds_base.specs.declared.call.Call.{Call}
use Rattle.mds_base.specs.declared.reply.Final.{Final}
use Rattle.mds_base.specs.declared.reply.Reply.TheVariants.{Said}
use Rattle.mds_base.specs.declared.setup.Setup.{Setup}
use Rattle.mds_base.specs.declared.edit.Edit.{Edit}
use Rattle.mds_base.specs.PlainRules.{edit_of, given_by}
use Rattle.mds_base.specs.RowKeys.{RowMap, edited_rows, edited_count}
use Rattle.placement.specs.Placement.{server_of}
use Rattle.name_hash.specs.NameHash.{hash_of}
use Rattle.name_hash.specs.RowPlace.{row_key}
use Rattle.sessions.specs.declared.kept.Kept.{Kept}
use Rattle.partition.specs.declared.partition.Partition.{Partition}
use Rattle.partition.specs.Serving.{empty_part, part_noted}
use Rattle.mds_base.specs.declared.split_state.SplitState.{SplitState}
use Rattle.mds_base.specs.declared.split_state.SplitState.TheVariants.{Quiet, Moving}
use Rattle.split.specs.Halves.{is_frozen}
use Rattle.split.specs.Pieces.{Collected}

-- a partition's directory and its number there
abbrev pub PartKey : Type 0
PartKey = ℕ × ℕ

abbrev pub part_cmp : PartKey → PartKey → Ordering
part_cmp a b = ordering_then (nat_cmp a.0 b.0) (nat_cmp a.1 b.1)

abbrev pub PartMap : Type 0
PartMap = map.FinMap part_cmp Partition

pub record NodeV : Type 0 where
  -- the server's number
  pub server : ℕ
  pub setup : Setup
  -- the next directory number that it gives
  pub next : ℕ
  -- the floor of a partition 0 in which nothing was noted
  pub floor : ℕ
  -- the bitmaps of directories; one that is not here is of a directory of which partition 0 alone is known
  pub bits : map.FinMap nat_cmp Bits
  -- its partitions; a partition 0 that is not here is one that nothing was noted in
  pub parts : PartMap
  -- the pieces that came so far, of the partitions that are on their way here
  pub pieces : map.FinMap part_cmp Collected

-- a node with its rows
pub record NodeAndRows : Type 0 where
  pub node : NodeV
  pub rows : RowMap

-- the first directory number of a server, and the end of its numbers
abbrev pub first_number : ℕ → ℕ
first_number server = server * SERVER_DIRECTORIES + 2

abbrev pub end_of_numbers : ℕ → ℕ
end_of_numbers server = (server + 1) * SERVER_DIRECTORIES

-- whether a server has the directory numbers that serving one message may want
abbrev pub has_numbers : NodeV → Bool
has_numbers node = nat_le (node.next + SERVE_DIRECTORIES) (end_of_numbers node.server)

abbrev pub new_node : ℕ → Setup → NodeV
new_node server setup = record {
  server = server;
  setup = setup;
  next = first_number server;
  floor = 0;
  bits = map.empty;
  parts = map.empty;
  pieces = map.empty;
}

-- a node on which nothing was noted yet
abbrev pub is_new : NodeV → Bool
is_new node = (node.next == first_number node.server) && (map.len node.parts == 0)

-- the node without its sessions
abbrev pub part_cleared : Partition → Partition
part_cleared part = record part { sessions = map.empty }

abbrev pub cleared_part : PartKey × Partition → PartKey × Partition
cleared_part entry = (entry.0, part_cleared entry.1)

abbrev pub parts_cleared : PartMap → PartMap
parts_cleared parts = map.from_entries (list_map cleared_part (map.entries parts))

abbrev pub cleared : NodeV → NodeV
cleared node = record node { parts = parts_cleared node.parts }

abbrev pub part_in : NodeV → ℕ → ℕ → Partition
part_in node dir part = unwrap_or (map.get node.parts (dir, part)) (empty_part node.floor)

-- what the partition keeps of a client
unfoldable pub session_in : NodeV → ℕ → ℕ → ℕ → Option Kept
session_in node dir part client = map.get (part_in node dir part).sessions client

-- the server of a partition
abbrev pub server_for : ℕ → ℕ → ℕ → ℕ
server_for servers dir part = server_of dir part servers

-- partition 0 alone
abbrev pub zero_bits : Bits
zero_bits = set.insert set.empty 0

-- the partitions of a directory that a node knows
abbrev pub bits_in : NodeV → ℕ → Bits
bits_in node dir = unwrap_or (map.get node.bits dir) zero_bits

-- the partition that a node locates for a name of a directory
unfoldable pub part_for : NodeV → ℕ → List ℕ → ℕ
part_for node dir name = located RADIX (hash_of name) (has (bits_in node dir))

-- the depth at which a partition in this state moves a hash away, where it does
abbrev pub frozen_in : SplitState → ℕ → Option ℕ
frozen_in Quiet hash = None
frozen_in (Moving depth) hash = if is_frozen (Moving depth) hash then Some depth else None

-- the same of a name in the partition that a node locates for it
abbrev pub frozen_at : NodeV → ℕ → List ℕ → Option ℕ
frozen_at node dir name = frozen_in (part_in node dir (part_for node dir name)).split (hash_of name)

-- whether a partition lies on the node's server
abbrev pub owns : NodeV → ℕ → ℕ → Bool
owns node dir part = server_for node.setup.servers dir part == node.server

-- the attributes of a name in a partition
unfoldable pub row_in : RowMap → ℕ → ℕ → List ℕ → Option Attr
row_in rows dir part name = map.get rows (row_key dir part name)

-- what becomes of the row of a name by a call that got this final reply
abbrev pub edit_in : RowMap → ℕ → ℕ → List ℕ → Call → Final → Edit
edit_in rows dir part name call said = edit_of call (Said said) (row_in rows dir part name)

-- the rows once a call on a name was carried out in a partition
unfoldable pub rows_after : RowMap → ℕ → ℕ → List ℕ → Call → Final → RowMap
rows_after rows dir part name call said =
    edited_rows rows (row_key dir part name) (edit_in rows dir part name call said)

-- how many rows a partition has then
abbrev pub count_after : NodeV → RowMap → ℕ → ℕ → List ℕ → Call → Final → ℕ
count_after node rows dir part name call said =
    edited_count (part_in node dir part).count (edit_in rows dir part name call said) (row_in rows dir part name)

-- the node once a call on a name was carried out in a partition: the row is counted, the change is noted, and the
-- numbers that it gave are used up
unfoldable pub noted_in : NodeV → RowMap → ℕ → ℕ → List ℕ → ℕ → ℕ → Call → Final → NodeV
noted_in node rows dir part name client seq call said = record node {
  next = node.next + length (given_by call (Said said));
  parts = map.insert node.parts (dir, part)
      (part_noted (part_in node dir part) (record { client = client; seq = seq; said = said })
      (count_after node rows dir part name call said));
}

-- The ranges of a node's numbers.
use Rattle.std.specs.Prelude.{ℕ, ◌<◌, ◌≤◌, Option, Some, None}
use Rattle.mds_base.specs.declared.limits.TheConstants.{DIRECTORIES, SERVERS_MOST, LEASE_MOST}
use Rattle.mds_base.specs.declared.ask.Ask.{Ask}
use Rattle.mds_base.specs.declared.setup.Setup.{Setup}
use Rattle.mds_base.specs.Calls.{dir_of}
use Rattle.records.specs.declared.record.Record.{Record}
use Rattle.records.specs.declared.record.Record.TheVariants.{Served}
use Rattle.records.specs.declared.msg.Msg.{Msg}
use Rattle.node_core.specs.Rules.{request_in}

pub record AreRanges (server : ℕ) (setup : Setup) : Type 0 where
  pub in_setup : server < setup.servers
  pub servers : setup.servers ≤ SERVERS_MOST
  pub lease : setup.lease ≤ LEASE_MOST

-- a request is on a directory whose number is within its range
abbrev pub RequestFits : Option Ask → Type 0
RequestFits None = Unit {0}
RequestFits (Some ask) = dir_of ask.call < DIRECTORIES

abbrev pub DirFits : Msg → Type 0
DirFits msg = RequestFits (request_in msg)

-- the record of a change is on a directory whose number is within its range
abbrev pub RecordFits : Record → Type 0
RecordFits (Served client seq part call said) = dir_of call < DIRECTORIES
RecordFits item = Unit {0}

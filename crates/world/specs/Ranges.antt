-- The ranges of a world's numbers.
use Rattle.std.specs.Prelude.{ℕ, ◌<◌, List, Option, Some, None}
use Rattle.mds_base.specs.declared.limits.TheConstants.{DIRECTORIES, MOMENTS}
use Rattle.mds_base.specs.declared.setup.Setup.{Setup}
use Rattle.records.specs.declared.msg.Msg.{Msg}
use Rattle.node_core.specs.Ranges.{DirFits, RecordFits}
use Rattle.client_core.specs.declared.client.Pending.{Pending}
use Rattle.mds_base.specs.Calls.{dir_of}
use Rattle.world.specs.declared.state.ServerState.{ServerState}
use Rattle.world.specs.declared.state.ClientState.{ClientState}
use Rattle.mds_base.specs.Lists.{Each}
use Rattle.mds_base.specs.Setups.{IsSetup}

-- an open call is on a directory whose number is within its range
abbrev pub PendingFits : Option Pending → Type 0
PendingFits None = Unit {0}
PendingFits (Some pending) = dir_of pending.call < DIRECTORIES

-- the ranges of the numbers of clients and messages: of the setup and the moment, and what is asked of each seat and of
-- each message
pub record AreRanges {Seat : Type 0} (setup : Setup) (now : ℕ) (IsSeat : ℕ → Seat → Type 0) (seats : List Seat)
    (IsSent : Msg → Type 0) (sent : List Msg) : Type 0 where
  pub setup' : IsSetup setup
  pub moment : now < MOMENTS
  pub seats' : Each seats IsSeat
  pub sent' : Each sent (λ k msg. IsSent msg)

abbrev pub SeatFits : ℕ → ClientState → Type 0
SeatFits k seat = PendingFits seat.client.pending

abbrev pub DoubtFits : ℕ → ServerState → Type 0
DoubtFits s state = Each state.doubt (λ k item. RecordFits item)

-- in a world each directory that a call, a message or a record in doubt names has a number within its range
pub record IsRanged (setup : Setup) (now : ℕ) (servers : List ServerState) (clients : List ClientState)
    (sent : List Msg) : Type 0 where
  pub ranges : AreRanges setup now SeatFits clients DirFits sent
  pub doubts : Each servers DoubtFits

-- Which messages are well made, and which may be sent.
use Rattle.std.specs.Prelude.{◌≡◌, ℕ, ◌<◌, ◌≤◌, ◌^◌, true, Option, None, Some, IsTrue, MatchOption}
use Rattle.mds_base.specs.declared.limits.TheConstants.{CLIENTS_MOST}
use Rattle.mds_base.specs.declared.ask.Ask.{Ask}
use Rattle.mds_base.specs.declared.call.Call.{Call}
use Rattle.mds_base.specs.declared.call.Call.TheVariants.{Setattr}
use Rattle.mds_base.specs.Calls.{CallOn, OnName, asked_of, is_well_made}
use Rattle.mds_base.specs.Name.{is_name}
use Rattle.records.specs.declared.msg.Msg.{Msg}
use Rattle.records.specs.Messages.{server_of_msg}
use Rattle.records.specs.Spelling.{IsStamp}
use Rattle.node_core.specs.Rules.{request_in}

-- The parts of a call are what its types allow: the name of a change, and the size and the stamp that a setattr sets.
abbrev pub IsNamed : CallOn → Type 0
IsNamed (OnName dir name true) = IsTrue (is_name name)
IsNamed on = Unit {0}

abbrev pub FitsItsTypes : Call → Type 0
FitsItsTypes (Setattr dir name mode size stamp) = (size < 2 ^ 64) × IsStamp stamp
FitsItsTypes call = Unit {0}

-- a call that is well made
pub record IsWellMade (call : Call) : Type 0 where
  pub made : is_well_made call ≡ true
  pub named : IsNamed (asked_of call)
  pub fits : FitsItsTypes call

-- an ask of a client that is well made
pub record IsAsked (ask : Ask) : Type 0 where
  pub some_client : 1 ≤ ask.client
  pub few_clients : ask.client ≤ CLIENTS_MOST
  pub from_one : 1 ≤ ask.seq
  pub fits : ask.seq < 2 ^ 64
  pub made : IsWellMade ask.call

-- a message that is well made
abbrev pub IsRequest : Option Ask → Type 0
IsRequest None = Unit {0}
IsRequest (Some ask) = IsAsked ask

abbrev pub IsMessage : Msg → Type 0
IsMessage msg = IsRequest (request_in msg)

-- a message is well made, and one that is for a server is for one that is there
pub record IsSent (servers : ℕ) (msg : Msg) : Type 0 where
  pub there : MatchOption (server_of_msg msg) (Unit {0}) (λ server. server < servers)
  pub made : IsMessage msg

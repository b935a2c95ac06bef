-- The entries that a server makes, as the program keeps them.
use Rattle.std.specs.Prelude.{ℕ, Bool, true, false, List, [], ◌∷◌, ◌++◌, Option, Some, None}
use Rattle.std.specs.List.{filter_map, slice_get}
use Rattle.mds_base.specs.declared.ask.Ask.{Ask}
use Rattle.mds_base.specs.declared.call.Call.{Call}
use Rattle.mds_base.specs.declared.call.Call.TheVariants.{Lookup}
use Rattle.mds_base.specs.declared.reply.Reply.{Reply}
use Rattle.mds_base.specs.declared.reply.Reply.TheVariants.{Said}
use Rattle.records.specs.declared.msg.Msg.{Msg}
use Rattle.records.specs.declared.msg.Msg.TheVariants.{Answer}
use Rattle.records.specs.declared.record.Record.{Record}
use Rattle.records.specs.declared.record.Record.TheVariants as records
use Rattle.node_core.specs.Rules.{request_in}
pub use Rattle.world.specs.Histories.{only_of}
use Rattle.message_store.specs.declared.made.Kind.TheVariants as kinds
use Rattle.message_store.specs.declared.made.Made.{Made}
use Rattle.simulation.specs.declared.servers.Served.{Served}
use Rattle.simulation.specs.declared.servers.Served.TheVariants as serves

-- the entry of the change that a record tells of
abbrev pub change_of : Record → Option Made
change_of (records.Served client seq part call said) =
    Some (record { entry = record { client = client; seq = seq; call = call; reply = Said said }; kind = kinds.Change })
change_of item = None

abbrev pub changes_of : List Record → List Made
changes_of items = filter_map change_of items

-- the entry of a lookup that got this reply, which stands at this place
abbrev pub looked : Ask → Call → Reply → ℕ → Option Made
looked ask (Lookup dir name) reply message = Some
    (record {
      entry = record { client = ask.client; seq = ask.seq; call = ask.call; reply = reply };
      kind =
          kinds.Lookup message;
    })
looked ask call reply message = None

-- whether a message asks for a lookup
abbrev pub is_lookup_call : Call → Bool
is_lookup_call (Lookup dir name) = true
is_lookup_call call = false

abbrev pub is_lookup_ask : Option Ask → Bool
is_lookup_ask None = false
is_lookup_ask (Some ask) = is_lookup_call ask.call

abbrev pub is_lookup : Msg → Bool
is_lookup msg = is_lookup_ask (request_in msg)

-- that of a request that was answered by one message
abbrev pub looked_one : Ask → Option Msg → ℕ → Option Made
looked_one ask (Some (Answer client seq attempt reply)) message = looked ask ask.call reply message
looked_one ask msg message = None

abbrev pub looked_by : Ask → List Msg → ℕ → Option Made
looked_by ask outputs message = looked_one ask (only_of outputs) message

abbrev pub looked_in : Option Ask → List Msg → ℕ → Option Made
looked_in None outputs message = None
looked_in (Some ask) outputs message = looked_by ask outputs message

abbrev pub lookup_of : Msg → List Msg → ℕ → Option Made
lookup_of msg outputs message = looked_in (request_in msg) outputs message

-- a list with one element more, where there is one
abbrev pub with_one : {X : Type 0} → List X → Option X → List X
with_one xs None = xs
with_one xs (Some x) = xs ++ x ∷ []

-- how a Serve ended that was done, by what it sends from this place on
abbrev pub ended_first : Option Msg → ℕ → Served
ended_first None message = serves.Silent
ended_first (Some msg) message = serves.Answered message

abbrev pub ended_by : List Msg → ℕ → Served
ended_by outputs message = ended_first (slice_get outputs 0) message

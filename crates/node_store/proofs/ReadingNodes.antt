-- A node stays that of its server while records are replayed.
use Rattle.std.proofs.Common.{sym, subst, refl, ℕ, List, [], ◌∷◌, Bool, true, false, arith}
use Rattle.mds_base.specs.declared.call.Call.{Call}
use Rattle.mds_base.specs.declared.setup.Setup.{Setup}
use Rattle.records.specs.declared.record.Record.{Record}
use Rattle.records.specs.declared.record.Record.TheVariants.{Head, Opened, Begin, Install, End, Served}
use Rattle.node_core.specs.Nodes.{NodeAndRows, noted_in, new_node}
use Rattle.node_core.specs.Rules.{Asked, ChangeOf, LookOf, NotServed, asked_of}
use Rattle.node_core.specs.Serving.{carried_at, may_follow, replayed, replayed_as, replayed_all}
use Rattle.node_store.specs.Parts.{IsNodeOf}
use Rattle.node_store.specs.Reading.{LeadsOn}

pub new_one : (server : ℕ) (setup : Setup) → IsNodeOf server setup (new_node server setup)
new_one server setup = record { server' = refl; setup' = refl; from_two = omega arith }

carried_one : (server : ℕ) (setup : Setup) (store : NodeAndRows) (client seq : ℕ) (call : Call) (asked : Asked) → IsNodeOf server setup store.node → IsNodeOf server setup (carried_at store client seq call asked).node
unfolding noted_in
carried_one server setup store client seq call (ChangeOf dir name) is = record { server' = is.server'; setup' = is.setup'; from_two = omega (arith, is.from_two) }
carried_one server setup store client seq call (LookOf dir name) is = is
carried_one server setup store client seq call NotServed is = is

replayed_one : (server : ℕ) (setup : Setup) (store : NodeAndRows) (item : Record) (follows : Bool) → IsNodeOf server setup store.node → IsNodeOf server setup (replayed_as store item follows).node
replayed_one server setup store (Served client seq part call said) true is = carried_one server setup store client seq call (asked_of call) is
replayed_one server setup store (Served client seq part call said) false is = is
replayed_one server setup store (Head format servers its threshold) follows is = is
replayed_one server setup store Opened true is = record { server' = is.server'; setup' = is.setup'; from_two = is.from_two }
replayed_one server setup store Opened false is = is
replayed_one server setup store (Begin dir part depth) follows is = is
replayed_one server setup store (Install dir part depth bitmap sessions rows) follows is = is
replayed_one server setup store (End dir part depth) follows is = is

pub still_one : (server : ℕ) (setup : Setup) (store : NodeAndRows) (item : Record) → IsNodeOf server setup store.node → IsNodeOf server setup (replayed store item).node
still_one server setup store item is = replayed_one server setup store item (may_follow store item) is

pub still_all : (server : ℕ) (setup : Setup) (store : NodeAndRows) (items : List Record) → IsNodeOf server setup store.node → IsNodeOf server setup (replayed_all store items).node
still_all server setup store [] is = is
still_all server setup store (item ∷ items) is = still_all server setup (replayed store item) items (still_one server setup store item is)

pub body_one : (old new : NodeAndRows) (body : List ℕ) → LeadsOn old body new → (server : ℕ) (setup : Setup) → IsNodeOf server setup old.node → IsNodeOf server setup new.node
body_one old new body leads server setup is = subst (λ (s : NodeAndRows). IsNodeOf server setup s.node) (sym leads.leads) (still_all server setup old leads.items is)

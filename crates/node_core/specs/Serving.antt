-- What serving a message does, what replaying a record does and when it may follow, and what a restart sets.
use Rattle.std.specs.Prelude.{◌≡◌, ℕ, ◌&&◌, ◌==◌, not, Bool, true, false, List, [], ◌∷◌, ◌++◌, Option, Some, None}
use Rattle.std.specs.Prelude.{is_some}
use Rattle.mds_base.specs.declared.ask.Ask.{Ask}
use Rattle.mds_base.specs.declared.call.Call.{Call}
use Rattle.mds_base.specs.Calls.{dir_of}
use Rattle.mds_base.specs.declared.reply.Final.{Final}
use Rattle.mds_base.specs.Finals.{same_final}
use Rattle.mds_base.specs.declared.reply.Reply.{Reply}
use Rattle.mds_base.specs.declared.reply.Reply.TheVariants.{Said}
use Rattle.records.specs.declared.msg.Msg.{Msg}
use Rattle.records.specs.declared.msg.Msg.TheVariants.{Answer, Busy, Redirect}
use Rattle.mds_base.specs.RowKeys.{RowMap}
use Rattle.records.specs.declared.handled.Handled.{Handled}
use Rattle.records.specs.declared.record.Record.{Record}
use Rattle.records.specs.declared.record.Record.TheVariants.{Head, Opened, Served}
use Rattle.sessions.specs.declared.kept.Judged.{Judged}
use Rattle.sessions.specs.declared.kept.Judged.TheVariants.{New, Again, Old}
use Rattle.sessions.specs.Kept.{judge_kept}
use Rattle.node_core.specs.Nodes.{NodeV, NodeAndRows, owns, session_in, has_numbers, is_new, cleared, part_for}
use Rattle.node_core.specs.Nodes.{frozen_at}
use Rattle.node_core.specs.Nodes.{noted_in}
use Rattle.node_core.specs.Nodes.{rows_after}
use Rattle.node_core.specs.Rules.{Asked, ChangeOf, LookOf, NotServed, asked_of, said_in, Outcome, Silent, Looks}
use Rattle.node_core.specs.Rules.{Redirects, Waits}
use Rattle.node_core.specs.Rules.{Repeats, Carries, outcome, request_in}

-- the store once a change on a name was carried out
abbrev pub carried : NodeAndRows → ℕ → ℕ → Call → ℕ → List ℕ → NodeAndRows
carried store client seq call dir name =
    record {
      node = noted_in store.node store.rows dir (part_for store.node dir name) name client seq call
          (said_in store call dir name);
      rows = rows_after store.rows dir (part_for store.node dir name) name call (said_in store call dir name);
    }

abbrev pub carried_at : NodeAndRows → ℕ → ℕ → Call → Asked → NodeAndRows
carried_at store client seq call (ChangeOf dir name) = carried store client seq call dir name
carried_at store client seq call (LookOf dir name) = store
carried_at store client seq call NotServed = store

-- the partition in which a change is noted
abbrev pub part_at : NodeAndRows → Asked → ℕ
part_at store (ChangeOf dir name) = part_for store.node dir name
part_at store (LookOf dir name) = 0
part_at store NotServed = 0

-- what serving gives: the store, the records of one append, and the messages to send, in their order
pub record ServedV : Type 0 where
  pub store : NodeAndRows
  pub records : List Record
  pub outputs : List Msg

abbrev pub answer_to : Ask → Reply → Msg
answer_to ask reply = Answer ask.client ask.seq ask.attempt reply

abbrev pub served_as : NodeAndRows → Ask → Outcome → ServedV
served_as store ask Silent = record { store = store; records = []; outputs = [] }
served_as store ask (Redirects bits) = record {
  store = store;
  records = [];
  outputs = Redirect ask.client ask.seq ask.attempt (dir_of ask.call) bits ∷ [];
}
served_as store ask (Waits part depth) =
    record { store = store; records = []; outputs = Busy ask.client ask.seq ask.attempt part depth ∷ [] }
served_as store ask (Looks reply) = record { store = store; records = []; outputs = answer_to ask reply ∷ [] }
served_as store ask (Repeats said) = record { store = store; records = []; outputs = answer_to ask (Said said) ∷ [] }
served_as store ask (Carries said) =
    record {
      store = carried_at store ask.client ask.seq ask.call (asked_of ask.call);
      records = Served ask.client ask.seq (part_at store (asked_of ask.call)) ask.call said ∷ [];
      outputs = answer_to ask (Said said) ∷ [];
    }

-- serving a request
abbrev pub serve_ask : NodeAndRows → Ask → ℕ → ServedV
serve_ask store ask now = served_as store ask (outcome store ask now)

-- serving a message; what is no request changes nothing and sends nothing, since nothing splits yet
abbrev pub serve_request : NodeAndRows → Option Ask → ℕ → ServedV
serve_request store None now = record { store = store; records = []; outputs = [] }
serve_request store (Some ask) now = serve_ask store ask now

-- what is known of it for every store is in `proofs/ToldRecords.antt` and `proofs/ToldOutputs.antt`
unfoldable pub serve : NodeAndRows → Msg → ℕ → ServedV
serve store msg now = serve_request store (request_in msg) now

-- serving several messages, one after another
abbrev pub serve_all : NodeAndRows → List Msg → ℕ → ServedV
serve_all store [] now = record { store = store; records = []; outputs = [] }
serve_all store (msg ∷ msgs) now =
    record {
      store = (serve_all (serve store msg now).store msgs now).store;
      records = (serve store msg now).records ++ (serve_all (serve store msg now).store msgs now).records;
      outputs = (serve store msg now).outputs ++ (serve_all (serve store msg now).store msgs now).outputs;
    }

-- the transfers of the partitions that move, by directory and number: nothing splits yet, so none moves
abbrev pub reminders : NodeAndRows → List Msg
reminders store = []

-- whether serving comes to carrying out a change with this final reply
abbrev pub carries : Outcome → Final → Bool
carries (Carries said) other = same_final said other
carries outcome other = false

-- the request of which a record tells
abbrev pub ask_of : ℕ → ℕ → Call → Ask
ask_of client seq call = record { client = client; seq = seq; attempt = 1; call = call }

abbrev pub is_new_change : Judged → Bool
is_new_change New = true
is_new_change (Again said) = false
is_new_change (Old kept) = false

-- whether a change on a name of a directory may be noted in a partition of this server, as far as its session is aside
abbrev pub is_placed : NodeV → ℕ → List ℕ → ℕ → Bool
is_placed node dir name part =
    (part == part_for node dir name)
    && (has_numbers node && (owns node dir (part_for node dir name) && not (is_some (frozen_at node dir name))))

-- whether a change of a client would be noted there
abbrev pub may_carry : NodeV → ℕ → List ℕ → ℕ → ℕ → ℕ → Bool
may_carry node dir name client seq part =
    is_placed node dir name part
    && is_new_change (judge_kept (session_in node dir (part_for node dir name) client) seq)

-- whether the first record of a log is of this node, which is new
abbrev pub is_head : NodeV → ℕ → ℕ → ℕ → ℕ → Bool
is_head node format servers server threshold =
    is_new node && (((format == 1) && (servers == node.setup.servers))
    && ((server == node.server) && (threshold == node.setup.threshold)))

-- whether a record may follow: enough directory numbers are left, and a request with its client, number and call would
-- be noted here, in its partition and with its final reply; the record that begins a log follows on a new node of its
-- numbers alone, and the one that begins a run always follows; nothing splits yet, so no record of a split follows
abbrev pub may_follow : NodeAndRows → Record → Bool
may_follow store (Served client seq part call said) =
    has_numbers store.node
    && (carries (outcome store (ask_of client seq call) 0) said && (part == part_at store (asked_of call)))
may_follow store (Head format servers server threshold) = is_head store.node format servers server threshold
may_follow store Opened = true
may_follow store item = false

-- the store once a record was replayed; a record that may not follow changes nothing
abbrev pub replayed_as : NodeAndRows → Record → Bool → NodeAndRows
replayed_as store (Served client seq part call said) true = carried_at store client seq call (asked_of call)
replayed_as store Opened true = record store { node = cleared store.node }
replayed_as store item follows = store

abbrev pub replayed : NodeAndRows → Record → NodeAndRows
replayed store item = replayed_as store item (may_follow store item)

abbrev pub replayed_all : NodeAndRows → List Record → NodeAndRows
replayed_all store [] = store
replayed_all store (item ∷ items) = replayed_all (replayed store item) items

-- each record may follow where those before it lead
abbrev pub all_follow : NodeAndRows → List Record → Bool
all_follow store [] = true
all_follow store (item ∷ items) = may_follow store item && all_follow (replayed store item) items

-- the store once its server was restarted: there are no leases yet, so a restart sets nothing
abbrev pub restarted : NodeAndRows → ℕ → NodeAndRows
restarted store now = store

-- what serving gave is what the specification says
pub record IsServed (served : ServedV) (node : NodeV) (rows : RowMap) (handled : Handled) : Type 0 where
  pub node' : node ≡ served.store.node
  pub rows' : rows ≡ served.store.rows
  pub records : handled.records ≡ served.records
  pub outputs : handled.outputs ≡ served.outputs

-- what replaying a record gave is what the specification says
pub record IsReplayed (store : NodeAndRows) (item : Record) (node : NodeV) (rows : RowMap)
    (follows : Bool) : Type 0 where
  pub follows' : follows ≡ may_follow store item
  pub node' : node ≡ (replayed store item).node
  pub rows' : rows ≡ (replayed store item).rows

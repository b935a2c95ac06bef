-- What holds of every run at every event: one record of concerns, each over the parts of the run that it reads.
use Rattle.std.proofs.Common.{◌≡◌, ℕ, suc, ◌+◌, ◌*◌, ◌<◌, ◌≤◌, true, List, [], ◌∷◌, length, Option, Some, None}
use Rattle.std.specs.Prelude.{◌⊎◌}
use Rattle.std.specs.List.{slice_get, AllByRecursion}
use Rattle.std.specs.FinMap as map
use Rattle.mds_base.specs.declared.limits.TheConstants.{SERVER_DIRECTORIES}
use Rattle.mds_base.specs.declared.setup.Setup.{Setup}
use Rattle.mds_base.specs.declared.ask.Ask.{Ask}
use Rattle.mds_base.specs.declared.call.Call.{Call}
use Rattle.mds_base.specs.declared.reply.Final.{Final}
use Rattle.mds_base.specs.declared.reply.Reply.{Reply}
use Rattle.mds_base.specs.declared.reply.Reply.TheVariants.{Said}
use Rattle.mds_base.specs.Entries.{Entries}
use Rattle.mds_base.specs.History.{IsLegal, map_after, given}
use Rattle.records.specs.declared.msg.Msg.{Msg}
use Rattle.records.specs.declared.msg.Msg.TheVariants.{Redirect, Answer}
use Rattle.records.specs.Messages.{server_of_msg}
use Rattle.records.specs.declared.record.Record.{Record}
use Rattle.records.specs.declared.record.Record.TheVariants.{Served}
use Rattle.bitmap.specs.Bits.{has}
use Rattle.sessions.specs.declared.kept.Kept.{Kept}
use Rattle.sessions.specs.declared.kept.Judged.TheVariants.{New}
use Rattle.sessions.specs.Kept.{judge_kept, seq_of}
use Rattle.node_core.specs.Nodes.{NodeAndRows, new_node, first_number, end_of_numbers, has_numbers, server_for, part_for, frozen_at, session_in, row_in}
use Rattle.node_core.specs.Rules.{ChangeOf, LookOf, asked_of, said_in, request_in}
use Rattle.node_core.specs.Serving.{carried_at}
use Rattle.client_core.specs.declared.client.Pending.{Pending}
use Rattle.client_core.specs.Clients.{ClientV, bits_in}
use Rattle.mds_base.specs.Calls.{dir_of}
use Rattle.world.specs.declared.state.ServerState.{ServerState}
use Rattle.world.specs.declared.state.ClientState.{ClientState}
use Rattle.mds_base.specs.Lists.{Each, Among, OnceBy}
use Rattle.world.specs.Worlds.{store_of}
use Rattle.world.specs.Law.{IsSettled}
use Rattle.world.proofs.Keepers.{Keepers, keepers, IsKept, KeepsBits}
use Rattle.world.specs.Events.{is_call, seat_at}
use Rattle.world.specs.Histories.{MadeV, IssuedV, AnsweredV, Trace, Kind, Change, Looked, IsOfIssue, IsAnswerOf, entries_of}

-- What clauses read

abbrev pub no_store : NodeAndRows
no_store = record { node = new_node 0 (record { servers = 0; threshold = 0; lease = 0; clients = 0 }); rows = map.empty }

abbrev pub store_or : Option ServerState → NodeAndRows
store_or None = no_store
store_or (Some state) = store_of state

-- the store of a server
unfoldable pub store_in : List ServerState → ℕ → NodeAndRows
store_in servers s = store_or (slice_get servers s)

abbrev pub seq_or : Option ClientState → ℕ
seq_or None = 0
seq_or (Some seat) = seat.client.seq

-- how many calls a client numbered
unfoldable pub seq_in : List ClientState → ℕ → ℕ
seq_in clients client = seq_or (seat_at clients client)

-- Sizes

pub record IsServer (setup : Setup) (s : ℕ) (state : ServerState) : Type 0 where
  pub server : state.node.server ≡ s
  pub setup' : state.node.setup ≡ setup

pub record IsClient (setup : Setup) (k : ℕ) (seat : ClientState) : Type 0 where
  pub number : seat.client.number ≡ suc k
  pub setup' : seat.client.setup ≡ setup

pub record Sizes (setup : Setup) (servers : List ServerState) (clients : List ClientState) : Type 0 where
  pub some_servers : 0 < setup.servers
  pub server_count : length servers ≡ setup.servers
  pub servers_are : Each servers (λ s state. IsServer setup s state)
  pub clients_are : Each clients (λ k seat. IsClient setup k seat)

-- Rows: the map at a name is what the holder's row says

pub record RowsKept (who : Keepers) (count : ℕ) (stores : ℕ → NodeAndRows) (entries : Entries) : Type 0 where
  pub map_rows : (dir : ℕ) (name : List ℕ) → map.get entries (dir, name) ≡ row_in (stores (server_for count dir (who.holder dir name))).rows dir (who.holder dir name) name

-- Calls

pub record IsNumbered (clients : List ClientState) (count : ℕ) (i : IssuedV) : Type 0 where
  pub from_one : 1 ≤ i.seq
  pub below : i.seq ≤ seq_in clients i.client
  pub now : i.at ≤ count

-- an issue of this call of this client; only calls that are served are issued
pub record IsIssueOf (i : IssuedV) (client seq : ℕ) (call : Call) : Type 0 where
  pub client' : i.client ≡ client
  pub seq' : i.seq ≡ seq
  pub call' : i.call ≡ call
  pub served : is_call i.call ≡ true

pub record IsSameIssue (a b : IssuedV) : Type 0 where
  pub client : a.client ≡ b.client
  pub seq : a.seq ≡ b.seq

pub record IsSameAnswer (a b : AnsweredV) : Type 0 where
  pub client : a.client ≡ b.client
  pub seq : a.seq ≡ b.seq

pub record CallsKept (clients : List ClientState) (issued : List IssuedV) (answered : List AnsweredV) (count : ℕ) : Type 0 where
  pub issued_below : Each issued (λ j i. IsNumbered clients count i)
  pub issued_once : OnceBy issued IsSameIssue
  pub open_issued : (k : ℕ) (seat : ClientState) (pending : Pending) → slice_get clients k ≡ Some seat → seat.client.pending ≡ Some pending → Among issued (λ j i. IsIssueOf i (suc k) seat.client.seq pending.call)
  pub open_unanswered : (k : ℕ) (seat : ClientState) (pending : Pending) → slice_get clients k ≡ Some seat → seat.client.pending ≡ Some pending → Each answered (λ j a. a.client ≡ suc k → a.seq ≡ seat.client.seq → ⊥)
  pub answered_below : Each answered (λ j a. a.seq ≤ seq_in clients a.client)
  pub answered_once : OnceBy answered IsSameAnswer

-- What was made

abbrev pub IsOfKind : Kind → Call → Type 0
IsOfKind Change call = (dir : ℕ) × (name : List ℕ) × (asked_of call ≡ ChangeOf dir name)
IsOfKind (Looked place) call = (dir : ℕ) × (name : List ℕ) × (asked_of call ≡ LookOf dir name)

abbrev pub IsSentAs : List Msg → MadeV → Kind → Type 0
IsSentAs sent e Change = Unit {0}
IsSentAs sent e (Looked place) = (attempt : ℕ) × (slice_get sent place ≡ Some (Answer e.entry.client e.entry.seq attempt e.entry.reply))

pub record IsSameLook (a b : MadeV) : Type 0 where
  pub place : ℕ
  pub left : a.kind ≡ Looked place
  pub right : b.kind ≡ Looked place

pub record IsSameChange (a b : MadeV) : Type 0 where
  pub left : a.kind ≡ Change
  pub right : b.kind ≡ Change
  pub client : a.entry.client ≡ b.entry.client
  pub seq : a.entry.seq ≡ b.entry.seq

pub record MadeKept (sent : List Msg) (issued : List IssuedV) (made : List MadeV) (count : ℕ) : Type 0 where
  pub made_issued : Each made (λ k e. Among issued (λ j i. IsOfIssue e i))
  pub made_now : Each made (λ k e. e.at ≤ count)
  pub made_kind : Each made (λ k e. IsOfKind e.kind e.entry.call)
  pub looked_sent : Each made (λ k e. IsSentAs sent e e.kind)
  pub looked_once : OnceBy made IsSameLook
  pub change_once : OnceBy made IsSameChange

pub record LegalKept (start entries : Entries) (made : List MadeV) : Type 0 where
  pub legal : IsLegal start (entries_of made)
  pub now : entries ≡ map_after start (entries_of made)

-- Sessions: what is kept of a client tells of a change that was made, and covers each change that was made

pub record IsNotedAs (e : MadeV) (client : ℕ) (kept : Kept) : Type 0 where
  pub kind : e.kind ≡ Change
  pub client' : e.entry.client ≡ client
  pub seq : e.entry.seq ≡ kept.seq
  pub reply : e.entry.reply ≡ Said kept.said

pub record SessionsKept (who : Keepers) (count : ℕ) (stores : ℕ → NodeAndRows) (made : List MadeV) : Type 0 where
  pub session_true : (dir part client : ℕ) (kept : Kept) → session_in (stores (server_for count dir part)).node dir part client ≡ Some kept → Among made (λ k e. IsNotedAs e client kept)
  pub session_covers : (k : ℕ) (e : MadeV) → slice_get made k ≡ Some e → e.kind ≡ Change → (dir : ℕ) (name : List ℕ) → asked_of e.entry.call ≡ ChangeOf dir name
      → e.entry.seq ≤ seq_of (session_in (stores (server_for count dir (who.holder dir name))).node dir (who.holder dir name) e.entry.client)

-- Messages

pub record IsTrueRequest (who : Keepers) (count : ℕ) (issued : List IssuedV) (to : Option ℕ) (ask : Ask) : Type 0 where
  pub issue : Among issued (λ j i. IsIssueOf i ask.client ask.seq ask.call)
  pub part : ℕ
  pub kept : IsKept who (dir_of ask.call) part
  pub there : to ≡ Some (server_for count (dir_of ask.call) part)

abbrev pub AskTrue : Keepers → ℕ → List IssuedV → Option ℕ → Option Ask → Type 0
AskTrue who count issued to None = Unit {0}
AskTrue who count issued to (Some ask) = IsTrueRequest who count issued to ask

abbrev pub RequestTrue : Keepers → ℕ → List IssuedV → Msg → Type 0
RequestTrue who count issued msg = AskTrue who count issued (server_of_msg msg) (request_in msg)

-- an entry from which the message at a place has its reply
pub record IsSource (e : MadeV) (client seq : ℕ) (reply : Reply) (place : ℕ) : Type 0 where
  pub client' : e.entry.client ≡ client
  pub seq' : e.entry.seq ≡ seq
  pub reply' : e.entry.reply ≡ reply
  pub kind : (e.kind ≡ Change) ⊎ (e.kind ≡ Looked place)

abbrev pub AnswerTrue : List MadeV → ℕ → Msg → Type 0
AnswerTrue made place (Answer client seq attempt reply) = Among made (λ k e. IsSource e client seq reply place)
AnswerTrue made place msg = Unit {0}

pub record MessagesKept (who : Keepers) (count : ℕ) (sent : List Msg) (issued : List IssuedV) (made : List MadeV) : Type 0 where
  pub request_true : Each sent (λ k m. RequestTrue who count issued m)
  pub answer_true : Each sent (λ k m. AnswerTrue made k m)

-- Answers

-- an entry that answers a call, as the message that was taken for it says
pub record IsAnsweredBy (a : AnsweredV) (e : MadeV) : Type 0 where
  pub answer : IsAnswerOf a e
  pub kind : (e.kind ≡ Change) ⊎ (e.kind ≡ Looked a.message)

abbrev pub IsTakenFrom : List Msg → AnsweredV → Type 0
IsTakenFrom sent a = (attempt : ℕ) × (slice_get sent a.message ≡ Some (Answer a.client a.seq attempt a.reply))

pub record AnswersKept (sent : List Msg) (made : List MadeV) (answered : List AnsweredV) : Type 0 where
  pub answered_taken : Each answered (λ k a. IsTakenFrom sent a)
  pub answered_made : Each answered (λ k a. Among made (λ j e. IsAnsweredBy a e))

-- Directory numbers: what a server gave is below its next number, and each server has its own range

pub record IsWithinRange (s : ℕ) (store : NodeAndRows) : Type 0 where
  pub from : first_number s ≤ store.node.next
  pub to : store.node.next ≤ end_of_numbers s

abbrev pub IsGivenBelow : ℕ → (ℕ → NodeAndRows) → ℕ → Type 0
IsGivenBelow count stores number = (s : ℕ) → s < count → s * SERVER_DIRECTORIES ≤ number → number < (s + 1) * SERVER_DIRECTORIES → number < (stores s).node.next

pub record NumbersKept (count : ℕ) (stores : ℕ → NodeAndRows) (made : List MadeV) : Type 0 where
  pub next_within : (s : ℕ) → s < count → IsWithinRange s (stores s)
  pub given_below : AllByRecursion (IsGivenBelow count stores) (given (entries_of made))

-- Records in doubt may be made, one after another, from the server's own store

pub record IsRequestOf (client seq : ℕ) (call : Call) (ask : Ask) : Type 0 where
  pub client' : ask.client ≡ client
  pub seq' : ask.seq ≡ seq
  pub call' : ask.call ≡ call

abbrev pub AsksIf : ℕ → ℕ → Call → Option Ask → Type 0
AsksIf client seq call None = ⊥
AsksIf client seq call (Some ask) = IsRequestOf client seq call ask

abbrev pub AsksFor : ℕ → ℕ → Call → Msg → Type 0
AsksFor client seq call msg = AsksIf client seq call (request_in msg)

-- a change may be carried out at a server's store
pub record MayCarry (count : ℕ) (sent : List Msg) (s : ℕ) (store : NodeAndRows) (client seq : ℕ) (call : Call) (dir : ℕ) (name : List ℕ) : Type 0 where
  pub asked : asked_of call ≡ ChangeOf dir name
  pub owner : server_for count dir (part_for store.node dir name) ≡ s
  pub free : frozen_at store.node dir name ≡ None
  pub newer : judge_kept (session_in store.node dir (part_for store.node dir name) client) seq ≡ New
  pub numbers : has_numbers store.node ≡ true
  pub told : Among sent (λ k m. AsksFor client seq call m)

pub record MayServe (count : ℕ) (sent : List Msg) (s : ℕ) (store : NodeAndRows) (client seq part : ℕ) (call : Call) (said : Final) : Type 0 where
  pub dir : ℕ
  pub name : List ℕ
  pub may : MayCarry count sent s store client seq call dir name
  pub said' : said ≡ said_in store call dir name
  pub part' : part ≡ part_for store.node dir name

abbrev pub MayFollow : ℕ → List Msg → ℕ → NodeAndRows → Record → Type 0
MayFollow count sent s store (Served client seq part call said) = MayServe count sent s store client seq part call said
MayFollow count sent s store item = ⊥

-- the store once a record was made
abbrev pub made_by : NodeAndRows → Record → NodeAndRows
made_by store (Served client seq part call said) = carried_at store client seq call (asked_of call)
made_by store item = store

abbrev pub Follows : ℕ → List Msg → ℕ → NodeAndRows → List Record → Type 0
Follows count sent s store [] = Unit {0}
Follows count sent s store (item ∷ items) = MayFollow count sent s store item × Follows count sent s (made_by store item) items

pub record DoubtKept (count : ℕ) (sent : List Msg) (servers : List ServerState) : Type 0 where
  pub doubt_down : Each servers IsSettled
  pub doubt_follows : Each servers (λ s state. Follows count sent s (store_of state) state.doubt)

-- Bitmaps: each number of a bitmap, of a server, of a client or sent, is that of a partition which its server keeps

abbrev pub AreKept : Keepers → ClientV → Type 0
AreKept who client = (dir part : ℕ) → has (bits_in client dir) part ≡ true → IsKept who dir part

abbrev pub BitsTrue : Keepers → Msg → Type 0
BitsTrue who (Redirect client seq attempt dir bits) = (part : ℕ) → has bits part ≡ true → IsKept who dir part
BitsTrue who msg = Unit {0}

pub record BitsKept (who : Keepers) (servers : List ServerState) (clients : List ClientState) (sent : List Msg) : Type 0 where
  pub own_kept : Each servers (λ s state. KeepsBits who state.node)
  pub bits_kept : Each clients (λ k seat. AreKept who seat.client)
  pub sent_kept : Each sent (λ k m. BitsTrue who m)

-- The invariant

pub record Inv (t : Trace) : Type 0 where
  pub sizes : Sizes t.world.setup t.world.servers t.world.clients
  pub rows : RowsKept keepers t.world.setup.servers (store_in t.world.servers) t.past.entries
  pub calls : CallsKept t.world.clients t.past.issued t.past.answered t.past.count
  pub made : MadeKept t.world.sent t.past.issued t.past.made t.past.count
  pub legal : LegalKept t.past.start t.past.entries t.past.made
  pub sessions : SessionsKept keepers t.world.setup.servers (store_in t.world.servers) t.past.made
  pub messages : MessagesKept keepers t.world.setup.servers t.world.sent t.past.issued t.past.made
  pub answers : AnswersKept t.world.sent t.past.made t.past.answered
  pub numbers : NumbersKept t.world.setup.servers (store_in t.world.servers) t.past.made
  pub doubt : DoubtKept t.world.setup.servers t.world.sent t.world.servers
  pub bits : BitsKept keepers t.world.servers t.world.clients t.world.sent

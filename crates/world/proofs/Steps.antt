-- The micro-steps of which every event is a list. A micro-step carries values; `may` says by equations that they are
-- right, and `does` changes little.
use Rattle.std.proofs.Common.{◌≡◌, ℕ, suc, ◌+◌, true, false, List, [], ◌∷◌, ◌++◌, length, Option, Some, None}
use Rattle.std.specs.Prelude.{slice_set}
use Rattle.std.specs.List.{slice_get}
use Rattle.mds_base.specs.declared.ask.Ask.{Ask}
use Rattle.mds_base.specs.declared.call.Call.{Call}
use Rattle.mds_base.specs.declared.cursor.Cursor.{Cursor}
use Rattle.mds_base.specs.declared.reply.Final.{Final}
use Rattle.mds_base.specs.declared.reply.Reply.{Reply}
use Rattle.mds_base.specs.declared.reply.Reply.TheVariants.{Said}
use Rattle.records.specs.declared.msg.Msg.{Msg}
use Rattle.records.specs.declared.msg.Msg.TheVariants.{Request, Answer, Redirect, Busy}
use Rattle.records.specs.declared.record.Record.{Record}
use Rattle.records.specs.declared.record.Record.TheVariants.{Served}
use Rattle.bitmap.specs.Bits.{Bits, has}
use Rattle.node_core.specs.Nodes.{server_for, part_for, row_in}
use Rattle.node_core.specs.Rules.{ChangeOf, LookOf, asked_of, said_in, found}
use Rattle.node_core.specs.Serving.{carried}
use Rattle.client_core.specs.declared.client.Pending.{Pending}
use Rattle.client_core.specs.Clients.{issued, resent, merged}
use Rattle.mds_base.specs.Calls.{dir_of}
use Rattle.client_core.specs.Taking.{closed}
use Rattle.world.specs.declared.state.ServerState.{ServerState}
use Rattle.world.specs.declared.state.ClientState.{ClientState}
use Rattle.mds_base.specs.Lists.{Among}
use Rattle.world.specs.Worlds.{store_of}
use Rattle.world.specs.Events.{is_call}
use Rattle.world.specs.Histories.{MadeV, Trace, Change, changed, looked, weighed}
use Rattle.world.proofs.Invariant.{MayCarry, Follows, IsIssueOf, AsksFor}
use Rattle.world.proofs.Keepers.{keepers, IsKept}

pub data Micro : Type 0 where
  -- a server that is up carries a change out
  Note : (s : ℕ) (state : ServerState) (client seq : ℕ) (call : Call) (dir : ℕ) (name : List ℕ) → Micro
  -- a server that is down keeps the first of its records in doubt
  Redo : (s : ℕ) (state : ServerState) (client seq : ℕ) (call : Call) (dir : ℕ) (name : List ℕ) (part : ℕ) (said : Final) (items : List Record) → Micro
  -- a server answers a lookup
  Look : (s : ℕ) (state : ServerState) (ask : Ask) (dir : ℕ) (name : List ℕ) (until : ℕ) → Micro
  -- a server answers a change that was carried out
  Tell : (client seq attempt : ℕ) (said : Final) → Micro
  -- a server redirects a client, and tells it to send again later
  Refer : (client seq attempt dir : ℕ) (bits : Bits) → Micro
  Defer : (client seq attempt part depth : ℕ) → Micro
  -- a client's call is sent
  Send : (to : ℕ) (ask : Ask) (cursor : Option Cursor) → Micro
  -- a client opens a call, raises the attempt number, merges a bitmap, takes an answer, gives up
  Open : (k : ℕ) (seat : ClientState) (call : Call) → Micro
  Bump : (k : ℕ) (seat : ClientState) (pending : Pending) → Micro
  Merge : (k : ℕ) (seat : ClientState) (dir : ℕ) (bits : Bits) → Micro
  Close : (k : ℕ) (seat : ClientState) (pending : Pending) (attempt : ℕ) (reply : Reply) (place : ℕ) → Micro
  Quit : (k : ℕ) (seat : ClientState) → Micro
  -- a server goes down with these records in doubt; it comes up, and gives up what is in doubt
  Down : (s : ℕ) (state : ServerState) (doubt : List Record) → Micro
  Up : (s : ℕ) (state : ServerState) → Micro
  -- the moment rises; an event of this weight is over
  Tick : (by : ℕ) → Micro
  Count : (n : ℕ) → Micro

-- What a micro-step changes

abbrev pub with_server : Trace → ℕ → ServerState → Trace
with_server t s state = record { world = record t.world { servers = slice_set t.world.servers s state }; past = t.past }

abbrev pub with_seat : Trace → ℕ → ClientState → Trace
with_seat t k seat = record { world = record t.world { clients = slice_set t.world.clients k seat }; past = t.past }

abbrev pub with_msg : Trace → Msg → Trace
with_msg t msg = record { world = record t.world { sent = t.world.sent ++ msg ∷ [] }; past = t.past }

abbrev pub noted_state : ServerState → ℕ → ℕ → Call → ℕ → List ℕ → List Record → ServerState
noted_state state client seq call dir name doubt =
    record {
      node = (carried (store_of state) client seq call dir name).node;
      rows = (carried (store_of state) client seq call dir name).rows;
      up = state.up;
      doubt = doubt;
    }

abbrev pub note_at : Trace → ℕ → ServerState → ℕ → ℕ → Call → ℕ → List ℕ → List Record → Trace
note_at t s state client seq call dir name doubt =
    record {
      world = record t.world { servers = slice_set t.world.servers s (noted_state state client seq call dir name doubt) };
      past = changed t.past client seq call (said_in (store_of state) call dir name);
    }

abbrev pub found_at : ServerState → ℕ → List ℕ → ℕ → Reply
found_at state dir name until = found (row_in state.rows dir (part_for state.node dir name) name) until

abbrev pub look_at : Trace → ServerState → Ask → ℕ → List ℕ → ℕ → Trace
look_at t state ask dir name until =
    record {
      world = record t.world { sent = t.world.sent ++ Answer ask.client ask.seq ask.attempt (found_at state dir name until) ∷ [] };
      past = looked t.past ask (found_at state dir name until) (length t.world.sent);
    }

abbrev pub open_at : Trace → ℕ → ClientState → Call → Trace
open_at t k seat call =
    record {
      world = record t.world { clients = slice_set t.world.clients k (record { client = issued seat.client call; quit = seat.quit }) };
      past = record t.past { issued = t.past.issued ++ (record { client = suc k; seq = seat.client.seq + 1; call = call; at = t.past.count }) ∷ [] };
    }

abbrev pub close_at : Trace → ℕ → ClientState → Pending → Reply → ℕ → Trace
close_at t k seat pending reply place =
    record {
      world = record t.world { clients = slice_set t.world.clients k (record { client = closed seat.client; quit = seat.quit }) };
      past = record t.past { answered = t.past.answered ++ (record { client = suc k; seq = seat.client.seq; call = pending.call; reply = reply; message = place; at = t.past.count }) ∷ [] };
    }

abbrev pub does : Trace → Micro → Trace
does t (Note s state client seq call dir name) = note_at t s state client seq call dir name state.doubt
does t (Redo s state client seq call dir name part said items) = note_at t s state client seq call dir name items
does t (Look s state ask dir name until) = look_at t state ask dir name until
does t (Tell client seq attempt said) = with_msg t (Answer client seq attempt (Said said))
does t (Refer client seq attempt dir bits) = with_msg t (Redirect client seq attempt dir bits)
does t (Defer client seq attempt part depth) = with_msg t (Busy client seq attempt part depth)
does t (Send to ask cursor) = with_msg t (Request to ask cursor)
does t (Open k seat call) = open_at t k seat call
does t (Bump k seat pending) = with_seat t k (record { client = resent seat.client pending; quit = seat.quit })
does t (Merge k seat dir bits) = with_seat t k (record { client = merged seat.client dir bits; quit = seat.quit })
does t (Close k seat pending attempt reply place) = close_at t k seat pending reply place
does t (Quit k seat) = with_seat t k (record { client = seat.client; quit = true })
does t (Down s state doubt) = with_server t s (record { node = state.node; rows = state.rows; up = false; doubt = doubt })
does t (Up s state) = with_server t s (record { node = state.node; rows = state.rows; up = true; doubt = [] })
does t (Tick by) = record { world = record t.world { now = t.world.now + by }; past = t.past }
does t (Count n) = record { world = t.world; past = weighed n t.past }

-- When it may be made

pub record MayNote (t : Trace) (s : ℕ) (state : ServerState) (client seq : ℕ) (call : Call) (dir : ℕ) (name : List ℕ) : Type 0 where
  pub is : slice_get t.world.servers s ≡ Some state
  pub up : state.up ≡ true
  pub may : MayCarry t.world.setup.servers t.world.sent s (store_of state) client seq call dir name

-- the condition of a record in doubt is part of the invariant
pub record MayRedo (t : Trace) (s : ℕ) (state : ServerState) (client seq : ℕ) (call : Call) (dir : ℕ) (name : List ℕ) (part : ℕ) (said : Final) (items : List Record) : Type 0 where
  pub is : slice_get t.world.servers s ≡ Some state
  pub down : state.up ≡ false
  pub first : state.doubt ≡ Served client seq part call said ∷ items
  pub asked : asked_of call ≡ ChangeOf dir name

pub record MayLook (t : Trace) (s : ℕ) (state : ServerState) (ask : Ask) (dir : ℕ) (name : List ℕ) : Type 0 where
  pub is : slice_get t.world.servers s ≡ Some state
  pub asked : asked_of ask.call ≡ LookOf dir name
  pub owner : server_for t.world.setup.servers dir (part_for state.node dir name) ≡ s
  pub told : Among t.world.sent (λ k m. AsksFor ask.client ask.seq ask.call m)

pub record IsToldOf (e : MadeV) (client seq : ℕ) (said : Final) : Type 0 where
  pub client' : e.entry.client ≡ client
  pub seq' : e.entry.seq ≡ seq
  pub reply' : e.entry.reply ≡ Said said
  pub kind : e.kind ≡ Change

pub record MaySend (t : Trace) (to : ℕ) (ask : Ask) : Type 0 where
  pub issue : Among t.past.issued (λ j i. IsIssueOf i ask.client ask.seq ask.call)
  pub part : ℕ
  pub kept : IsKept keepers (dir_of ask.call) part
  pub there : to ≡ server_for t.world.setup.servers (dir_of ask.call) part

pub record MayOpen (t : Trace) (k : ℕ) (seat : ClientState) (call : Call) : Type 0 where
  pub is : slice_get t.world.clients k ≡ Some seat
  pub idle : seat.client.pending ≡ None
  pub served : is_call call ≡ true

pub record MayBump (t : Trace) (k : ℕ) (seat : ClientState) (pending : Pending) : Type 0 where
  pub is : slice_get t.world.clients k ≡ Some seat
  pub busy : seat.client.pending ≡ Some pending

pub record MayMerge (t : Trace) (k : ℕ) (seat : ClientState) (dir : ℕ) (bits : Bits) : Type 0 where
  pub is : slice_get t.world.clients k ≡ Some seat
  pub kept : (part : ℕ) → has bits part ≡ true → IsKept keepers dir part

pub record MayClose (t : Trace) (k : ℕ) (seat : ClientState) (pending : Pending) (attempt : ℕ) (reply : Reply) (place : ℕ) : Type 0 where
  pub is : slice_get t.world.clients k ≡ Some seat
  pub busy : seat.client.pending ≡ Some pending
  pub msg : slice_get t.world.sent place ≡ Some (Answer (suc k) seat.client.seq attempt reply)

pub record MayDown (t : Trace) (s : ℕ) (state : ServerState) (doubt : List Record) : Type 0 where
  pub is : slice_get t.world.servers s ≡ Some state
  pub follows : Follows t.world.setup.servers t.world.sent s (store_of state) doubt

abbrev pub may : Trace → Micro → Type 0
may t (Note s state client seq call dir name) = MayNote t s state client seq call dir name
may t (Redo s state client seq call dir name part said items) = MayRedo t s state client seq call dir name part said items
may t (Look s state ask dir name until) = MayLook t s state ask dir name
may t (Tell client seq attempt said) = Among t.past.made (λ k e. IsToldOf e client seq said)
may t (Refer client seq attempt dir bits) = (part : ℕ) → has bits part ≡ true → IsKept keepers dir part
may t (Defer client seq attempt part depth) = Unit {0}
may t (Send to ask cursor) = MaySend t to ask
may t (Open k seat call) = MayOpen t k seat call
may t (Bump k seat pending) = MayBump t k seat pending
may t (Merge k seat dir bits) = MayMerge t k seat dir bits
may t (Close k seat pending attempt reply place) = MayClose t k seat pending attempt reply place
may t (Quit k seat) = slice_get t.world.clients k ≡ Some seat
may t (Down s state doubt) = MayDown t s state doubt
may t (Up s state) = slice_get t.world.servers s ≡ Some state
may t (Tick by) = Unit {0}
may t (Count n) = Unit {0}

-- What a run has done so far, beside its world: the map, what was carried out and looked up, what was issued, and
-- what was answered. No code keeps it.
use Rattle.std.specs.Prelude.{◌≡◌, ℕ, ◌+◌, ◌≤◌, ◌==◌, Bool, true, List, [], ◌∷◌, ◌++◌, map, filter, length, take}
use Rattle.std.specs.Prelude.{Option, Some, None}
use Rattle.std.specs.List.{slice_get, list_any}
use Rattle.mds_base.specs.declared.ask.Ask.{Ask}
use Rattle.mds_base.specs.declared.call.Call.{Call}
use Rattle.mds_base.specs.declared.entry.Entry.{Entry}
use Rattle.mds_base.specs.declared.reply.Final.{Final}
use Rattle.mds_base.specs.declared.reply.Reply.{Reply}
use Rattle.mds_base.specs.declared.reply.Reply.TheVariants.{Said}
use Rattle.mds_base.specs.Entries.{Entries}
use Rattle.mds_base.specs.PlainRules.{after}
use Rattle.mds_base.specs.History.{IsLegal}
use Rattle.records.specs.declared.msg.Msg.{Msg}
use Rattle.records.specs.declared.msg.Msg.TheVariants.{Answer}
use Rattle.records.specs.declared.record.Record.{Record}
use Rattle.records.specs.declared.record.Record.TheVariants.{Served}
use Rattle.node_core.specs.Nodes.{NodeAndRows}
use Rattle.node_core.specs.Rules.{Asked, ChangeOf, LookOf, NotServed, asked_of, request_in}
use Rattle.node_core.specs.Serving.{ServedV, serve, may_follow, replayed}
use Rattle.client_core.specs.declared.client.Pending.{Pending}
use Rattle.client_core.specs.declared.taken.Taken.{Taken}
use Rattle.client_core.specs.declared.taken.Taken.TheVariants as variants
use Rattle.client_core.specs.Clients.{ClientV}
use Rattle.client_core.specs.Taking as taking
use Rattle.world.specs.declared.event.Event.{Event}
use Rattle.world.specs.declared.event.Event.TheVariants.{Issue, Serve, Take, Restart}
use Rattle.world.specs.declared.event.ServeEnd.{ServeEnd}
use Rattle.world.specs.declared.event.ServeEnd.TheVariants as ends
use Rattle.world.specs.declared.state.ServerState.{ServerState}
use Rattle.world.specs.declared.state.ClientState.{ClientState}
use Rattle.mds_base.specs.Lists.{Each, Among, OnceBy}
use Rattle.world.specs.Worlds.{WorldV, store_of}
use Rattle.world.specs.Events.{step, seat_at, msgs_at}

-- what an entry that was made is: a change that was carried out, or a lookup's answer, which stands at this place
-- among the sent messages
pub data Kind : Type 0 where
  Change : Kind
  Looked : (message : ℕ) → Kind

-- an entry of the history to come: every change is one, and a lookup where its answer is taken
pub record MadeV : Type 0 where
  pub entry : Entry
  pub kind : Kind
  -- what the events before its event weigh
  pub at : ℕ

pub record IssuedV : Type 0 where
  pub client : ℕ
  pub seq : ℕ
  pub call : Call
  -- what the events before its Issue weigh
  pub at : ℕ

pub record AnsweredV : Type 0 where
  pub client : ℕ
  pub seq : ℕ
  pub call : Call
  pub reply : Reply
  -- the number of the message that answered it
  pub message : ℕ
  -- what the events before its Take weigh
  pub at : ℕ

pub record History : Type 0 where
  -- the map at the start, and now
  pub start : Entries
  pub entries : Entries
  pub made : List MadeV
  pub issued : List IssuedV
  pub answered : List AnsweredV
  -- what the events so far weigh
  pub count : ℕ

-- a run so far
pub record Trace : Type 0 where
  pub world : WorldV
  pub past : History

abbrev pub start_history : Entries → History
start_history start = record { start = start; entries = start; made = []; issued = []; answered = []; count = 0 }

-- an entry more was made
abbrev pub made_more : History → Entry → Kind → History
made_more h entry kind = record h { made = h.made ++ (record { entry = entry; kind = kind; at = h.count }) ∷ [] }

-- a change was carried out
abbrev pub changed : History → ℕ → ℕ → Call → Final → History
changed h client seq call said =
    record (made_more h (record { client = client; seq = seq; call = call; reply = Said said }) Change) {
      entries =
          after h.entries call (Said said);
    }

-- a lookup's answer was made, which is sent to stand at this place
abbrev pub looked : History → Ask → Reply → ℕ → History
looked h ask reply message =
    made_more h (record { client = ask.client; seq = ask.seq; call = ask.call; reply = reply }) (Looked message)

-- .. as the call that was asked goes: only a look is an entry by its answer
abbrev pub looked_as : History → Ask → Asked → Reply → ℕ → History
looked_as h ask (LookOf dir name) reply message = looked h ask reply message
looked_as h ask (ChangeOf dir name) reply message = h
looked_as h ask NotServed reply message = h

-- the message of a list of one
abbrev pub only_of : List Msg → Option Msg
only_of (msg ∷ []) = Some msg
only_of msgs = None

abbrev pub looked_by : History → Ask → Option Msg → ℕ → History
looked_by h ask (Some (Answer client seq attempt reply)) message =
    looked_as h ask (asked_of ask.call) reply message
looked_by h ask msg message = h

-- a record tells of a change where it may follow
abbrev pub replayed_one : History → Record → Bool → History
replayed_one h (Served client seq part call said) true = changed h client seq call said
replayed_one h item follows = h

abbrev pub recorded : History → List Record → History
recorded h [] = h
recorded h (item ∷ items) = recorded (replayed_one h item true) items

-- a message was served: each change is told by its record, and a lookup by its one answer
abbrev pub served_request : History → Option Ask → ServedV → ℕ → History
served_request h None served message = recorded h served.records
served_request h (Some ask) served message =
    looked_by (recorded h served.records) ask (only_of served.outputs) message

abbrev pub served_one : History → NodeAndRows → Msg → ℕ → ℕ → History
served_one h store msg now message = served_request h (request_in msg) (serve store msg now) message

-- messages were served one after another, what they send beginning at this place
abbrev pub served_all : History → NodeAndRows → List Msg → ℕ → ℕ → History
served_all h store [] now message = h
served_all h store (msg ∷ msgs) now message =
    served_all (served_one h store msg now message) (serve store msg now).store msgs now
    (message + length (serve store msg now).outputs)

-- records in doubt were kept, one after another
abbrev pub replayed_all : History → NodeAndRows → List Record → History
replayed_all h store [] = h
replayed_all h store (item ∷ items) =
    replayed_all (replayed_one h item (may_follow store item)) (replayed store item) items

abbrev pub after_issue : History → ℕ → Call → Option ClientState → History
after_issue h client call None = h
after_issue h client call (Some seat) = record h {
  issued =
      h.issued ++ (record { client = client; seq = seat.client.seq + 1; call = call; at = h.count }) ∷ [];
}

-- a Serve that stops has no effect yet
abbrev pub served_if : History → WorldV → ServerState → List Msg → ServeEnd → History
served_if h w state msgs ends.Done = served_all h (store_of state) msgs w.now (length w.sent)
served_if h w state msgs ends.Stop = h

abbrev pub after_serve : History → WorldV → List ℕ → ServeEnd → Option ServerState → History
after_serve h w places how None = h
after_serve h w places how (Some state) = served_if h w state (msgs_at w.sent places) how

abbrev pub after_answer : History → ℕ → ClientV → Pending → ℕ → Taken → History
after_answer h client state pending message (variants.Answer reply) =
    record h {
      answered = h.answered
          ++ (record {
            client = client;
            seq = state.seq;
            call = pending.call;
            reply = reply;
            message = message;
            at =
                h.count;
          }) ∷ [];
    }
after_answer h client state pending message taken = h

abbrev pub after_take_of : History → ℕ → ClientV → ℕ → Msg → Option Pending → History
after_take_of h client state message msg None = h
after_take_of h client state message msg (Some pending) =
    after_answer h client state pending message (taking.take_pending state pending msg).taken

abbrev pub after_take : History → ℕ → ℕ → Option Msg → Option ClientState → History
after_take h client message (Some msg) (Some seat) = after_take_of h client seat.client message msg seat.client.pending
after_take h client message msg seat = h

abbrev pub after_restart : History → ℕ → Option ServerState → History
after_restart h kept None = h
after_restart h kept (Some state) = replayed_all h (store_of state) (take kept state.doubt)

-- what an event does to the history
abbrev pub note : WorldV → History → Event → History
note w h (Issue client call) = after_issue h client call (seat_at w.clients client)
note w h (Serve server places how) = after_serve h w places how (slice_get w.servers server)
note w h (Take client message) = after_take h client message (slice_get w.sent message) (seat_at w.clients client)
note w h (Restart server kept) = after_restart h kept (slice_get w.servers server)
note w h event = h

-- what an event weighs: a Serve as much as the messages that it names, so that each of them can have a number of its
-- own, and any other event one
abbrev pub weight : Event → ℕ
weight (Serve server places how) = length places
weight event = 1

-- an event of this weight is over
abbrev pub weighed : ℕ → History → History
weighed n h = record h { count = h.count + n }

abbrev pub happens : Trace → Event → Trace
happens t event = record { world = step t.world event; past = weighed (weight event) (note t.world t.past event) }

abbrev pub run : Trace → List Event → Trace
run t [] = t
run t (event ∷ events) = run (happens t event) events

-- The effects, and what explains a run

-- whether some answered call took the message of this number
abbrev pub is_taken : List AnsweredV → ℕ → Bool
is_taken answered message = list_any (λ a. a.message == message) answered

-- a change stands, and a lookup where its answer was taken
abbrev pub stands_as : List AnsweredV → Kind → Bool
stands_as answered Change = true
stands_as answered (Looked message) = is_taken answered message

abbrev pub stands : List AnsweredV → MadeV → Bool
stands answered made = stands_as answered made.kind

-- the effects of a run, in their order
abbrev pub effects : History → List MadeV
effects h = filter (stands h.answered) h.made

abbrev pub entries_of : List MadeV → List Entry
entries_of made = map (λ e. e.entry) made

-- two entries of one call
pub record IsSameCall (a b : MadeV) : Type 0 where
  pub client : a.entry.client ≡ b.entry.client
  pub seq : a.entry.seq ≡ b.entry.seq

-- an entry is of a call that was issued, at its Issue or later
pub record IsOfIssue (e : MadeV) (i : IssuedV) : Type 0 where
  pub client : i.client ≡ e.entry.client
  pub seq : i.seq ≡ e.entry.seq
  pub call : i.call ≡ e.entry.call
  pub later : i.at ≤ e.at

-- an entry answers a call, with its reply, at its Take or before
pub record IsAnswerOf (a : AnsweredV) (e : MadeV) : Type 0 where
  pub client : e.entry.client ≡ a.client
  pub seq : e.entry.seq ≡ a.seq
  pub call : e.entry.call ≡ a.call
  pub reply : e.entry.reply ≡ a.reply
  pub earlier : e.at ≤ a.at

-- a run is explained where its effects are a legal history from the start map, hold no call twice and none that was not
-- issued, and hold each answered call with the answered reply, at an event between its issue and its answer
pub record IsExplained (h : History) : Type 0 where
  pub legal : IsLegal h.start (entries_of (effects h))
  pub once : OnceBy (effects h) IsSameCall
  pub issued : Each (effects h) (λ k e. Among h.issued (λ j i. IsOfIssue e i))
  pub answered : Each h.answered (λ k a. Among (effects h) (λ j e. IsAnswerOf a e))

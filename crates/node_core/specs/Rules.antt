-- What a server makes of a request.
use Rattle.std.specs.Prelude.{ℕ, ◌+◌, Bool, true, false, List, Option, Some, None, if◌then◌else◌}
use Rattle.mds_base.specs.declared.attr.Attr.{Attr}
use Rattle.mds_base.specs.declared.ask.Ask.{Ask}
use Rattle.mds_base.specs.declared.call.Call.{Call}
use Rattle.mds_base.specs.declared.call.Call.TheVariants.{Create, Mkdir, Remove, Lookup, Setattr}
use Rattle.mds_base.specs.Calls.{CallOn, OnName, OnDirectory, OnPartition}
use Rattle.mds_base.specs.Calls.{asked_of as call_on}
use Rattle.mds_base.specs.declared.reply.Final.{Final}
use Rattle.mds_base.specs.declared.reply.Final.TheVariants.{Missing}
use Rattle.mds_base.specs.declared.reply.Reply.{Reply}
use Rattle.mds_base.specs.declared.reply.Reply.TheVariants.{Said, Found}
use Rattle.partition.specs.Replies as replies
use Rattle.records.specs.declared.msg.Msg.{Msg}
use Rattle.records.specs.declared.msg.Msg.TheVariants.{Request}
use Rattle.sessions.specs.declared.kept.Judged.{Judged}
use Rattle.sessions.specs.declared.kept.Judged.TheVariants.{New, Again, Old}
use Rattle.sessions.specs.Kept.{judge_kept}
use Rattle.node_core.specs.declared.asks.Asks.{Asks}
use Rattle.node_core.specs.declared.asks.Asks.TheVariants.{Change, Look, NothingYet}
use Rattle.bitmap.specs.Bits.{Bits}
use Rattle.node_core.specs.Nodes.{NodeV, NodeAndRows, part_for, frozen_at, bits_in, owns, row_in, session_in}

-- what a call asks for: a change on a name, a look at a name, or what is not served yet
pub data Asked : Type 0 where
  ChangeOf : (dir : ℕ) (name : List ℕ) → Asked
  LookOf : (dir : ℕ) (name : List ℕ) → Asked
  NotServed : Asked

-- which calls are served: the one place that a call more is added to, once it has its replies in `said_of`
abbrev pub is_served : Call → Bool
is_served (Create dir name) = true
is_served (Mkdir dir name) = true
is_served (Remove dir name) = true
is_served (Setattr dir name mode size stamp) = true
is_served (Lookup dir name) = true
is_served call = false

-- what a call asks for, by what it is on
abbrev pub asked_on : Bool → CallOn → Asked
asked_on true (OnName dir name true) = ChangeOf dir name
asked_on true (OnName dir name false) = LookOf dir name
asked_on true (OnDirectory dir) = NotServed
asked_on true (OnPartition dir part) = NotServed
asked_on false on = NotServed

abbrev pub asked_of : Call → Asked
asked_of call = asked_on (is_served call) (call_on call)

-- what the code's answer shows
abbrev pub shown : Asks → Asked
shown (Change dir name) = ChangeOf dir name.now
shown (Look dir name) = LookOf dir name.now
shown NothingYet = NotServed

-- the request that a message is, where it is one: messages of a split are not served yet
abbrev pub request_in : Msg → Option Ask
request_in (Request server ask cursor) = Some ask
request_in msg = None

-- the reply that the plain rules give to a change, by the entry that stands there, with the number that mkdir would
-- give
abbrev pub said_of : Call → Option Attr → ℕ → Final
said_of call before fresh = replies.said_of call before fresh

-- the reply to a lookup
abbrev pub found : Option Attr → ℕ → Reply
found None until = Said Missing
found (Some attr) until = Found attr until

-- what serving a request comes to
pub data Outcome : Type 0 where
  -- nothing changes, and nothing is sent
  Silent : Outcome
  -- what is asked lies on another server, and the client learns this bitmap
  Redirects : (bits : Bits) → Outcome
  -- the name is in the half of this partition that moves at this depth
  Waits : (part depth : ℕ) → Outcome
  -- a lookup is answered
  Looks : (reply : Reply) → Outcome
  -- the kept reply of a change is sent again
  Repeats : (said : Final) → Outcome
  -- a change is carried out, noted and recorded
  Carries : (said : Final) → Outcome

-- a change by what is kept of its client: carried out if it is new, answered again if it is the last one, and else
-- left without an answer
abbrev pub by_judged : Judged → Final → Outcome
by_judged New said = Carries said
by_judged (Again kept) said = Repeats kept
by_judged (Old kept) said = Silent

-- the reply that a change would get at a store
abbrev pub said_in : NodeAndRows → Call → ℕ → List ℕ → Final
said_in store call dir name = said_of call (row_in store.rows dir (part_for store.node dir name) name) store.node.next

-- a request on a name that is moved away waits
abbrev pub unless_frozen : Option ℕ → ℕ → Outcome → Outcome
unless_frozen None part outcome = outcome
unless_frozen (Some depth) part outcome = Waits part depth

-- a request on a name, by what it comes to in the partition of the name: one of what lies on another server is
-- redirected
abbrev pub reached : NodeV → ℕ → List ℕ → Outcome → Outcome
reached node dir name outcome =
    if owns node dir (part_for node dir name)
    then unless_frozen (frozen_at node dir name) (part_for node dir name) outcome
    else Redirects (bits_in node dir)

abbrev pub outcome_of : NodeAndRows → Ask → ℕ → Asked → Outcome
outcome_of store ask now (ChangeOf dir name) =
    reached store.node dir name
    (by_judged (judge_kept (session_in store.node dir (part_for store.node dir name) ask.client) ask.seq)
    (said_in store ask.call dir name))
outcome_of store ask now (LookOf dir name) =
    reached store.node dir name
    (Looks (found (row_in store.rows dir (part_for store.node dir name) name) (now + store.node.setup.lease)))
outcome_of store ask now NotServed = Silent

unfoldable pub outcome : NodeAndRows → Ask → ℕ → Outcome
outcome store ask now = outcome_of store ask now (asked_of ask.call)

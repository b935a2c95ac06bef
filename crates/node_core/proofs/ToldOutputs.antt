-- What is known of the messages that a Serve sends: they may be sent, are in range, and the first one, where there is
-- one, is a reply to the request. What stands above this crate goes by this, and not by what serving comes to.
use Rattle.std.proofs.Common.{◌≡◌, refl, ℕ, List, [], ◌∷◌, Option, Some, None}
use Rattle.mds_base.specs.declared.ask.Ask.{Ask}
use Rattle.mds_base.specs.Lists.{Each}
use Rattle.mds_base.proofs.Lists.{each_none}
use Rattle.mds_base.proofs.Grow.{each_push}
use Rattle.records.specs.declared.msg.Msg.{Msg}
use Rattle.records.specs.declared.msg.Msg.TheVariants.{Request, Redirect, Answer, Busy, Held, Page, Closed, Transfer, Installed}
use Rattle.records.specs.Messages.{client_of_msg}
use Rattle.node_core.specs.Messages.{IsRequest, IsMessage, IsSent}
use Rattle.node_core.specs.Nodes.{NodeAndRows}
use Rattle.node_core.specs.Ranges.{RequestFits, DirFits}
use Rattle.node_core.specs.Rules.{Outcome, Silent, Redirects, Waits, Looks, Repeats, Carries, outcome, request_in}
use Rattle.node_core.specs.Serving.{serve, serve_request, served_as}
use Rattle.node_core.proofs.Calls.{well_made_fits}

-- ---- what is sent may be sent

module _ (servers : ℕ) where
  sent_as : (store : NodeAndRows) (ask : Ask) (o : Outcome) → Each (served_as store ask o).outputs (λ k msg. IsSent servers msg)
  sent_as store ask Silent = each_none
  sent_as store ask (Redirects bits) = each_push {xs = []} _ each_none (record { there = tt; made = tt })
  sent_as store ask (Waits part depth) = each_push {xs = []} _ each_none (record { there = tt; made = tt })
  sent_as store ask (Looks reply) = each_push {xs = []} _ each_none (record { there = tt; made = tt })
  sent_as store ask (Repeats said) = each_push {xs = []} _ each_none (record { there = tt; made = tt })
  sent_as store ask (Carries said) = each_push {xs = []} _ each_none (record { there = tt; made = tt })

  sent_for : (store : NodeAndRows) (request : Option Ask) (now : ℕ) → Each (serve_request store request now).outputs (λ k msg. IsSent servers msg)
  sent_for store None now = each_none
  sent_for store (Some ask) now = sent_as store ask (outcome store ask now)

  -- each message is well made, and is for a client or for a server that is there
  pub outputs_sent : (store : NodeAndRows) (msg : Msg) (now : ℕ) → Each (serve store msg now).outputs (λ k msg. IsSent servers msg)
  unfolding serve
  outputs_sent store msg now = sent_for store (request_in msg) now

request_fits : (request : Option Ask) → IsRequest request → RequestFits request
request_fits None made = tt
request_fits (Some ask) made = well_made_fits ask.call made.made.made

-- a message that is well made is in range
pub message_fits : (msg : Msg) → IsMessage msg → DirFits msg
message_fits msg made = request_fits (request_in msg) made

pub outputs_fit : (store : NodeAndRows) (msg : Msg) (now : ℕ) → Each (serve store msg now).outputs (λ k msg. DirFits msg)
outputs_fit store msg now = let sent = outputs_sent 0 store msg now in record { at = λ k out e. message_fits out (sent.at k out e).made }

-- ---- the first message is a reply

-- a message is for the client that asked, of the number and the attempt that were asked
pub record IsOf (ask : Ask) (client seq attempt : ℕ) : Type 0 where
  pub client' : client ≡ ask.client
  pub seq' : seq ≡ ask.seq
  pub attempt' : attempt ≡ ask.attempt

abbrev pub RepliesTo : Ask → Msg → Type 0
RepliesTo ask (Answer client seq attempt reply) = IsOf ask client seq attempt
RepliesTo ask (Redirect client seq attempt dir bits) = IsOf ask client seq attempt
RepliesTo ask (Busy client seq attempt part depth) = IsOf ask client seq attempt
RepliesTo ask (Held client seq attempt until) = IsOf ask client seq attempt
RepliesTo ask (Page client seq attempt rows next) = IsOf ask client seq attempt
RepliesTo ask (Closed client seq attempt part epoch) = IsOf ask client seq attempt
RepliesTo ask msg = ⊥

pub reply_for : (ask : Ask) (msg : Msg) → RepliesTo ask msg → client_of_msg msg ≡ Some ask.client
reply_for ask (Answer client seq attempt reply) is = let e = is.client' in cc
reply_for ask (Redirect client seq attempt dir bits) is = let e = is.client' in cc
reply_for ask (Busy client seq attempt part depth) is = let e = is.client' in cc
reply_for ask (Held client seq attempt until) is = let e = is.client' in cc
reply_for ask (Page client seq attempt rows next) is = let e = is.client' in cc
reply_for ask (Closed client seq attempt part epoch) is = let e = is.client' in cc
reply_for ask (Request server other cursor) is = absurd is
reply_for ask (Transfer server dir part depth index pieces bits sessions top rows) is = absurd is
reply_for ask (Installed server dir part child) is = absurd is

-- the first of some messages, where there is one, replies to the request
abbrev pub IsFirstReply : Ask → List Msg → Type 0
IsFirstReply ask [] = Unit {0}
IsFirstReply ask (msg ∷ msgs) = RepliesTo ask msg

first_as : (store : NodeAndRows) (ask : Ask) (o : Outcome) → IsFirstReply ask (served_as store ask o).outputs
first_as store ask Silent = tt
first_as store ask (Redirects bits) = record { client' = refl; seq' = refl; attempt' = refl }
first_as store ask (Waits part depth) = record { client' = refl; seq' = refl; attempt' = refl }
first_as store ask (Looks reply) = record { client' = refl; seq' = refl; attempt' = refl }
first_as store ask (Repeats said) = record { client' = refl; seq' = refl; attempt' = refl }
first_as store ask (Carries said) = record { client' = refl; seq' = refl; attempt' = refl }

abbrev pub FirstReplies : Option Ask → List Msg → Type 0
FirstReplies None msgs = Unit {0}
FirstReplies (Some ask) msgs = IsFirstReply ask msgs

first_for : (store : NodeAndRows) (request : Option Ask) (now : ℕ) → FirstReplies request (serve_request store request now).outputs
first_for store None now = tt
first_for store (Some ask) now = first_as store ask (outcome store ask now)

pub first_replies : (store : NodeAndRows) (msg : Msg) (now : ℕ) → FirstReplies (request_in msg) (serve store msg now).outputs
unfolding serve
first_replies store msg now = first_for store (request_in msg) now

-- What serving a message sends, and the entry that it makes.
use Rattle.std.proofs.Common.{◌≡◌, ◌∙◌, ap, refl, ℕ, ◌==◌, true, List, [], ◌∷◌, ◌++◌, Option, Some, None}
use Rattle.std.specs.Prelude.{map as list_map}
use Rattle.std.proofs.lemmas.List.{map-append}
use Rattle.mds_base.specs.declared.ask.Ask.{Ask}
use Rattle.mds_base.specs.declared.call.Call.{Call}
use Rattle.mds_base.specs.declared.call.Call.TheVariants.{Lookup}
use Rattle.mds_base.specs.declared.reply.Reply.{Reply}
use Rattle.records.specs.declared.msg.Msg.{Msg}
use Rattle.records.specs.declared.msg.Msg.TheVariants.{Answer}
use Rattle.node_core.specs.Nodes.{NodeAndRows}
use Rattle.node_core.specs.Rules.{Asked, ChangeOf, LookOf, NotServed, asked_of, request_in}
use Rattle.node_core.specs.Serving.{ServedV, serve}
use Rattle.node_core.proofs.ToldOutputs.{IsFirstReply, FirstReplies, first_replies, reply_for}
use Rattle.world.specs.Events.{is_one, is_for_client}
use Rattle.world.specs.Histories as past
use Rattle.world.specs.Histories.{History, served_one}
use Rattle.simulation.specs.Entries.{changes_of, looked, looked_one, looked_by, looked_in, lookup_of, only_of, with_one}
use Rattle.simulation.specs.Shows.{made_of, asks_as, is_request_of}
use Rattle.simulation.proofs.ServeEntries.{recorded_made, recorded_answered}

-- a reply is for the client that asked

-- the first of some messages, where there is one, is for the client
abbrev pub IsFirstFor : ℕ → List Msg → Type 0
IsFirstFor client [] = Unit {0}
IsFirstFor client (msg ∷ msgs) = is_for_client client (Some msg) ≡ true

reply_first : (client : ℕ) (ask : Ask) (msgs : List Msg) → (ask.client == client) ≡ true → IsFirstReply ask msgs → IsFirstFor client msgs
reply_first client ask [] e replies = tt
reply_first client ask (msg ∷ msgs) e replies = ap (is_one client) (reply_for ask msg replies) ∙ e

request_first : (client : ℕ) (request : Option Ask) (msgs : List Msg) → asks_as client request ≡ true → FirstReplies request msgs → IsFirstFor client msgs
request_first client None msgs e replies = cc
request_first client (Some ask) msgs e replies = reply_first client ask msgs e replies

pub first_for : (client : ℕ) (store : NodeAndRows) (msg : Msg) (now : ℕ) → is_request_of client (Some msg) ≡ true → IsFirstFor client (serve store msg now).outputs
first_for client store msg now e = request_first client (request_in msg) (serve store msg now).outputs e (first_replies store msg now)

-- the entries that the world notes are those that the program makes of the records and of the one answer

looked_made : (h : History) (ask : Ask) (call : Call) (reply : Reply) (message : ℕ) → list_map made_of (past.looked_as h ask (asked_of call) reply message).made ≡ with_one (list_map made_of h.made) (looked ask call reply message)
looked_made h ask (Lookup dir name) reply message = map-append made_of h.made _
looked_made h ask call reply message = refl

one_looked : (h : History) (ask : Ask) (o : Option Msg) (message : ℕ) → list_map made_of (past.looked_by h ask o message).made ≡ with_one (list_map made_of h.made) (looked_one ask o message)
one_looked h ask (Some (Answer client seq attempt reply)) message = looked_made h ask ask.call reply message
one_looked h ask msg message = refl

request_makes : (h : History) (request : Option Ask) (served : ServedV) (message : ℕ)
    → list_map made_of (past.served_request h request served message).made ≡ with_one (list_map made_of h.made ++ changes_of served.records) (looked_in request served.outputs message)
request_makes h None served message = recorded_made h served.records
request_makes h (Some ask) served message =
    one_looked (past.recorded h served.records) ask (only_of served.outputs) message
    ∙ ap (λ made. with_one made (looked_by ask served.outputs message)) (recorded_made h served.records)

pub serve_makes : (h : History) (store : NodeAndRows) (msg : Msg) (now message : ℕ)
    → list_map made_of (served_one h store msg now message).made ≡ with_one (list_map made_of h.made ++ changes_of (serve store msg now).records) (lookup_of msg (serve store msg now).outputs message)
serve_makes h store msg now message = request_makes h (request_in msg) (serve store msg now) message

-- .. and it notes no answer that was taken

looked_answered : (h : History) (ask : Ask) (asked : Asked) (reply : Reply) (message : ℕ) → (past.looked_as h ask asked reply message).answered ≡ h.answered
looked_answered h ask (LookOf dir name) reply message = refl
looked_answered h ask (ChangeOf dir name) reply message = refl
looked_answered h ask NotServed reply message = refl

one_answered : (h : History) (ask : Ask) (o : Option Msg) (message : ℕ) → (past.looked_by h ask o message).answered ≡ h.answered
one_answered h ask (Some (Answer client seq attempt reply)) message = looked_answered h ask (asked_of ask.call) reply message
one_answered h ask msg message = refl

request_answered : (h : History) (request : Option Ask) (served : ServedV) (message : ℕ) → (past.served_request h request served message).answered ≡ h.answered
request_answered h None served message = recorded_answered h served.records
request_answered h (Some ask) served message = one_answered (past.recorded h served.records) ask (only_of served.outputs) message ∙ recorded_answered h served.records

pub serve_answered : (h : History) (store : NodeAndRows) (msg : Msg) (now message : ℕ) → (served_one h store msg now message).answered ≡ h.answered
serve_answered h store msg now message = request_answered h (request_in msg) (serve store msg now) message

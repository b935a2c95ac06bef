-- Replaying the records of a message that was served gives what serving made.
use Rattle.std.proofs.Common.{◌≡◌, ◌∙◌, sym, ap, refl, ℕ, ◌==◌, not, is_some, true, Option, Some, None}
use Rattle.std.proofs.lemmas.Bool.{and_from, eq-eqb}
use Rattle.mds_base.specs.declared.ask.Ask.{Ask}
use Rattle.mds_base.specs.declared.reply.Final.{Final}
use Rattle.records.specs.declared.msg.Msg.{Msg}
use Rattle.sessions.specs.Kept.{judge_kept}
use Rattle.node_core.specs.Nodes.{NodeAndRows, part_for, owns, has_numbers, session_in}
use Rattle.node_core.specs.Rules.{Asked, ChangeOf, LookOf, NotServed, asked_of, said_in, Outcome, Silent, Redirects, Waits, Looks, Repeats, Carries, outcome_of, outcome, request_in}
use Rattle.node_core.specs.Serving.{serve, serve_request, served_as, carries, carried_at, part_at, replayed_all, may_carry}
use Rattle.node_core.proofs.Reached.{reached_carries, judged_new, no_look}
use Rattle.node_core.proofs.Replayed.{follows_so}

carried_again : (store : NodeAndRows) (ask : Ask) (now : ℕ) (said : Final) (a : Asked) → asked_of ask.call ≡ a → outcome_of store ask now a ≡ Carries said → has_numbers store.node ≡ true
    → replayed_all store (served_as store ask (Carries said)).records ≡ (served_as store ask (Carries said)).store
carried_again store ask now said (ChangeOf dir name) asked is numbers =
    let own = part_for store.node dir name in
    let r = reached_carries store.node dir name _ said is in
    let o = judged_new (judge_kept (session_in store.node dir own ask.client) ask.seq) (said_in store ask.call dir name) said r.here in
    let placed : (part_at store (asked_of ask.call) == own) ≡ true = eq-eqb (part_at store (asked_of ask.call)) own (ap (part_at store) asked) in
    let may : may_carry store.node dir name ask.client ask.seq (part_at store (asked_of ask.call)) ≡ true = and_from _ _ (and_from _ _ placed (and_from _ _ numbers (and_from _ _ r.own (ap (λ f. not (is_some f)) r.free)))) o.0 in
    (follows_so store ask.client ask.seq (part_at store (asked_of ask.call)) ask.call said dir name asked may o.1).1 ∙ sym (ap (carried_at store ask.client ask.seq ask.call) asked)
carried_again store ask now said (LookOf dir name) asked is numbers = absurd (no_look store.node dir name _ said is)
carried_again store ask now said NotServed asked is numbers = cc

served_again : (store : NodeAndRows) (ask : Ask) (now : ℕ) (o : Outcome) → outcome store ask now ≡ o → has_numbers store.node ≡ true → replayed_all store (served_as store ask o).records ≡ (served_as store ask o).store
unfolding outcome
served_again store ask now Silent is numbers = refl
served_again store ask now (Redirects bits) is numbers = refl
served_again store ask now (Waits part depth) is numbers = refl
served_again store ask now (Looks reply) is numbers = refl
served_again store ask now (Repeats said) is numbers = refl
served_again store ask now (Carries said) is numbers = carried_again store ask now said (asked_of ask.call) refl is numbers

request_again : (store : NodeAndRows) (request : Option Ask) (now : ℕ) → has_numbers store.node ≡ true → replayed_all store (serve_request store request now).records ≡ (serve_request store request now).store
request_again store None now numbers = refl
request_again store (Some ask) now numbers = served_again store ask now (outcome store ask now) refl numbers

pub replay_law : (store : NodeAndRows) (msg : Msg) (now : ℕ) → has_numbers store.node ≡ true → replayed_all store (serve store msg now).records ≡ (serve store msg now).store
unfolding serve
replay_law store msg now numbers = request_again store (request_in msg) now numbers

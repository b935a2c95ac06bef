-- Replaying goes the same way on all terms that share the head.
use Rattle.std.proofs.Common.{◌≡◌, ◌∙◌, sym, ap, subst, refl, ℕ, ◌==◌, ◌&&◌, Bool, true, false, cond, List, [], ◌∷◌}
use Rattle.mds_base.specs.declared.ask.Ask.{Ask}
use Rattle.mds_base.specs.declared.call.Call.{Call}
use Rattle.mds_base.specs.declared.reply.Final.{Final}
use Rattle.mds_base.specs.declared.reply.Reply.{Reply}
use Rattle.mds_base.specs.declared.setup.Setup.{Setup}
use Rattle.mds_base.specs.RowKeys.{RowMap}
use Rattle.records.specs.declared.record.Record.{Record}
use Rattle.records.specs.declared.record.Record.TheVariants.{Head, Opened, Served}
use Rattle.sessions.specs.Kept.{judge_kept}
use Rattle.node_core.proofs.Reached.{look_carries}
use Rattle.node_core.specs.Nodes.{NodeV, NodeAndRows, frozen_at, bits_in, part_for, owns, server_for, session_in, row_in, noted_in, rows_after, has_numbers, is_new}
use Rattle.node_core.specs.Rules.{Asked, ChangeOf, LookOf, NotServed, asked_of, said_of, said_in, Redirects, Looks, by_judged, unless_frozen, outcome, outcome_of}
use Rattle.node_core.specs.Serving.{ask_of, carries, carried_at, may_follow, part_at, replayed, replayed_as, replayed_all}
use Rattle.node_core.specs.Terms.{SharesHead, node_on, store_on, ReplaysOn, ReplaysOnAllTerms}

session_on : (node : NodeV) (terms : Setup) (dir part client : ℕ) → session_in (node_on terms node) dir part client ≡ session_in node dir part client
unfolding session_in
session_on node terms dir part client = refl

noted_on : (node : NodeV) (terms : Setup) (rows : RowMap) (dir part : ℕ) (name : List ℕ) (client seq : ℕ) (call : Call) (said : Final)
    → noted_in (node_on terms node) rows dir part name client seq call said ≡ node_on terms (noted_in node rows dir part name client seq call said)
unfolding noted_in
noted_on node terms rows dir part name client seq call said = refl

located_on : (node : NodeV) (terms : Setup) (dir : ℕ) (name : List ℕ) → part_for (node_on terms node) dir name ≡ part_for node dir name
unfolding part_for
located_on node terms dir name = refl

module _ (store : NodeAndRows) (terms : Setup) where
  -- the store once a change was carried out in a partition, on these terms
  abbrev carried_by : ℕ → ℕ → Call → ℕ → List ℕ → ℕ → NodeAndRows
  carried_by client seq call dir name part = record {
    node = noted_in (node_on terms store.node) store.rows dir part name client seq call (said_of call (row_in store.rows dir part name) store.node.next);
    rows = rows_after store.rows dir part name call (said_of call (row_in store.rows dir part name) store.node.next);
  }

  carried_on : (client seq : ℕ) (call : Call) (asked : Asked) → carried_at (store_on terms store) client seq call asked ≡ store_on terms (carried_at store client seq call asked)
  carried_on client seq call (ChangeOf dir name) =
      let part = part_for store.node dir name in
      ap (carried_by client seq call dir name) (located_on store.node terms dir name)
      ∙ ap (λ (n : NodeV). record { node = n; rows = rows_after store.rows dir part name call (said_in store call dir name) }) (noted_on store.node terms store.rows dir part name client seq call (said_in store call dir name))
  carried_on client seq call (LookOf dir name) = refl
  carried_on client seq call NotServed = refl

  part_on : (asked : Asked) → part_at (store_on terms store) asked ≡ part_at store asked
  part_on (ChangeOf dir name) = located_on store.node terms dir name
  part_on (LookOf dir name) = refl
  part_on NotServed = refl

  served_on : (client seq part : ℕ) (call : Call) (said : Final) (b : Bool) → replayed_as (store_on terms store) (Served client seq part call said) b ≡ store_on terms (replayed_as store (Served client seq part call said) b)
  served_on client seq part call said true = carried_on client seq call (asked_of call)
  served_on client seq part call said false = refl

  module _ (share : SharesHead store.node.setup terms) where
    owns_on : (dir part : ℕ) → owns (node_on terms store.node) dir part ≡ owns store.node dir part
    owns_on dir part = ap (λ servers. server_for servers dir part == store.node.server) share.servers

    carries_on : (ask : Ask) (said : Final) (asked : Asked) → carries (outcome_of (store_on terms store) ask 0 asked) said ≡ carries (outcome_of store ask 0 asked) said
    unfolding part_for session_in
    carries_on ask said (ChangeOf dir name) =
        ap (λ b. carries (cond b (unless_frozen (frozen_at store.node dir name) (part_for store.node dir name)
        (by_judged (judge_kept (session_in store.node dir (part_for store.node dir name) ask.client) ask.seq) (said_in store ask.call dir name)))
        (Redirects (bits_in store.node dir))) said) (owns_on dir (part_for store.node dir name))
    carries_on ask said (LookOf dir name) =
        look_carries (owns (node_on terms store.node) dir (part_for (node_on terms store.node) dir name)) _ _ _ _ said
        ∙ sym (look_carries (owns store.node dir (part_for store.node dir name)) (frozen_at store.node dir name) _ _ _ said)
    carries_on ask said NotServed = refl

    follows_on : (client seq part : ℕ) (call : Call) (said : Final) → may_follow (store_on terms store) (Served client seq part call said) ≡ may_follow store (Served client seq part call said)
    unfolding outcome
    follows_on client seq part call said =
        ap (λ b. has_numbers store.node && (b && (part == part_at (store_on terms store) (asked_of call)))) (carries_on (ask_of client seq call) said (asked_of call))
        ∙ ap (λ p. has_numbers store.node && (carries (outcome_of store (ask_of client seq call) 0 (asked_of call)) said && (part == p))) (part_on (asked_of call))

    head_on : (format servers server threshold : ℕ) → may_follow (store_on terms store) (Head format servers server threshold) ≡ may_follow store (Head format servers server threshold)
    head_on format servers server threshold =
        ap (λ n. is_new store.node && (((format == 1) && (servers == n)) && ((server == store.node.server) && (threshold == terms.threshold)))) share.servers
        ∙ ap (λ n. is_new store.node && (((format == 1) && (servers == store.node.setup.servers)) && ((server == store.node.server) && (threshold == n)))) share.threshold

    pub replays_on : (item : Record) → ReplaysOn terms store item
    replays_on (Head format servers server threshold) = record { follows = head_on format servers server threshold; leads = refl }
    replays_on Opened = record { follows = refl; leads = refl }
    replays_on (Served client seq part call said) = record {
      follows = follows_on client seq part call said;
      leads =
          ap (replayed_as (store_on terms store) (Served client seq part call said)) (follows_on client seq part call said)
          ∙ served_on client seq part call said (may_follow store (Served client seq part call said));
    }
    replays_on item = record { follows = refl; leads = refl }

pub replays_on_all_terms : ReplaysOnAllTerms
replays_on_all_terms = replays_on

pub shares_self : (setup : Setup) → SharesHead setup setup
shares_self setup = record { servers = refl; threshold = refl }

-- replaying leaves a store its terms
pub replayed_terms : (store : NodeAndRows) (item : Record) → (replayed store item).node.setup ≡ store.node.setup
replayed_terms store item = ap (λ (s : NodeAndRows). s.node.setup) (replays_on store store.node.setup (shares_self store.node.setup) item).leads

pub replayed_all_terms : (store : NodeAndRows) (items : List Record) → (replayed_all store items).node.setup ≡ store.node.setup
replayed_all_terms store [] = refl
replayed_all_terms store (item ∷ items) = replayed_all_terms (replayed store item) items ∙ replayed_terms store item

-- .. so on other terms each further record goes the same way, too
pub shares_on : (store : NodeAndRows) (terms : Setup) (item : Record) → SharesHead store.node.setup terms → SharesHead (replayed store item).node.setup terms
shares_on store terms item share = subst (λ s. SharesHead s terms) (sym (replayed_terms store item)) share

pub replayed_all_on : (store : NodeAndRows) (terms : Setup) → SharesHead store.node.setup terms → (items : List Record) → replayed_all (store_on terms store) items ≡ store_on terms (replayed_all store items)
replayed_all_on store terms share [] = refl
replayed_all_on store terms share (item ∷ items) =
    ap (λ s. replayed_all s items) (replays_on store terms share item).leads ∙ replayed_all_on (replayed store item) terms (shares_on store terms item share) items

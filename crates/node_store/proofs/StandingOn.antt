-- What a file stands for on terms of another run that share the head: the same store on those terms.
use Rattle.std.proofs.Common.{◌≡◌, ◌∙◌, sym, ap, subst, refl, ℕ, true, ◌&&◌, List, [], ◌∷◌, inl, inr}
use Rattle.mds_base.specs.declared.setup.Setup.{Setup}
use Rattle.records.specs.declared.record.Record.{Record}
use Rattle.records.specs.declared.record.Record.TheVariants.{Head}
use Rattle.records.specs.Spelling.{record_spelling}
use Rattle.node_core.specs.Nodes.{NodeAndRows}
use Rattle.node_core.specs.Serving.{may_follow, replayed, replayed_all}
use Rattle.node_core.specs.Terms.{SharesHead, store_on}
use Rattle.node_core.proofs.Durably.{on_durably, alike_durably}
use Rattle.node_core.proofs.OnTerms.{replays_on, replayed_all_on, replayed_all_terms, shares_on}
use Rattle.node_store.specs.Stands.{new_store, all_follow, all_of, head_of, StandFor, FileStandsFor}

pub all_follow_on : (store : NodeAndRows) (terms : Setup) → SharesHead store.node.setup terms → (items : List Record) → all_follow (store_on terms store) items ≡ all_follow store items
all_follow_on store terms share [] = refl
all_follow_on store terms share (item ∷ items) =
    ap (λ b. b && all_follow (replayed (store_on terms store) item) items) (replays_on store terms share item).follows
    ∙ ap (λ s. may_follow store item && all_follow s items) (replays_on store terms share item).leads
    ∙ ap (λ b. may_follow store item && b) (all_follow_on (replayed store item) terms (shares_on store terms item share) items)

module _ (server : ℕ) (setup terms : Setup) (share : SharesHead setup terms) where
  head_on : head_of server setup ≡ head_of server terms
  head_on = ap (λ n. Head 1 n server setup.threshold) (sym share.servers) ∙ ap (λ n. Head 1 terms.servers server n) (sym share.threshold)

  stand_on : (bodies : List (List ℕ)) (store : NodeAndRows) → StandFor server setup bodies store → StandFor server terms bodies (store_on terms store)
  stand_on bodies store stands = record {
    rest = stands.rest;
    items = stands.items;
    head = stands.head ∙ ap (λ head. record_spelling head ∷ stands.rest) head_on;
    are = stands.are;
    follow = all_follow_on (new_store server setup) terms share (all_of stands.items) ∙ stands.follow;
    leads = on_durably store terms ∙ ap (store_on terms) stands.leads ∙ sym (replayed_all_on (new_store server setup) terms share (all_of stands.items));
  }

  pub file_stands_on : (file : List ℕ) (store : NodeAndRows) → FileStandsFor server setup file store → FileStandsFor server terms file (store_on terms store)
  file_stands_on file store (inl new) = inl (new.0, on_durably store terms ∙ ap (store_on terms) new.1)
  file_stands_on file store (inr log) = inr (log.0, log.1, stand_on log.0 store log.2)

-- a store for which a file stands is one on the terms by which it was read
pub file_terms : (server : ℕ) (setup : Setup) (file : List ℕ) (store : NodeAndRows) → FileStandsFor server setup file store → store.node.setup ≡ setup
file_terms server setup file store (inl new) = sym (alike_durably store).setup ∙ ap (λ (s : NodeAndRows). s.node.setup) new.1
file_terms server setup file store (inr log) = sym (alike_durably store).setup ∙ ap (λ (s : NodeAndRows). s.node.setup) log.2.leads ∙ replayed_all_terms (new_store server setup) (all_of log.2.items)

-- What a run left, on the terms of another run that share the head.
use Rattle.std.proofs.Common.{◌≡◌, ◌∙◌, sym, ap, subst, refl, ℕ, zero, suc, ◌+◌, Bool, true, false, cond, List, [], ◌∷◌, ◌++◌, length, take, Some, inl, inr}
use Rattle.std.specs.Prelude.{map as list_map}
use Rattle.std.specs.List.{slice_get, range_with_len}
use Rattle.std.proofs.lemmas.List.{length-map}
use Rattle.mds_base.specs.declared.setup.Setup.{Setup}
use Rattle.mds_base.specs.Lists.{Each}
use Rattle.mds_out.specs.Disk.{Image, Contents}
use Rattle.records.specs.declared.record.Record.{Record}
use Rattle.node_core.specs.Nodes.{NodeAndRows}
use Rattle.node_core.specs.Serving.{replayed_all}
use Rattle.node_core.specs.Terms.{SharesHead, store_on}
use Rattle.node_core.proofs.OnTerms.{replayed_all_on, replayed_all_terms, shares_self}
use Rattle.node_store.specs.Stands.{FileStandsFor, opened_store}
use Rattle.node_store.specs.Store.{StandsForAny}
use Rattle.node_store.proofs.StandingOn.{file_stands_on, file_terms}
use Rattle.world.specs.declared.state.ServerState.{ServerState}
use Rattle.world.specs.Events.{up_with}
use Rattle.world.specs.Law.{PastRun, IsSettled, new_servers}
use Rattle.world.specs.Worlds.{store_of, new_server}
use Rattle.world.proofs.Ends.{same_state}
use Rattle.mds_base.proofs.Lists.{get_mapped}
use Rattle.pasts.specs.Openings.{TermsMayChange}
use Rattle.pasts.specs.Starts.{AreFound, AreReached, AreReachedOnAllTerms, found_stores, server_on}
use Rattle.pasts.proofs.PastClosed.{closed_as, closed_state}

-- ---- the servers

pub mapped_at : (f : ServerState → ServerState) (states : List ServerState) (s : ℕ) (state : ServerState) → slice_get states s ≡ Some state → slice_get (list_map f states) s ≡ Some (f state)
mapped_at f [] s state is = cc
mapped_at f (x ∷ states) zero state is = ap (λ (y : ServerState). Some (f y)) (same_state is)
mapped_at f (x ∷ states) (suc s) state is = mapped_at f states s state is

pub sure_on : (terms : Setup) (servers : List ServerState) → Each servers IsSettled → Each (list_map (server_on terms) servers) IsSettled
sure_on terms servers sure = record {
  at = λ s state is. let g = get_mapped (server_on terms) servers s state is in subst (IsSettled s) g.2 (sure.at s g.0 g.1);
}

-- restarted on other terms is restarted and then on these terms
closed_on_as : (terms : Setup) (keep : Bool) (state : ServerState) (up : Bool) → SharesHead state.node.setup terms → closed_as keep (server_on terms state) up ≡ server_on terms (closed_as keep state up)
closed_on_as terms keep state true share = refl
closed_on_as terms keep state false share = ap (up_with state) (replayed_all_on (store_of state) terms share (take (cond keep (length state.doubt) 0) state.doubt))

pub closed_on : (terms : Setup) (keep : Bool) (state : ServerState) → SharesHead state.node.setup terms → closed_state keep (server_on terms state) ≡ server_on terms (closed_state keep state)
closed_on terms keep state share = closed_on_as terms keep state state.up share

twice_on : (old new : Setup) (servers : List ServerState) → list_map (server_on new) (list_map (server_on old) servers) ≡ list_map (server_on new) servers
twice_on old new [] = refl
twice_on old new (state ∷ servers) = ap (λ rest. server_on new state ∷ rest) (twice_on old new servers)

new_from : (old new : Setup) (a n : ℕ) → list_map (server_on new) (list_map (new_server old) (range_with_len a n)) ≡ list_map (new_server new) (range_with_len a n)
new_from old new a zero = refl
new_from old new a (suc n) = ap (λ rest. new_server new a ∷ rest) (new_from old new (a + 1) n)

new_on : (old new : Setup) → SharesHead old new → list_map (server_on new) (new_servers old) ≡ new_servers new
new_on old new share = new_from old new 0 old.servers ∙ ap (λ n. list_map (new_server new) (range_with_len 0 n)) (sym share.servers)

-- ---- their disks

module _ (s : ℕ) (setup terms : Setup) (share : SharesHead setup terms) (file : List ℕ) where
  stands_on : (store : NodeAndRows) → FileStandsFor s setup file store → FileStandsFor s terms file (store_on terms store)
  stands_on store stands = file_stands_on s setup terms share file store stands

  -- the records in doubt lead there from the store on these terms
  doubt_on : (store : NodeAndRows) (doubt : List Record) → store.node.setup ≡ setup → store_on terms (replayed_all store doubt) ≡ replayed_all (store_on terms store) doubt
  doubt_on store doubt is = sym (replayed_all_on store terms (subst (λ x. SharesHead x terms) (sym is) share) doubt)

  own_terms : (store : NodeAndRows) (doubt : List Record) → FileStandsFor s setup file (replayed_all store doubt) → store.node.setup ≡ setup
  own_terms store doubt stands = sym (replayed_all_terms store doubt) ∙ file_terms s setup file (replayed_all store doubt) stands

  opened_terms : (store : NodeAndRows) (doubt : List Record) → FileStandsFor s setup file (opened_store (replayed_all store doubt)) → store.node.setup ≡ setup
  opened_terms store doubt stands = sym (replayed_all_terms store doubt) ∙ file_terms s setup file (opened_store (replayed_all store doubt)) stands

  any_on : (state : ServerState) → StandsForAny s setup (found_stores state) file → StandsForAny s terms (found_stores (server_on terms state)) file
  any_on state any = elim any [
    | inl h ↦ inl (stands_on (store_of state) h)
    | inr any ↦ elim any [
      | inl h ↦ inr (inl (subst (FileStandsFor s terms file) (doubt_on (store_of state) state.doubt (own_terms (store_of state) state.doubt h)) (stands_on (replayed_all (store_of state) state.doubt) h)))
      | inr any ↦ elim any [
        | inl h ↦ inr (inr (inl (stands_on (opened_store (store_of state)) h)))
        | inr any ↦ elim any [
          | inl h ↦ inr (inr (inr (inl (subst (λ x. FileStandsFor s terms file (opened_store x)) (doubt_on (store_of state) state.doubt (opened_terms (store_of state) state.doubt h))
              (stands_on (opened_store (replayed_all (store_of state) state.doubt)) h)))))
          | inr none ↦ absurd none
        ]
      ]
    ]
  ]

module _ {D : Type 0} (seen : D → Contents) (images : D → Image → Type 0) where
  pub found_on : (setup terms : Setup) → SharesHead setup terms → (disks : List D) (servers : List ServerState) → AreFound seen images setup disks servers → AreFound seen images terms disks (list_map (server_on terms) servers)
  found_on setup terms share disks servers are = record {
    count = are.count ∙ sym (length-map servers (server_on terms));
    told = are.told;
    left = record {
      at = λ s state is disk at image among.
          let g = get_mapped (server_on terms) servers s state is in
          subst (λ x. StandsForAny s terms (found_stores x) (image 1)) g.2 (any_on s setup terms share (image 1) g.0 (are.left.at s g.0 g.1 disk at image among));
    };
  }

  pub terms_may_change : TermsMayChange seen images
  terms_may_change setup disks [] reached terms share = subst (AreFound seen images terms disks) (new_on setup terms share) (found_on setup terms share disks (new_servers setup) reached)
  terms_may_change setup disks (past ∷ older) r terms share = (
    record { servers = share.servers ∙ r.0.servers; threshold = share.threshold ∙ r.0.threshold },
    r.1,
    r.2,
    subst (AreFound seen images terms disks) (twice_on setup terms r.1) (found_on setup terms share disks (list_map (server_on setup) r.1) r.3),
  )

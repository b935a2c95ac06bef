-- Each name has one owner.
use Rattle.std.proofs.Common.{◌≡◌, ◌∙◌, sym, ap, subst, ℕ, ◌<◌, ◌≤◌, Bool, true, false, List, length, Some}
use Rattle.std.specs.List.{slice_get}
use Rattle.std.proofs.Math.Nat.{mod-lt}
use Rattle.mds_base.specs.declared.setup.Setup.{Setup}
use Rattle.mds_base.specs.Calls.{CallOn, OnName}
use Rattle.mds_base.specs.Calls.{asked_of as call_on}
use Rattle.mds_base.proofs.Lists.{get_below}
use Rattle.sessions.specs.Kept.{seq_of}
use Rattle.node_core.specs.Nodes.{server_for, part_for, session_in}
use Rattle.node_core.specs.Rules.{ChangeOf, is_served, asked_on, asked_of}
use Rattle.world.specs.declared.state.ServerState.{ServerState}
use Rattle.world.specs.Worlds.{store_of}
use Rattle.world.specs.Histories.{MadeV, Trace, Change}
use Rattle.world.specs.Owners.{owns_name, IsChangeOn, HasOwner}
use Rattle.world.proofs.Invariant.{Inv, IsOfKind}
use Rattle.world.proofs.Keepers.{keepers, own_holder}
use Rattle.world.proofs.Outcomes.{owner_of, owns_of}
use Rattle.world.proofs.Stores.{store_was}

-- a change that is served is asked of the name that it is on
served_on : (served : Bool) (on : CallOn) (dir other : ℕ) (name other_name : List ℕ) → asked_on served on ≡ ChangeOf other other_name → on ≡ OnName dir name true → asked_on served on ≡ ChangeOf dir name
served_on true on dir other name other_name is e = ap (asked_on true) e
served_on false on dir other name other_name is e = cc

module _ (t : Trace) (inv : Inv t) (dir : ℕ) (name : List ℕ) where
  abbrev owner : ℕ
  owner = server_for t.world.setup.servers dir (keepers.holder dir name)

  asked : (k : ℕ) (e : MadeV) → slice_get t.past.made k ≡ Some e → IsChangeOn dir name e → asked_of e.entry.call ≡ ChangeOf dir name
  asked k e at change =
      let was : IsOfKind Change e.entry.call = subst (λ w. IsOfKind w e.entry.call) change.kind (inv.made.made_kind.at k e at) in
      served_on (is_served e.entry.call) (call_on e.entry.call) dir was.0 name was.1 was.2 change.on

  owner_there : owner < length t.world.servers
  owner_there = subst (λ n. owner < n) (sym inv.sizes.server_count) (mod-lt _ inv.sizes.some_servers)

  owner_is : (s : ℕ) (state : ServerState) → slice_get t.world.servers s ≡ Some state → owns_name state dir name ≡ true → owner ≡ s
  owner_is s state at owns' =
      let sizes = inv.sizes.servers_are.at s state at in
      ap (server_for t.world.setup.servers dir) (own_holder state.node dir name (inv.bits.own_kept.at s state at))
      ∙ owner_of (store_of state) dir (part_for state.node dir name) t.world.setup.servers s owns' (ap (λ (setup : Setup). setup.servers) sizes.setup') sizes.server

  pub has_owner : HasOwner t dir name
  has_owner =
      let there = get_below t.world.servers owner owner_there in
      let state : ServerState = there.0 in
      let sizes = inv.sizes.servers_are.at owner state there.1 in
      let part : ℕ = part_for state.node dir name in
      let holds : keepers.holder dir name ≡ part = own_holder state.node dir name (inv.bits.own_kept.at owner state there.1) in
      let placed : owner ≡ server_for t.world.setup.servers dir part = ap (server_for t.world.setup.servers dir) holds in
      record {
        owner = record {
          place = owner;
          item = state;
          is = there.1;
          good = record {
            owns' = owns_of (store_of state) dir part t.world.setup.servers owner (sym placed) (ap (λ (setup : Setup). setup.servers) sizes.setup') sizes.server;
            placed = placed;
            covers = record {
              at = λ k e at change.
                  subst (λ p. e.entry.seq ≤ seq_of (session_in state.node dir p e.entry.client)) holds
                  (subst (λ store. e.entry.seq ≤ seq_of (session_in store.node dir (keepers.holder dir name) e.entry.client)) (store_was t.world.servers owner state there.1)
                  (inv.sessions.session_covers k e at change.kind dir name (asked k e at change)));
            };
          };
        };
        one = record { same = λ i j a b ai bj both. sym (owner_is i a ai both.left) ∙ owner_is j b bj both.right };
      }

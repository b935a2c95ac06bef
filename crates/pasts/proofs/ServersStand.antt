-- The servers on their disks and those of a world, each at its place.
use Rattle.std.proofs.Common.{◌≡◌, ◌∙◌, sym, subst, refl, ℕ, Bool, true, false, List, [], Some, None, inl, inr, arith}
use Rattle.std.specs.Prelude.{slice_set}
use Rattle.std.specs.List.{slice_get}
use Rattle.mds_base.specs.declared.setup.Setup.{Setup}
use Rattle.mds_base.proofs.Grow.{within, length_set, get_set}
use Rattle.mds_out.specs.Disk.{Image, Contents}
use Rattle.node_core.specs.Nodes.{NodeAndRows}
use Rattle.node_store.specs.Store.{Store, IsDownAt}
use Rattle.world.specs.declared.state.ServerState.{ServerState}
use Rattle.world.specs.Worlds.{store_of}
use Rattle.mds_base.proofs.Lists.{get_below}
use Rattle.pasts.specs.Servers.{IsServerAt, IsServer, AreServers}

-- the server of a world that one that is up is
pub record IsUpAs (state : ServerState) (up : NodeAndRows) : Type 0 where
  pub running : state.up ≡ true
  pub same : store_of state ≡ up
  pub sure : state.doubt ≡ []

-- the server of a world that one that is down is
pub record IsDownAs {X : Type 0} (seen : X → Contents) (images : X → Image → Type 0) (store : Store X) (state : ServerState) : Type 0 where
  pub stopped : state.up ≡ false
  pub at : IsDownAt seen images store (store_of state)
  pub doubt : store.doubt ≡ state.doubt

module _ {X : Type 0} (seen : X → Contents) (images : X → Image → Type 0) where
  up_as : (store : Store X) (state : ServerState) (b : Bool) (s : NodeAndRows) → state.up ≡ b → store.up ≡ Some s → IsServerAt seen images store state b → IsUpAs state s
  up_as store state true s e up at = let same = at.0 in record { running = e; same = cc; sure = at.1 }
  up_as store state false s e up at = let down = at.0.down in cc

  pub as_up : (setup : Setup) (number : ℕ) (store : Store X) (state : ServerState) (s : NodeAndRows) → IsServer seen images setup number store state → store.up ≡ Some s → IsUpAs state s
  as_up setup number store state s i up = up_as store state state.up s refl up i.at

  down_as : (store : Store X) (state : ServerState) (b : Bool) → state.up ≡ b → store.up ≡ None → IsServerAt seen images store state b → IsDownAs seen images store state
  down_as store state true e down at = let up = at.0 in cc
  down_as store state false e down at = record { stopped = e; at = at.0; doubt = at.1 }

  pub as_down : (setup : Setup) (number : ℕ) (store : Store X) (state : ServerState) → IsServer seen images setup number store state → store.up ≡ None → IsDownAs seen images store state
  as_down setup number store state i down = down_as store state state.up refl down i.at

  -- one server changed
  pub servers_set : (setup : Setup) (stores : List (Store X)) (servers : List ServerState) (k : ℕ) (store : Store X) (state : ServerState) → AreServers seen images setup stores servers
      → IsServer seen images setup k store state → AreServers seen images setup (slice_set stores k store) (slice_set servers k state)
  servers_set setup stores servers k store state are good = record {
    count = length_set stores k store ∙ are.count ∙ sym (length_set servers k state);
    each = record {
      at = λ s other e found is. elim (get_set servers k state s other e) [
        | inl here ↦ elim (get_set stores k store s found is) [
          | inl same ↦ subst (λ j. IsServer seen images setup j found other) (sym here.0)
              (subst (λ (x : Store X). IsServer seen images setup k x other) same.1 (subst (λ (x : ServerState). IsServer seen images setup k store x) here.1 good))
          | inr apart ↦ absurd (apart.0 here.0)
        ]
        | inr far ↦ elim (get_set stores k store s found is) [
          | inl same ↦ absurd (far.0 same.0)
          | inr apart ↦ are.each.at s other far.1 found apart.1
        ]
      ];
    };
  }

  -- the server of the world that stands where one on its disk does
  pub record IsServerOf (setup : Setup) (servers : List ServerState) (k : ℕ) (store : Store X) : Type 0 where
    pub state : ServerState
    pub is : slice_get servers k ≡ Some state
    pub good : IsServer seen images setup k store state

  pub server_of : (setup : Setup) (stores : List (Store X)) (servers : List ServerState) (k : ℕ) (store : Store X) → AreServers seen images setup stores servers → slice_get stores k ≡ Some store → IsServerOf setup servers k store
  server_of setup stores servers k store are is =
      let below = within stores k store is in
      let count = are.count in
      let r = get_below servers k (omega (arith, below, count)) in
      record { state = r.0; is = r.1; good = are.each.at k r.0 r.1 store is }

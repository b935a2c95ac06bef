-- The disks that are handed back at the end are such as a run leaves that ends with these servers.
use Rattle.std.proofs.Common.{◌≡◌, ◌∙◌, sym, ap, subst, refl, ℕ, ◌+◌, Bool, true, false, List, [], ◌∷◌, ◌++◌, length, Option, Some, None, is_some, inl, inr, arith}
use Rattle.std.specs.Prelude.{map as list_map}
use Rattle.mds_base.specs.declared.setup.Setup.{Setup}
use Rattle.mds_base.specs.declared.store_fault.StoreFault.{StoreFault}
use Rattle.mds_base.specs.declared.store_fault.StoreFault.TheVariants.{Device, Stopped, Damaged, Room, OutOfMemory}
use Rattle.mds_base.specs.declared.store_fault.Damage.{Damage}
use Rattle.mds_out.specs.Disk.{Image, Contents}
use Rattle.mds_out.specs.Fused.{Fused}
use Rattle.mds_out.specs.Known.{OnTold}
use Rattle.records.specs.declared.record.Record.{Record}
use Rattle.records.specs.Spelling.{IsHead}
use Rattle.node_core.specs.Nodes.{NodeAndRows}
use Rattle.node_core.specs.Serving.{replayed_all}
use Rattle.node_store.specs.Damage.{IsDamaged}
use Rattle.node_store.specs.Stands.{FileStandsFor, all_follow, StandFor, opened_store}
use Rattle.node_store.specs.Store.{Store, HasDoubt, LeavesDoubt, KeepsStore, KeepsAny, StandsForAny}
use Rattle.node_store.proofs.Standing.{stand_more}
use Rattle.world.specs.declared.state.ServerState.{ServerState}
use Rattle.world.specs.Law.{PastRun, new_servers}
use Rattle.world.specs.Worlds.{store_of}
use Rattle.mds_base.proofs.Grow.{within}
use Rattle.mds_base.proofs.Lists.{get_below}
use Rattle.pasts.specs.Fuses.{seen_by, images_by}
use Rattle.pasts.specs.Openings.{Paired, IsDiskOf, IsOpenFault, IsNotOpened, IsNoDamage}
use Rattle.mds_base.specs.Setups.{IsSetup}
use Rattle.pasts.specs.Servers.{IsServer, IsServerAt, AreServers}
use Rattle.pasts.specs.Starts.{AreDisks, AreFound, AreReached, left_stores, found_stores, server_on}
use Rattle.pasts.proofs.PastFound.{ReadsAs, any_front, stands_any}
use Rattle.pasts.proofs.ServerOpened.{where_told}
use Rattle.pasts.proofs.ListPairs.{paired_length, paired_at}

-- a file with the bodies of a store, or with its records in doubt behind them
doubt_stands : (s : ℕ) (setup : Setup) (bodies : List (List ℕ)) (store : NodeAndRows) (doubt : List Record) (file : List ℕ) → StandFor s setup bodies store → all_follow store doubt ≡ true
    → HasDoubt bodies doubt file → StandsForAny s setup (store ∷ replayed_all store doubt ∷ []) file
doubt_stands s setup bodies store doubt file stands follow has = elim has [
  | inl h ↦ inl (inr (bodies, h, stands))
  | inr h ↦ inr (inl (inr (bodies ++ h.0 ∷ [], h.2, stand_more s setup bodies store h.0 doubt stands h.1 follow)))
]

module _ {D : Type 0} (seen : D → Contents) (images : D → Image → Type 0) where
  -- the disk of a server that is up, or down
  left_at : (s : ℕ) (setup : Setup) (store : Store (Fused D)) (state : ServerState) (up : Bool) → is_some (seen store.disk.inner 1) ≡ true → store.server ≡ s → store.setup ≡ setup
      → IsServerAt (seen_by seen) (images_by images) store state up → IsDiskOf seen images store store.disk.inner → KeepsAny (images store.disk.inner) s setup (left_stores state)
  left_at s setup store state true told server same at out image among =
      let keeps : KeepsStore (images store.disk.inner) store.server store.setup (store_of state) = where_told (seen store.disk.inner 1) (KeepsStore (images store.disk.inner) store.server store.setup (store_of state)) (out.kept (store_of state) at.0) told in
      subst (λ k. StandsForAny k setup (left_stores state) (image 1)) server
      (subst (λ x. StandsForAny store.server x (left_stores state) (image 1)) same (inl (keeps image among)))
  left_at s setup store state false told server same at out image among =
      let l : LeavesDoubt (images store.disk.inner) store.server store.setup store.log (store_of state) store.doubt =
      where_told (seen store.disk.inner 1) (LeavesDoubt (images store.disk.inner) store.server store.setup store.log (store_of state) store.doubt) at.0.told told in
      let l' : LeavesDoubt (images store.disk.inner) store.server store.setup store.log (store_of state) state.doubt =
      subst (LeavesDoubt (images store.disk.inner) store.server store.setup store.log (store_of state)) at.1 l in
      subst (λ k. StandsForAny k setup (left_stores state) (image 1)) server
      (subst (λ x. StandsForAny store.server x (left_stores state) (image 1)) same
      (doubt_stands store.server store.setup l'.bodies (store_of state) state.doubt (image 1) l'.stands l'.follow (l'.each image among)))

  module _ (setup : Setup) (stores : List (Store (Fused D))) (disks : List D) (out : Paired (λ k. IsDiskOf seen images) 0 stores disks) where
    pub disks_left : (servers : List ServerState) → AreServers (seen_by seen) (images_by images) setup stores servers → AreDisks seen images setup disks servers
    disks_left servers are = record {
      count = paired_length (λ k. IsDiskOf seen images) 0 stores disks out ∙ are.count;
      told = record {
        at = λ s disk at.
            let n = paired_length (λ k. IsDiskOf seen images) 0 stores disks out in
            let c = are.count in
            let w = within disks s disk at in
            let g = get_below stores s (omega arith) in
            let x = get_below servers s (omega arith) in
            let o : IsDiskOf seen images g.0 disk = paired_at (λ k. IsDiskOf seen images) stores disks out s g.0 disk g.1 at in
            ap (λ d. is_some (seen d 1)) o.inner ∙ (are.each.at s x.0 x.1 g.0 g.1).told;
      };
      left = record {
        at = λ s state is disk at.
            let c = are.count in
            let w = within servers s state is in
            let g = get_below stores s (omega arith) in
            let o : IsDiskOf seen images g.0 disk = paired_at (λ k. IsDiskOf seen images) stores disks out s g.0 disk g.1 at in
            let i : IsServer (seen_by seen) (images_by images) setup s g.0 state = are.each.at s state is g.0 g.1 in
            let o' : IsDiskOf seen images g.0 g.0.disk.inner = subst (IsDiskOf seen images g.0) o.inner o in
            subst (λ d. KeepsAny (images d) s setup (left_stores state)) (sym o.inner) (left_at s setup g.0 state state.up i.told i.server i.setup' i.at o');
      };
    }

  -- an opening may find them as the run left them
  pub found_left : (setup : Setup) (disks : List D) (servers : List ServerState) → AreDisks seen images setup disks servers → AreFound seen images setup disks servers
  found_left setup disks servers are = record {
    count = are.count;
    told = are.told;
    left = record {
      at = λ s state is disk at image among. any_front s setup (left_stores state) (list_map opened_store (left_stores state)) (image 1) (are.left.at s state is disk at image among);
    };
  }

pub inners : {D : Type 0} (seen : D → Contents) (images : D → Image → Type 0) (j : ℕ) (stores : List (Store (Fused D))) (disks : List D) → Paired (λ k. IsDiskOf seen images) j stores disks → disks ≡ list_map (λ (store : Store (Fused D)). store.disk.inner) stores
inners seen images j [] [] out = refl
inners seen images j [] (d ∷ disks) out = absurd out
inners seen images j (store ∷ stores) [] out = absurd out
inners seen images j (store ∷ stores) (d ∷ disks) out =
    ap (λ x. x ∷ disks) out.0.inner ∙ ap (λ xs. store.disk.inner ∷ xs) (inners seen images (j + 1) stores disks out.1)

-- A disk of a past is not damaged

abbrev pub IsSound : Type 0
IsSound = (server : ℕ) (setup : Setup) (file : List ℕ) (store : NodeAndRows) (place : ℕ) (damage : Damage) → IsHead 1 setup.servers server setup.threshold → FileStandsFor server setup file store → IsDamaged server setup file place damage → ⊥

none_damaged : IsSound → (s : ℕ) (setup : Setup) (stores : List NodeAndRows) (file : List ℕ) (place : ℕ) (damage : Damage) → IsHead 1 setup.servers s setup.threshold → StandsForAny s setup stores file → IsDamaged s setup file place damage → ⊥
none_damaged sound s setup [] file place damage head any bad = any
none_damaged sound s setup (store ∷ stores) file place damage head any bad = elim any [ inl h ↦ sound s setup file store place damage head h bad | inr h ↦ none_damaged sound s setup stores file place damage head h bad ]

module _ {D : Type 0} (faults : D → ℕ) (seen : D → Contents) (images : D → Image → Type 0) (reads : ReadsAs seen images) (sound : IsSound) (setup : Setup) where
  told_sound : (s : ℕ) (disk new : D) (stores : List NodeAndRows) (place : ℕ) (damage : Damage) → IsHead 1 setup.servers s setup.threshold → KeepsAny (images disk) s setup stores
      → (told : Option (List ℕ)) → seen disk 1 ≡ told → is_some told ≡ true → OnTold told (λ bytes. IsDamaged s setup bytes place damage × (seen new 1 ≡ Some bytes)) → ⊥
  told_sound s disk new stores place damage head keeps None is some bad = let n : false ≡ true = some in cc
  told_sound s disk new stores place damage head keeps (Some bytes) is some bad = none_damaged sound s setup stores bytes place damage head (stands_any seen images reads disk s setup stores bytes is keeps) bad.0

  no_damage : (s : ℕ) (disk new : D) (state : ServerState) (fault : StoreFault) → IsHead 1 setup.servers s setup.threshold → KeepsAny (images disk) s setup (found_stores state) → is_some (seen disk 1) ≡ true → IsOpenFault faults seen setup s disk new fault → IsNoDamage fault
  no_damage s disk new state Device head keeps told cause = tt
  no_damage s disk new state Stopped head keeps told cause = tt
  no_damage s disk new state (Damaged file place damage) head keeps told cause = told_sound s disk new (found_stores state) place damage head keeps (seen disk 1) refl told cause.1
  no_damage s disk new state Room head keeps told cause = tt
  no_damage s disk new state OutOfMemory head keeps told cause = tt

  pub disks_sound : (old new : List D) (server : ℕ) (fault : StoreFault) → IsSetup setup → length old ≡ setup.servers → IsNotOpened faults seen images setup old new server fault → (servers : List ServerState) → AreFound seen images setup old servers → IsNoDamage fault
  disks_sound old new server fault is count refused servers are =
      let w = refused.within in
      let n = refused.count in
      let c = are.count in
      let g = get_below old server w in
      let h = get_below new server (omega arith) in
      let x = get_below servers server (omega arith) in
      let head : IsHead 1 setup.servers server setup.threshold = record {
        format_is = refl;
        some_server = is.some_server;
        few_servers = is.few_servers;
        below = omega arith;
        some_row = is.some_row;
        few_rows = is.few_rows;
      } in
      no_damage server g.0 h.0 x.0 fault head (are.left.at server x.0 x.1 g.0 g.1) (are.told.at server g.0 g.1) (refused.cause g.0 h.0 g.1 h.1)

  pub reached_sound : (old new : List D) (server : ℕ) (fault : StoreFault) → IsSetup setup → length old ≡ setup.servers → IsNotOpened faults seen images setup old new server fault → (past : List PastRun) → AreReached seen images setup old past → IsNoDamage fault
  reached_sound old new server fault is count refused [] r = disks_sound old new server fault is count refused (new_servers setup) r
  reached_sound old new server fault is count refused (past ∷ older) r = disks_sound old new server fault is count refused (list_map (server_on setup) r.1) r.3

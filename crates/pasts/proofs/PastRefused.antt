-- Disks that an opening handed back are still those of the past, each at its place.
use Rattle.std.proofs.Common.{◌≡◌, ◌∙◌, ℕ, List, [], ◌∷◌, Some, arith}
use Rattle.std.specs.Prelude.{map as list_map}
use Rattle.std.specs.List.{slice_get}
use Rattle.mds_base.specs.declared.setup.Setup.{Setup}
use Rattle.mds_out.specs.Disk.{Image, Contents}
use Rattle.node_core.specs.Serving.{replayed_all}
use Rattle.world.specs.declared.state.ServerState.{ServerState}
use Rattle.world.specs.Law.{PastRun, new_servers}
use Rattle.world.specs.Worlds.{store_of}
use Rattle.mds_base.proofs.Grow.{within}
use Rattle.mds_base.proofs.Lists.{get_below}
use Rattle.pasts.specs.Openings.{ComeBack, Paired, IsHandedBack}
use Rattle.pasts.specs.Starts.{AreFound, AreReached, found_stores, server_on}
use Rattle.pasts.proofs.PastFound.{left_again}
use Rattle.pasts.proofs.ListPairs.{paired_length, paired_at, paired_self, paired_weaker}

module _ {D : Type 0} (lasts : D → D → Type 0) (seen : D → Contents) (images : D → Image → Type 0) (setup : Setup) (old new : List D) (back : Paired (IsHandedBack lasts seen images setup) 0 old new) where
  back_at : (s : ℕ) (disk : D) → slice_get new s ≡ Some disk → (before : D) × (slice_get old s ≡ Some before) × IsHandedBack lasts seen images setup s before disk
  back_at s disk at =
      let n = paired_length (IsHandedBack lasts seen images setup) 0 old new back in
      let w = within new s disk at in
      let g = get_below old s (omega arith) in
      (g.0, g.1, paired_at (IsHandedBack lasts seen images setup) old new back s g.0 disk g.1 at)

  pub are_disks_still : (servers : List ServerState) → AreFound seen images setup old servers → AreFound seen images setup new servers
  are_disks_still servers are = record {
    count = paired_length (IsHandedBack lasts seen images setup) 0 old new back ∙ are.count;
    told = record {
      at = λ s disk at. let b = back_at s disk at in b.2.told (are.told.at s b.0 b.1);
    };
    left = record {
      at = λ s state is disk at.
          let b = back_at s disk at in
          λ image among. left_again s setup (store_of state) (replayed_all (store_of state) state.doubt) (image 1) (b.2.left (are.told.at s b.0 b.1) (found_stores state) (are.left.at s state is b.0 b.1) image among);
    };
  }

  pub are_reached_still : (past : List PastRun) → AreReached seen images setup old past → AreReached seen images setup new past
  are_reached_still [] r = are_disks_still (new_servers setup) r
  are_reached_still (past ∷ older) r = (r.0, r.1, r.2, are_disks_still (list_map (server_on setup) r.1) r.3)

-- as many disks come back, each at its place
module _ {D : Type 0} (lasts : D → D → Type 0) (seen : D → Contents) (images : D → Image → Type 0) (setup : Setup) where
  pub come_back : (s : ℕ) (old new : List D) → Paired (IsHandedBack lasts seen images setup) s old new → Paired (λ k. lasts) s old new
  come_back s old new back = paired_weaker (IsHandedBack lasts seen images setup) (λ k. lasts) (λ k x y is. is.lasts') s old new back

pub come_same : {D : Type 0} (lasts : D → D → Type 0) → ((disk : D) → lasts disk disk) → (disks : List D) → ComeBack lasts disks disks
come_same lasts here disks = paired_self (λ k. lasts) (λ k disk. here disk) 0 disks

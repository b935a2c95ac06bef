-- Where clients send their calls: to a partition that its server keeps.
use Rattle.std.proofs.Common.{◌≡◌, ℕ, true, List}
use Rattle.std.proofs.lemmas.Bool.{and_parts}
use Rattle.mds_base.specs.declared.TheConstants.{RADIX}
use Rattle.mds_base.specs.declared.call.Call.{Call}
use Rattle.mds_base.specs.Calls.{dir_of, is_well_made}
use Rattle.bitmap.specs.Bits.{has}
use Rattle.name_hash.specs.NameHash.{hash_of}
use Rattle.client_core.specs.Clients.{ClientV, bits_in, located_in, target_of}
use Rattle.node_core.specs.Rules.{is_served}
use Rattle.node_core.proofs.Calls.{each_served}
use Rattle.world.specs.Events.{is_call}
use Rattle.world.proofs.Keepers.{keepers, IsKept, root_kept, located_by}
use Rattle.world.proofs.Invariant.{AreKept}

located_kept : (client : ClientV) (dir : ℕ) (name : List ℕ) → AreKept keepers client → IsKept keepers dir (located_in client dir name)
located_kept client dir name kept = located_by RADIX (hash_of name) (has (bits_in client dir)) (keepers.kept dir) (root_kept dir) (kept dir)

pub target_kept : (client : ClientV) (call : Call) → is_call call ≡ true → AreKept keepers client → IsKept keepers (dir_of call) (target_of client call)
target_kept client call is kept =
    each_served (λ call. IsKept keepers (dir_of call) (target_of client call)) (λ d n. located_kept client d n kept) (λ d n. located_kept client d n kept) (λ d n. located_kept client d n kept) (λ d n mode size stamp. located_kept client d n kept)
    (λ d n. located_kept client d n kept) call (and_parts (is_served call) (is_well_made call) is).0

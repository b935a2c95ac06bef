-- The stores of servers when one server's state is set.
use Rattle.std.proofs.Common.{◌≡◌, ap, ℕ, List, Some}
use Rattle.std.specs.Prelude.{slice_set}
use Rattle.std.specs.List.{slice_get}
use Rattle.world.specs.declared.state.ServerState.{ServerState}
use Rattle.world.specs.Worlds.{store_of}
use Rattle.mds_base.proofs.Grow.{set_here, set_apart}
use Rattle.world.proofs.Invariant.{store_in, store_or}

pub store_was : (servers : List ServerState) (s : ℕ) (state : ServerState) → slice_get servers s ≡ Some state → store_in servers s ≡ store_of state
unfolding store_in
store_was servers s state is = ap store_or is

pub store_here : (servers : List ServerState) (s : ℕ) (state new : ServerState) → slice_get servers s ≡ Some state → store_in (slice_set servers s new) s ≡ store_of new
unfolding store_in
store_here servers s state new is = ap store_or (set_here servers s state new is)

pub store_apart : (servers : List ServerState) (s : ℕ) (new : ServerState) (k : ℕ) → (k ≡ s → ⊥) → store_in (slice_set servers s new) k ≡ store_in servers k
unfolding store_in
store_apart servers s new k differ = ap store_or (set_apart servers s k new differ)

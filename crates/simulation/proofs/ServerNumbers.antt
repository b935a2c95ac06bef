-- A server that is up, and the directory numbers that it has left.
use Rattle.std.proofs.Common.{◌≡◌, ◌∙◌, sym, ap, ℕ, ◌+◌, ◌*◌, ◌-◌, Some, arith}
use Rattle.std.specs.Prelude.{nat_le}
use Rattle.std.specs.List.{slice_get}
use Rattle.std.proofs.lemmas.Bool.Decides.{nat_tests}
use Rattle.mds_base.specs.declared.limits.TheConstants.{SERVER_DIRECTORIES, SERVE_DIRECTORIES}
use Rattle.node_core.specs.Nodes.{NodeV, NodeAndRows, has_numbers}
use Rattle.node_store.specs.Store.{Store}
use Rattle.simulation.specs.Shows.{SimulationV, up_has_numbers, store_has_numbers, has_numbers_at}

left_is : (next server : ℕ) → nat_le next ((server + 1) * SERVER_DIRECTORIES - SERVE_DIRECTORIES) ≡ nat_le (next + SERVE_DIRECTORIES) ((server + 1) * SERVER_DIRECTORIES)
left_is next server = grind (arith, nat_tests)

own_left : (next server : ℕ) (node : NodeV) → next ≡ node.next → node.server ≡ server → nat_le next ((server + 1) * SERVER_DIRECTORIES - SERVE_DIRECTORIES) ≡ has_numbers node
own_left next server node e o = left_is next server ∙ ap (λ n. nat_le (n + SERVE_DIRECTORIES) ((server + 1) * SERVER_DIRECTORIES)) e ∙ ap (λ n. nat_le (node.next + SERVE_DIRECTORIES) ((n + 1) * SERVER_DIRECTORIES)) (sym o)

pub numbers_at : {X : Type 0} (was old : SimulationV X) (s next : ℕ) (store : Store X) (x : NodeAndRows) → was ≡ old → slice_get was.stores s ≡ Some store → store.up ≡ Some x → next ≡ x.node.next → x.node.server ≡ s → nat_le next ((s + 1) * SERVER_DIRECTORIES - SERVE_DIRECTORIES) ≡ has_numbers_at old s
numbers_at was old s next store x same is up e o =
    own_left next s x.node e o ∙ ap up_has_numbers (sym up) ∙ ap store_has_numbers (sym is) ∙ ap (λ v. has_numbers_at v s) same

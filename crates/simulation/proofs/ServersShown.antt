-- The servers of a simulation and those of a world, each at its place.
use Rattle.std.proofs.Common.{◌≡◌, ◌≢◌, ◌∙◌, sym, ap, subst, refl, ℕ, zero, suc, ◌<◌, Bool, true, false, is_some, List, [], ◌∷◌, length, get_or, Option, Some, None, arith}
use Rattle.std.specs.Prelude.{slice_set}
use Rattle.std.specs.List.{slice_get}
use Rattle.std.proofs.lemmas.Bool.{true≢false}
use Rattle.std.proofs.lemmas.Option.{get_or_from_slice_get, slice_get_read, same_Some}
use Rattle.node_core.specs.Nodes.{NodeAndRows, has_numbers}
use Rattle.node_store.specs.Store.{Store}
use Rattle.mds_base.proofs.Grow.{set_apart}
use Rattle.simulation.specs.Shows.{SimulationV, is_up, store_is_up, store_has_numbers, up_has_numbers, has_numbers_at}

-- what stands at a place
pub record IsAt {X : Type 0} (xs : List X) (k : ℕ) : Type 0 where
  pub item : X
  pub is : slice_get xs k ≡ Some item

pub at_place : {X : Type 0} (xs : List X) (k : ℕ) → k < length xs → IsAt xs k
at_place [] k e = absurd (omega (arith, e))
at_place (x ∷ xs) zero e = record { item = x; is = refl }
at_place (x ∷ xs) (suc k) e = let r = at_place xs k (omega (arith, e)) in record { item = r.item; is = r.is }

-- what a call reads at a place, and passes a test that nothing passes, stands there
read_by : {X : Type 0} (test : Option X → Bool) (xs : List X) (k : ℕ) (x : X) (o : Option X) → test None ≡ false → slice_get xs k ≡ o → test o ≡ true → x ≡ get_or xs k x → (slice_get xs k ≡ Some x) × (test (Some x) ≡ true)
read_by test xs k x None none is passes read = absurd (true≢false (sym passes ∙ none))
read_by test xs k x (Some y) none is passes read =
    let same : x ≡ y = read ∙ get_or_from_slice_get xs k y x is in
    (is ∙ ap Some (sym same), ap (λ z. test (Some z)) same ∙ passes)

pub read_at : {X : Type 0} (test : Option X → Bool) (xs : List X) (k : ℕ) (x : X) → test None ≡ false → test (slice_get xs k) ≡ true → x ≡ get_or xs k x → (slice_get xs k ≡ Some x) × (test (Some x) ≡ true)
read_at test xs k x none passes read = read_by test xs k x (slice_get xs k) none refl passes read

-- so does what is read within the list
pub read_within : {X : Type 0} (xs : List X) (k n : ℕ) (x : X) → length xs ≡ n → k < n → x ≡ get_or xs k x → slice_get xs k ≡ Some x
read_within xs k n x all below read = slice_get_read xs (length xs) k x refl (omega (arith, all, below)) read

-- a server that a call reads: up, by its number; or down
pub record IsUpStore {X : Type 0} (stores : List (Store X)) (server : ℕ) (store : Store X) : Type 0 where
  pub is : slice_get stores server ≡ Some store
  pub up : NodeAndRows
  pub up' : store.up ≡ Some up

pub record IsDownStore {X : Type 0} (stores : List (Store X)) (server : ℕ) (store : Store X) : Type 0 where
  pub is : slice_get stores server ≡ Some store
  pub down : store.up ≡ None

some_up : (up : Option NodeAndRows) → is_some up ≡ true → (s : NodeAndRows) × (up ≡ Some s)
some_up None e = cc
some_up (Some s) e = (s, refl)

pub not_up : (up : Option NodeAndRows) → (is_some up ≡ true → ⊥) → up ≡ None
not_up None e = refl
not_up (Some s) e = absurd (e refl)

module _ {X : Type 0} {was old : SimulationV X} (same : was ≡ old) (server : ℕ) (store : Store X) (read : store ≡ get_or was.stores server store) where
  pub up_store : is_up old server ≡ true → IsUpStore was.stores server store
  up_store up =
      let r = read_at store_is_up was.stores server store refl (subst (λ (v : SimulationV X). is_up v server ≡ true) (sym same) up) read in
      let u = some_up store.up r.1 in
      record { is = r.0; up = u.0; up' = u.1 }

  pub down_store : length was.stores ≡ was.setup.servers → (server < old.setup.servers) × (is_up old server ≢ true) → IsDownStore was.stores server store
  down_store all down =
      let d = subst (λ (v : SimulationV X). (server < v.setup.servers) × (is_up v server ≢ true)) (sym same) down in
      let is = read_within was.stores server was.setup.servers store all d.0 read in
      record { is = is; down = not_up store.up (λ up. d.1 (ap store_is_up is ∙ up)) }

-- a function of a simulation and of the store that a server has then
pub store_after : {X : Type 0} {was old : SimulationV X} (same : was ≡ old) (server : ℕ) (store new : Store X) (f : SimulationV X → Store X → SimulationV X) (g : Store X → Store X) → slice_get was.stores server ≡ Some store → new ≡ g store
    → (other : Store X) → slice_get old.stores server ≡ Some other → f was new ≡ f old (g other)
store_after {X = X} {was = was} same server store new f g is after other there =
    let one : store ≡ other = same_Some store other (sym is ∙ ap (λ (v : SimulationV X). slice_get v.stores server) same ∙ there) in
    ap (f was) (after ∙ ap g one) ∙ ap (λ v. f v (g other)) same

-- the other servers stay
pub others_stay : {X : Type 0} {was old : SimulationV X} (same : was ≡ old) (server : ℕ) (store : Store X) (other : ℕ) → other ≢ server → slice_get (slice_set was.stores server store) other ≡ slice_get old.stores other
others_stay {X = X} {was = was} same server store other apart = set_apart was.stores server other store apart ∙ ap (λ (v : SimulationV X). slice_get v.stores other) same

pub numbers_of : {X : Type 0} (sim : SimulationV X) {server : ℕ} {store : Store X} (u : IsUpStore sim.stores server store) → has_numbers_at sim server ≡ true → has_numbers u.up.node ≡ true
numbers_of sim u e = ap up_has_numbers (sym u.up') ∙ ap store_has_numbers (sym u.is) ∙ e

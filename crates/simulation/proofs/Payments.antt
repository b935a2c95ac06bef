-- Stops that are paid, one moment after another.
use Rattle.std.proofs.Common.{◌≡◌, ◌≢◌, sym, ap, subst, refl, ℕ, ◌+◌, ◌-◌, ◌^◌, ◌<◌, ◌≤◌, leb, Bool, true, false, List, Option, Some, None, arith, inl, inr}
use Rattle.std.specs.Prelude.{◌⊎◌, ◌==◌, ◌&&◌, is_some, if◌then◌else◌, slice_set}
use Rattle.std.specs.List.{slice_get}
use Rattle.std.proofs.lemmas.Bool.{true≢false, eqb-true, eqb-false}
use Rattle.std.proofs.lemmas.Bool.Decides.{leb_tells}
use Rattle.std.proofs.lemmas.Option.{none-some}
use Rattle.mds_out.specs.Fault.{Rose}
use Rattle.mds_out.specs.Fused.{Fused}
use Rattle.node_store.specs.Store.{Store}
use Rattle.mds_base.proofs.Grow.{set_here}
use Rattle.simulation.specs.Payments.{armed_of, own_faults, LeadsOn, LastsOn, IsPaid, ArePaid, none_at, once_at}
use Rattle.simulation.specs.Moves.{armed, halt}
use Rattle.simulation.specs.Shows.{SimulationV}
use Rattle.simulation.proofs.ServersShown.{others_stay}

module _ {D : Type 0} (faults : D → ℕ) (lasts : D → D → Type 0) where
  lasts_self : (o : Option (Store (Fused D))) → LastsOn lasts o o
  lasts_self None = tt
  lasts_self (Some store) = λ first h. h

  lasts_join : (a b c : Option (Store (Fused D))) → LastsOn lasts a b → LastsOn lasts b c → LastsOn lasts a c
  lasts_join None None c p q = q
  lasts_join None (Some b) c p q = absurd p
  lasts_join (Some a) None c p q = absurd p
  lasts_join (Some a) (Some b) None p q = absurd q
  lasts_join (Some a) (Some b) (Some c) p q = λ first h. q first (p first h)

  -- nothing happened to a server
  pub is_paid_same : (old new : Option (Store (Fused D))) → new ≡ old → IsPaid faults lasts old new 0 0
  is_paid_same old new same = subst (λ s. IsPaid faults lasts old s 0 0) (sym same) (record { on = lasts_self old; later = omega arith; paid = inl (omega arith) })

  -- one moment after another
  pub is_paid_on : (a b c : Option (Store (Fused D))) (m n f g : ℕ) → IsPaid faults lasts a b m f → IsPaid faults lasts b c n g → IsPaid faults lasts a c (m + n) (f + g)
  is_paid_on a b c m n f g one two = record { on = lasts_join a b c one.on two.on; later = omega (arith, one.later, two.later); paid = paid_on one.paid two.paid }
    where
      paid_on : (m + (armed_of b + own_faults faults a) ≤ own_faults faults b + (armed_of a + f)) ⊎ (2 ^ 64 - 1 ≤ own_faults faults b) → (n + (armed_of c + own_faults faults b) ≤ own_faults faults c + (armed_of b + g)) ⊎ (2 ^ 64 - 1 ≤ own_faults faults c)
          → ((m + n) + (armed_of c + own_faults faults a) ≤ own_faults faults c + (armed_of a + (f + g))) ⊎ (2 ^ 64 - 1 ≤ own_faults faults c)
      paid_on (inl p) (inl q) = inl (omega (arith, p, q))
      paid_on (inr p) (inl q) = inr (omega (arith, p, two.later))
      paid_on (inl p) (inr q) = inr q
      paid_on (inr p) (inr q) = inr q

  pub are_paid_same : (old new : List (Store (Fused D))) → new ≡ old → ArePaid faults lasts old new none_at none_at
  are_paid_same old new same s = is_paid_same (slice_get old s) (slice_get new s) (ap (λ l. slice_get l s) same)

  -- one server changed
  by_server : (old new : List (Store (Fused D))) (server s m f : ℕ) (b : Bool) → (s == server) ≡ b → IsPaid faults lasts (slice_get old server) (slice_get new server) m f → ((other : ℕ) → other ≢ server → slice_get new other ≡ slice_get old other)
      → IsPaid faults lasts (slice_get old s) (slice_get new s) (if b then m else 0) (if b then f else 0)
  by_server old new server s m f true is one others = subst (λ t. IsPaid faults lasts (slice_get old t) (slice_get new t) m f) (sym (eqb-true s server is)) one
  by_server old new server s m f false is one others = is_paid_same (slice_get old s) (slice_get new s) (others s (eqb-false s server is))

  pub one_paid : (old new : List (Store (Fused D))) (server m f : ℕ) → IsPaid faults lasts (slice_get old server) (slice_get new server) m f → ((other : ℕ) → other ≢ server → slice_get new other ≡ slice_get old other)
      → (s : ℕ) → IsPaid faults lasts (slice_get old s) (slice_get new s) (if s == server then m else 0) (if s == server then f else 0)
  one_paid old new server m f one others s = by_server old new server s m f (s == server) refl one others

  -- ---- one server

  -- whose disk went on, and which was up if it is: no stop
  pub is_paid_quiet : (old new : Store (Fused D)) → LeadsOn lasts old.disk.inner new.disk.inner → faults old.disk.inner ≤ faults new.disk.inner → (old.disk.left ≡ None → new.disk.left ≡ None) → (is_some new.up ≡ true → is_some old.up ≡ true) → IsPaid faults lasts (Some old) (Some new) 0 0
  is_paid_quiet old new on later unarmed up = record { on = on; later = later; paid = inl (quiet old.disk.left new.disk.left (is_some old.up) (is_some new.up) unarmed up) }
    where
      quiet : (l l' : Option ℕ) (u u' : Bool) → (l ≡ None → l' ≡ None) → (u' ≡ true → u ≡ true) → 0 + ((if u' && is_some l' then 1 else 0) + faults old.disk.inner) ≤ faults new.disk.inner + ((if u && is_some l then 1 else 0) + 0)
      quiet l l' u false still up = omega (arith, later)
      quiet l None u true still up = omega (arith, later)
      quiet None (Some k) u true still up = absurd (none-some k (sym (still refl)))
      quiet (Some j) (Some k) true true still up = omega (arith, later)
      quiet (Some j) (Some k) false true still up = absurd (true≢false (sym (up refl)))

  -- which is down then, and its disk's own count rose where its fuse was not armed: a stop
  rose_paid : (f f' : ℕ) → Rose f f' → (1 + (0 + f) ≤ f' + (0 + 0)) ⊎ (2 ^ 64 - 1 ≤ f')
  rose_paid f f' rose = by (leb_tells (f + 1) (2 ^ 64 - 1))
    where
      by : ((leb (f + 1) (2 ^ 64 - 1) ≡ true) × (f + 1 ≤ 2 ^ 64 - 1)) ⊎ ((leb (f + 1) (2 ^ 64 - 1) ≡ false) × (2 ^ 64 - 1 < f + 1)) → (1 + (0 + f) ≤ f' + (0 + 0)) ⊎ (2 ^ 64 - 1 ≤ f')
      by (inl le) = inl (omega (arith, le.1, rose))
      by (inr gt) = inr (omega (arith, gt.1, rose))

  pub is_paid_stop : (old new : Store (Fused D)) → LeadsOn lasts old.disk.inner new.disk.inner → faults old.disk.inner ≤ faults new.disk.inner → is_some old.up ≡ true → is_some new.up ≡ false → (old.disk.left ≡ None → Rose (faults old.disk.inner) (faults new.disk.inner)) → IsPaid faults lasts (Some old) (Some new) 1 0
  is_paid_stop old new on later up down rose = record { on = on; later = later; paid = stop old.disk.left new.disk.left (is_some old.up) (is_some new.up) up down rose }
    where
      stop : (l l' : Option ℕ) (u u' : Bool) → u ≡ true → u' ≡ false → (l ≡ None → Rose (faults old.disk.inner) (faults new.disk.inner))
          → (1 + ((if u' && is_some l' then 1 else 0) + faults old.disk.inner) ≤ faults new.disk.inner + ((if u && is_some l then 1 else 0) + 0)) ⊎ (2 ^ 64 - 1 ≤ faults new.disk.inner)
      stop None l' true false up down rose = rose_paid (faults old.disk.inner) (faults new.disk.inner) (rose refl)
      stop (Some k) l' true false up down rose = inl (omega (arith, later))
      stop l l' true true up down rose = absurd (true≢false down)
      stop l l' false u' up down rose = absurd (true≢false (sym up))

  -- which is down before and after, though its device failed: a stop
  pub is_paid_again : (old new : Store (Fused D)) → LeadsOn lasts old.disk.inner new.disk.inner → faults old.disk.inner ≤ faults new.disk.inner → is_some new.up ≡ false → Rose (faults old.disk.inner) (faults new.disk.inner) → IsPaid faults lasts (Some old) (Some new) 1 0
  is_paid_again old new on later down rose = record { on = on; later = later; paid = again (armed_of (Some old)) new.disk.left (is_some new.up) down (rose_paid (faults old.disk.inner) (faults new.disk.inner) rose) }
    where
      again : (a : ℕ) (l' : Option ℕ) (u' : Bool) → u' ≡ false → (1 + (0 + faults old.disk.inner) ≤ faults new.disk.inner + (0 + 0)) ⊎ (2 ^ 64 - 1 ≤ faults new.disk.inner)
          → (1 + ((if u' && is_some l' then 1 else 0) + faults old.disk.inner) ≤ faults new.disk.inner + (a + 0)) ⊎ (2 ^ 64 - 1 ≤ faults new.disk.inner)
      again a l' false down (inl p) = inl (omega (arith, p))
      again a l' false down (inr p) = inr p
      again a l' true down p = absurd (true≢false down)

  -- whose fuse was armed
  pub is_paid_armed : (store : Store (Fused D)) (calls : ℕ) → IsPaid faults lasts (Some store) (Some (armed store calls)) 0 1
  is_paid_armed store calls = record { on = λ first h. h; later = omega arith; paid = inl (arms (is_some store.up) (armed_of (Some store))) }
    where
      arms : (u : Bool) (a : ℕ) → 0 + ((if u && true then 1 else 0) + faults store.disk.inner) ≤ faults store.disk.inner + (a + 1)
      arms true a = omega arith
      arms false a = omega arith

  -- which is stopped, or whose fuse is not armed then: no stop
  pub is_paid_halted : (store new : Store (Fused D)) → new ≡ halt store → IsPaid faults lasts (Some store) (Some new) 0 0
  is_paid_halted store new same = subst (λ s. IsPaid faults lasts (Some store) (Some s) 0 0) (sym same) (record { on = λ first h. h; later = omega arith; paid = inl (omega arith) })

  pub is_paid_unarmed : (old new : Store (Fused D)) → LeadsOn lasts old.disk.inner new.disk.inner → faults old.disk.inner ≤ faults new.disk.inner → new.disk.left ≡ None → IsPaid faults lasts (Some old) (Some new) 0 0
  is_paid_unarmed old new on later unarmed = record { on = on; later = later; paid = inl (mended (armed_of (Some old)) new.disk.left (is_some new.up) unarmed) }
    where
      mended : (a : ℕ) (l' : Option ℕ) (u' : Bool) → l' ≡ None → 0 + ((if u' && is_some l' then 1 else 0) + faults old.disk.inner) ≤ faults new.disk.inner + (a + 0)
      mended a None true is = omega (arith, later)
      mended a None false is = omega (arith, later)
      mended a (Some k) u' is = absurd (none-some k (sym is))

-- ---- one server of a simulation

none_either : (b : Bool) → ◌≡◌ {A = ℕ} (if b then 0 else 0) 0
none_either true = refl
none_either false = refl

module _ {D : Type 0} (faults : D → ℕ) (lasts : D → D → Type 0) (was old : SimulationV (Fused D)) (server : ℕ) (store new : Store (Fused D)) (same : was ≡ old) (is : slice_get was.stores server ≡ Some store) where
  set_paid : (m f : ℕ) → IsPaid faults lasts (Some store) (Some new) m f
      → (s : ℕ) → IsPaid faults lasts (slice_get old.stores s) (slice_get (slice_set was.stores server new) s) (if s == server then m else 0) (if s == server then f else 0)
  set_paid m f one =
      one_paid faults lasts old.stores (slice_set was.stores server new) server m f
      (subst (λ (v : SimulationV (Fused D)). IsPaid faults lasts (slice_get v.stores server) (slice_get (slice_set was.stores server new) server) m f) same
      (subst (λ o. IsPaid faults lasts o (slice_get (slice_set was.stores server new) server) m f) (sym is)
      (subst (λ o. IsPaid faults lasts (Some store) o m f) (sym (set_here was.stores server store new is)) one)))
      (others_stay same server new)

  -- no stop
  pub quiet_paid : IsPaid faults lasts (Some store) (Some new) 0 0 → ArePaid faults lasts old.stores (slice_set was.stores server new) none_at none_at
  quiet_paid one s =
      subst (λ n. IsPaid faults lasts (slice_get old.stores s) (slice_get (slice_set was.stores server new) s) n n) (none_either (s == server)) (set_paid 0 0 one s)

  -- a stop
  pub stop_paid : IsPaid faults lasts (Some store) (Some new) 1 0 → ArePaid faults lasts old.stores (slice_set was.stores server new) (once_at server) none_at
  stop_paid one s =
      subst (λ n. IsPaid faults lasts (slice_get old.stores s) (slice_get (slice_set was.stores server new) s) (once_at server s) n) (none_either (s == server)) (set_paid 1 0 one s)

  -- a fuse that is armed
  pub arm_paid : (calls : ℕ) → new ≡ armed store calls → ArePaid faults lasts old.stores (slice_set was.stores server new) none_at (once_at server)
  arm_paid calls after s =
      subst (λ n. IsPaid faults lasts (slice_get old.stores s) (slice_get (slice_set was.stores server new) s) n (once_at server s)) (none_either (s == server))
      (set_paid 0 1 (subst (λ v. IsPaid faults lasts (Some store) (Some v) 0 1) (sym after) (is_paid_armed faults lasts store calls)) s)

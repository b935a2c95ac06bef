-- The servers at the end of a past: those that were down came up again, with their records in doubt or without them.
use Rattle.std.proofs.Common.{◌≡◌, ◌∙◌, sym, ap, subst, refl, ℕ, zero, suc, ◌+◌, ◌<◌, Bool, true, false, cond, List, [], ◌∷◌, length, take, Some, arith}
use Rattle.std.specs.Prelude.{slice_set}
use Rattle.std.specs.List.{slice_get}
use Rattle.node_core.specs.Serving.{replayed_all}
use Rattle.world.specs.declared.event.Event.TheVariants.{Restart}
use Rattle.world.specs.declared.state.ServerState.{ServerState}
use Rattle.world.specs.Worlds.{store_of}
use Rattle.world.specs.Events as events
use Rattle.world.specs.Events.{up_with}
use Rattle.world.specs.Histories.{Trace, happens, run}
use Rattle.world.specs.Law.{closing, ended}
use Rattle.mds_base.specs.Lists.{Each}
use Rattle.world.proofs.Ends.{closing_if, same_state, above}
use Rattle.mds_base.proofs.Grow.{set_here, set_apart, length_set}

-- a server once those that were down came up again
abbrev pub closed_as : Bool → ServerState → Bool → ServerState
closed_as keep state true = state
closed_as keep state false = up_with state (replayed_all (store_of state) (take (cond keep (length state.doubt) 0) state.doubt))

abbrev pub closed_state : Bool → ServerState → ServerState
closed_state keep state = closed_as keep state state.up

-- the servers after those restarts
pub record ClosesAs (keep : ℕ → Bool) (before after : List ServerState) : Type 0 where
  pub count : length after ≡ length before
  pub each : Each before (λ s state. slice_get after s ≡ Some (closed_state (keep s) state))

-- the servers from number s on are these
record IsFrom (servers : List ServerState) (s : ℕ) (states : List ServerState) : Type 0 where
  pub rest : (k : ℕ) → slice_get servers (s + k) ≡ slice_get states k

-- the servers after the restarts from number s on
record ClosesFrom (keep : ℕ → Bool) (s : ℕ) (states before after : List ServerState) : Type 0 where
  pub count : length after ≡ length before
  pub front : (j : ℕ) → j < s → slice_get after j ≡ slice_get before j
  pub each : (k : ℕ) (state : ServerState) → slice_get states k ≡ Some state → slice_get after (s + k) ≡ Some (closed_state (keep (s + k)) state)

from_next : (servers : List ServerState) (s : ℕ) (state : ServerState) (states : List ServerState) → IsFrom servers s (state ∷ states) → IsFrom servers (s + 1) states
from_next servers s state states f = record {
  rest = λ k. let z : (s + 1) + k ≡ s + suc k = omega arith in ap (slice_get servers) z ∙ f.rest (suc k);
}

apart_from : (j s : ℕ) → j < s → j ≡ s → ⊥
apart_from j s lt e = absurd (omega (arith, e))

from_set : (servers : List ServerState) (s : ℕ) (state new : ServerState) (states : List ServerState) → IsFrom servers s (state ∷ states) → IsFrom (slice_set servers s new) (s + 1) states
from_set servers s state new states f = record {
  rest = λ k.
      let z : (s + 1) + k ≡ s + suc k = omega arith in
      set_apart servers s ((s + 1) + k) new (above s k) ∙ ap (slice_get servers) z ∙ f.rest (suc k);
}

-- one server more, which came out so
one_more : (keep : ℕ → Bool) (s : ℕ) (state : ServerState) (states before middle after : List ServerState) → length middle ≡ length before
    → ((j : ℕ) → j < s → slice_get middle j ≡ slice_get before j) → slice_get middle s ≡ Some (closed_state (keep s) state)
    → ClosesFrom keep (s + 1) states middle after → ClosesFrom keep s (state ∷ states) before after
one_more keep s state states before middle after count front here c = record {
  count = c.count ∙ count;
  front = λ j lt. c.front j (omega (arith, lt)) ∙ front j lt;
  each = one_each;
} where
  one_each : (k : ℕ) (x : ServerState) → slice_get (state ∷ states) k ≡ Some x → slice_get after (s + k) ≡ Some (closed_state (keep (s + k)) x)
  one_each zero x e =
      let z : s ≡ s + 0 = omega arith in
      let lt : s < s + 1 = omega arith in
      let same : state ≡ x = same_state e in
      subst (λ j. slice_get after j ≡ Some (closed_state (keep j) x)) z (c.front s lt ∙ here ∙ ap (λ y. Some (closed_state (keep s) y)) same)
  one_each (suc k) x e =
      let z : (s + 1) + k ≡ s + suc k = omega arith in
      subst (λ j. slice_get after j ≡ Some (closed_state (keep j) x)) z (c.each k x e)

-- the servers where the one at s was restarted
restarts : (t : Trace) (s kept : ℕ) (state : ServerState) → slice_get t.world.servers s ≡ Some state
    → (happens t (Restart s kept)).world.servers ≡ slice_set t.world.servers s (up_with state (replayed_all (store_of state) (take kept state.doubt)))
restarts t s kept state is = ap (λ o. (events.after_restart t.world s kept o).servers) is

closes_one : (keep : ℕ → Bool) (state : ServerState) (states : List ServerState) (s : ℕ) (t : Trace) → IsFrom t.world.servers s (state ∷ states) → (b : Bool) → state.up ≡ b
    → ((t' : Trace) → IsFrom t'.world.servers (s + 1) states → ClosesFrom keep (s + 1) states t'.world.servers (run t' (closing keep states (s + 1))).world.servers)
    → ClosesFrom keep s (state ∷ states) t.world.servers (run t (closing_if keep state states s b)).world.servers
closes_one keep state states s t f true up more =
    let z : s ≡ s + 0 = omega arith in
    let here : slice_get t.world.servers s ≡ Some state = ap (slice_get t.world.servers) z ∙ f.rest 0 in
    one_more keep s state states t.world.servers t.world.servers _ refl (λ j lt. refl) (here ∙ ap (λ b. Some (closed_as (keep s) state b)) (sym up))
    (more t (from_next t.world.servers s state states f))
closes_one keep state states s t f false up more =
    let z : s ≡ s + 0 = omega arith in
    let here : slice_get t.world.servers s ≡ Some state = ap (slice_get t.world.servers) z ∙ f.rest 0 in
    let kept : ℕ = cond (keep s) (length state.doubt) 0 in
    let new : ServerState = closed_as (keep s) state false in
    let t' : Trace = happens t (Restart s kept) in
    let set : t'.world.servers ≡ slice_set t.world.servers s new = restarts t s kept state here in
    one_more keep s state states t.world.servers t'.world.servers _
    (ap length set ∙ length_set t.world.servers s new)
    (λ j lt. ap (λ xs. slice_get xs j) set ∙ set_apart t.world.servers s j new (apart_from j s lt))
    (ap (λ xs. slice_get xs s) set ∙ set_here t.world.servers s state new here ∙ ap (λ b. Some (closed_as (keep s) state b)) (sym up))
    (more t' (subst (λ xs. IsFrom xs (s + 1) states) (sym set) (from_set t.world.servers s state new states f)))

closes_from : (keep : ℕ → Bool) (states : List ServerState) (s : ℕ) (t : Trace) → IsFrom t.world.servers s states → ClosesFrom keep s states t.world.servers (run t (closing keep states s)).world.servers
closes_from keep [] s t f = record { count = refl; front = λ j lt. refl; each = λ k state e. cc }
closes_from keep (state ∷ states) s t f = closes_one keep state states s t f state.up refl (closes_from keep states (s + 1))

pub closes_as : (t : Trace) (keep : ℕ → Bool) → ClosesAs keep t.world.servers (ended t keep).world.servers
closes_as t keep =
    let c : ClosesFrom keep 0 t.world.servers t.world.servers (ended t keep).world.servers =
    closes_from keep t.world.servers 0 t (record { rest = λ k. let z : 0 + k ≡ k = omega arith in ap (slice_get t.world.servers) z }) in
    record {
      count = c.count;
      each = record {
        at = λ k state e. let z : 0 + k ≡ k = omega arith in subst (λ j. slice_get (ended t keep).world.servers j ≡ Some (closed_state (keep j) state)) z (c.each k state e);
      };
    }

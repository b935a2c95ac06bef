-- A restart is a list of micro-steps, whether it keeps the records in doubt or not.
use Rattle.std.proofs.Common.{◌≡◌, ◌∙◌, sym, ap, subst, refl, ℕ, ◌==◌, not, Bool, true, false, List, [], ◌∷◌, length, take, Option, Some, None, inl, inr}
use Rattle.std.specs.Prelude.{◌⊎◌, ◌||◌, slice_set}
use Rattle.std.specs.List.{slice_get}
use Rattle.std.proofs.Math.Seq.{take-length}
use Rattle.std.proofs.lemmas.Bool.{and_parts, not-true, eqb-true, or_cases}
use Rattle.records.specs.declared.record.Record.{Record}
use Rattle.records.specs.declared.record.Record.TheVariants.{Head, Opened, Begin, Install, End, Served}
use Rattle.node_core.specs.Nodes.{NodeAndRows, part_for}
use Rattle.node_core.specs.Rules.{asked_of}
use Rattle.node_core.specs.Serving.{carried, carried_at, may_follow, replayed_as, replayed_all}
use Rattle.world.specs.declared.state.ServerState.{ServerState}
use Rattle.world.specs.Worlds.{store_of}
use Rattle.world.specs.Events as events
use Rattle.world.specs.Events.{up_with, can_restart}
use Rattle.world.specs.Histories as past
use Rattle.world.specs.Histories.{History, Trace, changed, weighed}
use Rattle.mds_base.proofs.Grow.{set_here, set_twice}
use Rattle.world.proofs.Invariant.{Inv, Follows}
use Rattle.world.proofs.Steps.{Micro, Redo, Up, MayRedo, does, noted_state}
use Rattle.world.proofs.Keeps.{keeps}
use Rattle.world.proofs.Reaches.{Reaches, here, step, over, goes_on}
use Rattle.world.proofs.Serves.{is_store}
use Rattle.world.proofs.Outcomes.{owns_of, may_follow_true}

-- the run once these records were kept and the server is up
abbrev restarted_at : Trace → ℕ → ServerState → NodeAndRows → List Record → History → Trace
restarted_at t s state store items h = record {
  world = record t.world { servers = slice_set t.world.servers s (up_with state (replayed_all store items)) };
  past = past.replayed_all h store items;
}

-- the same, where the first record was replayed so
abbrev after_first : Trace → ℕ → ServerState → Record → List Record → Bool → Trace
after_first t s state item items follows = restarted_at t s state (replayed_as (store_of state) item follows) items (past.replayed_one t.past item follows)

-- a restart that keeps all records in doubt
keeps_doubt : (items : List Record) (t : Trace) → Inv t → (s : ℕ) (state : ServerState) → slice_get t.world.servers s ≡ Some state → state.up ≡ false → state.doubt ≡ items → Follows t.world.setup.servers t.world.sent s (store_of state) items
    → Reaches t (restarted_at t s state (store_of state) items t.past)
keeps_doubt [] t inv s state is down doubt follows = step (Up s state) is here
keeps_doubt (Served client seq part call said ∷ items) t inv s state is down doubt follows =
    let may = follows.0.may in
    let dir : ℕ = follows.0.dir in
    let name : List ℕ = follows.0.name in
    let own = is_store t inv s state is in
    let owner = owns_of (store_of state) dir (part_for state.node dir name) t.world.setup.servers s may.owner own.servers own.server in
    let can : may_follow (store_of state) (Served client seq part call said) ≡ true =
    may_follow_true (store_of state) client seq part call said dir name may.asked owner may.free may.newer may.numbers follows.0.said' follows.0.part' in
    let redo : Micro = Redo s state client seq call dir name part said items in
    let may' : MayRedo t s state client seq call dir name part said items = record { is = is; down = down; first = doubt; asked = may.asked } in
    let next : ServerState = noted_state state client seq call dir name items in
    let t' : Trace = does t redo in
    let rest : Reaches t' (restarted_at t' s next (store_of next) items t'.past) =
    keeps_doubt items t' (keeps redo t inv may') s next (set_here t.world.servers s state next is) down refl
    (subst (λ a. Follows t.world.setup.servers t.world.sent s (carried_at (store_of state) client seq call a) items) may.asked follows.1) in
    let once : Reaches t (restarted_at t s state (carried (store_of state) client seq call dir name) items t'.past) =
    subst (λ servers. Reaches t (record { world = record t.world { servers = servers }; past = past.replayed_all t'.past (store_of next) items }))
    (set_twice t.world.servers s next (up_with next (replayed_all (store_of next) items))) (step redo may' rest) in
    let at_call : Reaches t (restarted_at t s state (carried_at (store_of state) client seq call (asked_of call)) items t'.past) =
    subst (λ a. Reaches t (restarted_at t s state (carried_at (store_of state) client seq call a) items t'.past)) (sym may.asked) once in
    let with_said : Reaches t (restarted_at t s state (carried_at (store_of state) client seq call (asked_of call)) items (changed t.past client seq call said)) =
    subst (λ f. Reaches t (restarted_at t s state (carried_at (store_of state) client seq call (asked_of call)) items (changed t.past client seq call f))) (sym follows.0.said') at_call in
    subst (λ b. Reaches t (after_first t s state (Served client seq part call said) items b)) (sym can) with_said
keeps_doubt (Opened ∷ items) t inv s state is down doubt follows = absurd follows.0
keeps_doubt (Begin dir part depth ∷ items) t inv s state is down doubt follows = absurd follows.0
keeps_doubt (Install dir part depth bitmap sessions rows ∷ items) t inv s state is down doubt follows = absurd follows.0
keeps_doubt (End dir part depth ∷ items) t inv s state is down doubt follows = absurd follows.0
keeps_doubt (Head format servers server threshold ∷ items) t inv s state is down doubt follows = absurd follows.0

-- a restart keeps all of them, or none
keeps_some : (t : Trace) → Inv t → (s kept : ℕ) (state : ServerState) → slice_get t.world.servers s ≡ Some state → state.up ≡ false → ((kept == 0) ≡ true) ⊎ ((kept == length state.doubt) ≡ true)
    → Reaches t (restarted_at t s state (store_of state) (take kept state.doubt) t.past)
keeps_some t inv s kept state is down choice = elim choice [
  | inl none ↦
      let items : take kept state.doubt ≡ [] = ap (λ n. take n state.doubt) (eqb-true kept 0 none) in
      subst (λ xs. Reaches t (restarted_at t s state (store_of state) xs t.past)) (sym items) (step (Up s state) is here)
  | inr whole ↦
      let items : take kept state.doubt ≡ state.doubt = ap (λ n. take n state.doubt) (eqb-true kept (length state.doubt) whole) ∙ take-length state.doubt in
      subst (λ xs. Reaches t (restarted_at t s state (store_of state) xs t.past)) (sym items)
      (keeps_doubt state.doubt t inv s state is down refl (inv.doubt.doubt_follows.at s state is))
]

pub restart_event : (t : Trace) → Inv t → (s kept : ℕ) (o : Option ServerState) → slice_get t.world.servers s ≡ o → can_restart o kept ≡ true
    → Reaches t (record { world = events.after_restart t.world s kept o; past = weighed 1 (past.after_restart t.past kept o) })
restart_event t inv s kept None is can = cc
restart_event t inv s kept (Some state) is can =
    let c = and_parts (not state.up) ((kept == 0) || (kept == length state.doubt)) can in
    goes_on (keeps_some t inv s kept state is (not-true state.up c.0) (or_cases (kept == 0) (kept == length state.doubt) c.1)) (over 1)

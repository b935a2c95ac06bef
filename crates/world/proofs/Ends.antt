-- How a run ends: restarts of the servers that are down are enabled, bring all servers up, and lose nothing that was made.
use Rattle.std.proofs.Common.{◌≡◌, ◌∙◌, sym, ap, subst, refl, ℕ, zero, suc, ◌+◌, ◌==◌, ◌<◌, not, Bool, true, false, cond, List, [], ◌∷◌, ◌++◌, length, take, Option, Some, None, inl, inr, arith, append_assoc}
use Rattle.std.specs.Prelude.{◌⊎◌, ◌||◌, slice_set}
use Rattle.std.specs.List.{slice_get}
use Rattle.std.proofs.lemmas.List.{append-nil}
use Rattle.std.proofs.lemmas.Bool.{and_from, or_left, or_right, eq-eqb}
use Rattle.records.specs.declared.record.Record.{Record}
use Rattle.records.specs.declared.record.Record.TheVariants.{Head, Opened, Begin, Install, End, Served}
use Rattle.node_core.specs.Nodes.{NodeAndRows}
use Rattle.node_core.specs.Serving.{ServedV, may_follow, replayed, replayed_all, restarted}
use Rattle.world.specs.declared.event.Event.{Event}
use Rattle.world.specs.declared.event.Event.TheVariants.{Issue, Resend, Serve, Miss, Take, Cached, Hint, Remind, Stop, Restart, Tick, GiveUp, Verdict}
use Rattle.world.specs.declared.event.ServeEnd.{ServeEnd}
use Rattle.world.specs.declared.event.ServeEnd.TheVariants as ends
use Rattle.world.specs.declared.state.ServerState.{ServerState}
use Rattle.world.specs.Worlds.{WorldV, store_of}
use Rattle.world.specs.Events as events
use Rattle.world.specs.Events.{enabled, step, all_enabled, can_restart, up_with}
use Rattle.world.specs.Histories as past
use Rattle.world.specs.Histories.{History, Trace, MadeV, happens, run, weighed}
use Rattle.world.specs.Law.{closing}
use Rattle.mds_base.proofs.Grow.{set_here, set_apart}
use Rattle.world.proofs.Choices.{nat_or_apart}

-- The setup stays

serve_setup : (w : WorldV) (s : ℕ) (state : ServerState) (done : ServedV) (how : ServeEnd) → (events.after_serve_of w s state done how).setup ≡ w.setup
serve_setup w s state done ends.Done = refl
serve_setup w s state done ends.Stop = refl

option_setup : {X : Type 0} (w : WorldV) (f : Option X → WorldV) (o : Option X) → (f None).setup ≡ w.setup → ((x : X) → (f (Some x)).setup ≡ w.setup) → (f o).setup ≡ w.setup
option_setup w f None none some = none
option_setup w f (Some x) none some = some x

pub step_setup : (w : WorldV) (event : Event) → (step w event).setup ≡ w.setup
step_setup w (Issue client call) = option_setup w (events.after_issue w client call) (events.seat_at w.clients client) refl (λ seat. refl)
step_setup w (Resend client) = option_setup w (events.after_resend w client) (events.seat_at w.clients client) refl (λ seat. option_setup w (events.after_resend_of w client seat) seat.client.pending refl (λ pending. refl))
step_setup w (Serve s places how) = option_setup w (events.after_serve w s places how) (slice_get w.servers s) refl (λ state. serve_setup w s state _ how)
step_setup w (Miss place) = refl
step_setup w (Take client place) = option_setup w (events.after_take w client (slice_get w.sent place)) (events.seat_at w.clients client) refl (λ seat. option_setup w (events.after_take_of w client seat) (slice_get w.sent place) refl (λ msg. refl))
step_setup w (Cached client call) = refl
step_setup w (Hint client dir bits) = option_setup w (events.after_hint w client dir bits) (events.seat_at w.clients client) refl (λ seat. refl)
step_setup w (Remind s) = refl
step_setup w (Stop s cause) = option_setup w (events.after_stop w s) (slice_get w.servers s) refl (λ state. refl)
step_setup w (Restart s kept) = option_setup w (events.after_restart w s kept) (slice_get w.servers s) refl (λ state. refl)
step_setup w (Tick by) = refl
step_setup w (GiveUp client) = option_setup w (events.after_give_up w client) (events.seat_at w.clients client) refl (λ seat. refl)
step_setup w (Verdict client verdict) = refl

pub run_setup : (events' : List Event) (t : Trace) → (run t events').world.setup ≡ t.world.setup
run_setup [] t = refl
run_setup (event ∷ more) t = run_setup more (happens t event) ∙ step_setup t.world event

-- What was made stays

pub record GrowsTo (a b : History) : Type 0 where
  pub start : b.start ≡ a.start
  pub more : List MadeV
  pub made : b.made ≡ a.made ++ more

pub stays_so : (a : History) → GrowsTo a a
stays_so a = record { start = refl; more = []; made = sym (append-nil a.made) }

pub grows_on : (a b c : History) → GrowsTo a b → GrowsTo b c → GrowsTo a c
grows_on a b c f g = record {
  start = g.start ∙ f.start;
  more = f.more ++ g.more;
  made = g.made ∙ ap (λ m. m ++ g.more) f.made ∙ append_assoc a.made f.more g.more;
}

replayed_grows : (h : History) (item : Record) (b : Bool) → GrowsTo h (past.replayed_one h item b)
replayed_grows h (Served client seq part call said) true = record { start = refl; more = _; made = refl }
replayed_grows h (Served client seq part call said) false = stays_so h
replayed_grows h Opened b = stays_so h
replayed_grows h (Begin dir part depth) b = stays_so h
replayed_grows h (Install dir part depth bitmap sessions rows) b = stays_so h
replayed_grows h (End dir part depth) b = stays_so h
replayed_grows h (Head format servers server threshold) b = stays_so h

replays_grow : (items : List Record) (h : History) (store : NodeAndRows) → GrowsTo h (past.replayed_all h store items)
replays_grow [] h store = stays_so h
replays_grow (item ∷ items) h store =
    grows_on h (past.replayed_one h item (may_follow store item)) _ (replayed_grows h item (may_follow store item)) (replays_grow items (past.replayed_one h item (may_follow store item)) (replayed store item))

weighed_grows : (a b : History) → GrowsTo a b → GrowsTo a (weighed 1 b)
weighed_grows a b g = record { start = g.start; more = g.more; made = g.made }

restart_grows : (h : History) (kept : ℕ) (o : Option ServerState) → GrowsTo h (past.after_restart h kept o)
restart_grows h kept None = stays_so h
restart_grows h kept (Some state) = replays_grow (take kept state.doubt) h (store_of state)

-- The restarts at the end

-- the servers from number s on are these, and those before it are up
pub record Closes (t : Trace) (s : ℕ) (states : List ServerState) : Type 0 where
  pub rest : (k : ℕ) → slice_get t.world.servers (s + k) ≡ slice_get states k
  pub before : (j : ℕ) (x : ServerState) → j < s → slice_get t.world.servers j ≡ Some x → x.up ≡ true

-- the restarts where the first server is up, and where it is down
abbrev pub closing_if : (ℕ → Bool) → ServerState → List ServerState → ℕ → Bool → List Event
closing_if keep state states s up = cond up (closing keep states (s + 1)) (Restart s (cond (keep s) (length state.doubt) 0) ∷ closing keep states (s + 1))

pub record ClosedBy (t : Trace) (events' : List Event) : Type 0 where
  pub enabled : all_enabled t.world events' ≡ true
  pub up : (j : ℕ) (x : ServerState) → slice_get (run t events').world.servers j ≡ Some x → x.up ≡ true
  pub grows : GrowsTo t.past (run t events').past

count_of : (b : Bool) (n : ℕ) → ((cond b n 0 == 0) || (cond b n 0 == n)) ≡ true
count_of true n = or_right (n == 0) (n == n) (eq-eqb n n refl)
count_of false n = or_left (0 == 0) (0 == n) (eq-eqb 0 0 refl)

can : (keep : ℕ → Bool) (s : ℕ) (o : Option ServerState) (state : ServerState) → o ≡ Some state → state.up ≡ false → can_restart o (cond (keep s) (length state.doubt) 0) ≡ true
can keep s o state is down =
    subst (λ x. can_restart x (cond (keep s) (length state.doubt) 0) ≡ true) (sym is)
    (and_from (not state.up) _ (ap not down) (count_of (keep s) (length state.doubt)))

pub same_state : {x y : ServerState} → Some x ≡ Some y → x ≡ y
same_state e = cc

below_or_from : (j s : ℕ) → (j < s) ⊎ ((k : ℕ) × (j ≡ s + k))
below_or_from j zero = inr (j, omega arith)
below_or_from zero (suc s) = inl (omega arith)
below_or_from (suc j) (suc s) = elim (below_or_from j s) [
  | inl lt ↦ inl (omega (arith, lt))
  | inr k ↦ inr (k.0, (let e = k.1 in omega (arith, e)))
]

pub above : (s k : ℕ) → (s + 1) + k ≡ s → ⊥
above s k e = absurd (omega (arith, e))

-- servers in which this one was set to one that is up
abbrev SetUp : Trace → Trace → ℕ → Type 0
SetUp t t' s = (new : ServerState) × (t'.world.servers ≡ slice_set t.world.servers s new) × (new.up ≡ true)

restart_sets : (t : Trace) (s kept : ℕ) (state : ServerState) → slice_get t.world.servers s ≡ Some state → SetUp t (happens t (Restart s kept)) s
restart_sets t s kept state is =
    (up_with state (restarted (replayed_all (store_of state) (take kept state.doubt)) t.world.now), ap (λ o. (events.after_restart t.world s kept o).servers) is, refl)

closing_one : (keep : ℕ → Bool) (state : ServerState) (states : List ServerState) (s : ℕ) (t : Trace) → slice_get t.world.servers s ≡ Some state → (b : Bool) → state.up ≡ b
    → (state.up ≡ true → ClosedBy t (closing keep states (s + 1))) → ((t' : Trace) → SetUp t t' s → ClosedBy t' (closing keep states (s + 1))) → ClosedBy t (closing_if keep state states s b)
closing_one keep state states s t here true up first second = first up
closing_one keep state states s t here false down first second =
    let kept : ℕ = cond (keep s) (length state.doubt) 0 in
    let t' : Trace = happens t (Restart s kept) in
    let r : ClosedBy t' (closing keep states (s + 1)) = second t' (restart_sets t s kept state here) in
    record {
      enabled = and_from (enabled t.world (Restart s kept)) (all_enabled t'.world (closing keep states (s + 1))) (can keep s (slice_get t.world.servers s) state here down) r.enabled;
      up = r.up;
      grows = grows_on t.past t'.past (run t' (closing keep states (s + 1))).past (weighed_grows t.past (past.after_restart t.past kept (slice_get t.world.servers s)) (restart_grows t.past kept (slice_get t.world.servers s))) r.grows;
    }

pub closing_ends : (keep : ℕ → Bool) (states : List ServerState) (s : ℕ) (t : Trace) → Closes t s states → ClosedBy t (closing keep states s)
closing_ends keep [] s t c = record {
  enabled = refl;
  up = λ j x at. elim (below_or_from j s) [
    | inl lt ↦ c.before j x lt at
    | inr k ↦ let n : slice_get t.world.servers j ≡ None = ap (slice_get t.world.servers) k.1 ∙ c.rest k.0 in cc
  ];
  grows = stays_so t.past;
}
closing_ends keep (state ∷ states) s t c =
    let here : slice_get t.world.servers s ≡ Some state = let z : s ≡ s + 0 = omega arith in ap (slice_get t.world.servers) z ∙ c.rest 0 in
    closing_one keep state states s t here state.up refl
    (λ up. closing_ends keep states (s + 1) t (record {
      rest = λ k. let z : (s + 1) + k ≡ s + suc k = omega arith in ap (slice_get t.world.servers) z ∙ c.rest (suc k);
      before = λ j x lt at. elim (nat_or_apart j s) [
        | inl e ↦ ap (λ (y : ServerState). y.up) (same_state (sym at ∙ ap (slice_get t.world.servers) e ∙ here)) ∙ up
        | inr e ↦ c.before j x (omega (arith, e)) at
      ];
    }))
    (λ t' servers. closing_ends keep states (s + 1) t' (record {
      rest = λ k.
          let z : (s + 1) + k ≡ s + suc k = omega arith in
          let apart : ((s + 1) + k ≡ s → ⊥) = above s k in
          ap (λ xs. slice_get xs ((s + 1) + k)) servers.1 ∙ set_apart t.world.servers s ((s + 1) + k) servers.0 apart ∙ ap (slice_get t.world.servers) z ∙ c.rest (suc k);
      before = λ j x lt at. elim (nat_or_apart j s) [
        | inl e ↦ ap (λ (y : ServerState). y.up) (same_state (sym at ∙ ap (slice_get t'.world.servers) e ∙ ap (λ xs. slice_get xs s) servers.1 ∙ set_here t.world.servers s state servers.0 here)) ∙ servers.2
        | inr e ↦ c.before j x (omega (arith, e)) (sym (ap (λ xs. slice_get xs j) servers.1 ∙ set_apart t.world.servers s j servers.0 e) ∙ at)
      ];
    }))

-- Servers that go down, come up, or keep a record in doubt keep the invariant; so do ticks.
use Rattle.std.proofs.Common.{◌≡◌, ◌∙◌, sym, ap, subst, refl, ℕ, Bool, true, false, List, [], ◌∷◌, Some, inl, inr, arith}
use Rattle.std.specs.Prelude.{slice_set}
use Rattle.std.specs.List.{slice_get}
use mathlib.Core.Path.{fun_ext}
use Rattle.mds_base.specs.declared.call.Call.{Call}
use Rattle.mds_base.specs.declared.reply.Final.{Final}
use Rattle.records.specs.declared.record.Record.{Record}
use Rattle.records.specs.declared.record.Record.TheVariants.{Served}
use Rattle.node_core.specs.Nodes.{NodeAndRows}
use Rattle.node_core.specs.Serving.{carried, carried_at}
use Rattle.world.specs.declared.state.ServerState.{ServerState}
use Rattle.world.specs.Worlds.{store_of}
use Rattle.world.specs.Histories.{Trace}
use Rattle.mds_base.proofs.Grow.{each_map, each_set, length_set}
use Rattle.world.proofs.Choices.{nat_or_apart}
use Rattle.world.proofs.Stores.{store_was, store_here, store_apart}
use Rattle.world.proofs.Tables.{one_place}
use Rattle.world.proofs.Keepers.{keepers, KeepsBits}
use Rattle.world.proofs.Invariant.{Inv, RowsKept, SessionsKept, NumbersKept, Follows, MayCarry, store_in}
use Rattle.world.proofs.Steps.{with_server, note_at, MayNote, MayRedo, MayDown, does, Tick, Count}
use Rattle.world.proofs.NoteRest.{note_keeps}

-- a server's state is set to one with the same store
module _ (t : Trace) (inv : Inv t) (s : ℕ) (state new : ServerState) (is : slice_get t.world.servers s ≡ Some state) (same : store_of new ≡ store_of state) where
  same_stores : store_in t.world.servers ≡ store_in (slice_set t.world.servers s new)
  same_stores = fun_ext (λ k. elim (nat_or_apart k s) [
    | inl e ↦ subst (λ j. store_in t.world.servers j ≡ store_in (slice_set t.world.servers s new) j) (sym e)
        (store_was t.world.servers s state is ∙ sym same ∙ sym (store_here t.world.servers s state new is))
    | inr e ↦ sym (store_apart t.world.servers s new k e)
  ])

  server_keeps : (new.up ≡ true → new.doubt ≡ []) → Follows t.world.setup.servers t.world.sent s (store_of new) new.doubt → Inv (with_server t s new)
  server_keeps settled follows = let old = inv.sizes.servers_are.at s state is in record {
    sizes = record {
      some_servers = inv.sizes.some_servers;
      server_count = length_set t.world.servers s new ∙ inv.sizes.server_count;
      servers_are = each_set s new inv.sizes.servers_are (record {
        server = ap (λ (v : NodeAndRows). v.node.server) same ∙ old.server;
        setup' = ap (λ (v : NodeAndRows). v.node.setup) same ∙ old.setup';
      });
      clients_are = inv.sizes.clients_are;
    };
    rows = subst (λ v. RowsKept keepers t.world.setup.servers v t.past.entries) same_stores inv.rows;
    calls = inv.calls;
    made = inv.made;
    legal = inv.legal;
    sessions = subst (λ v. SessionsKept keepers t.world.setup.servers v t.past.made) same_stores inv.sessions;
    messages = inv.messages;
    answers = inv.answers;
    numbers = subst (λ v. NumbersKept t.world.setup.servers v t.past.made) same_stores inv.numbers;
    doubt = record {
      doubt_down = each_set s new inv.doubt.doubt_down settled;
      doubt_follows = each_set s new inv.doubt.doubt_follows follows;
    };
    bits = record {
      own_kept = each_set s new inv.bits.own_kept (subst (λ (v : NodeAndRows). KeepsBits keepers v.node) (sym same) (inv.bits.own_kept.at s state is));
      bits_kept = inv.bits.bits_kept;
      sent_kept = inv.bits.sent_kept;
    };
  }

pub down_keeps : (t : Trace) → Inv t → (s : ℕ) (state : ServerState) (doubt : List Record) → MayDown t s state doubt → Inv (with_server t s (record { node = state.node; rows = state.rows; up = false; doubt = doubt }))
down_keeps t inv s state doubt may =
    server_keeps t inv s state (record { node = state.node; rows = state.rows; up = false; doubt = doubt }) may.is refl (λ e. cc) may.follows

pub up_keeps : (t : Trace) → Inv t → (s : ℕ) (state : ServerState) → slice_get t.world.servers s ≡ Some state → Inv (with_server t s (record { node = state.node; rows = state.rows; up = true; doubt = [] }))
up_keeps t inv s state is =
    server_keeps t inv s state (record { node = state.node; rows = state.rows; up = true; doubt = [] }) is refl (λ e. refl) tt

pub noted_keeps : (t : Trace) → Inv t → (s : ℕ) (state : ServerState) (client seq : ℕ) (call : Call) (dir : ℕ) (name : List ℕ) → MayNote t s state client seq call dir name → Inv (note_at t s state client seq call dir name state.doubt)
noted_keeps t inv s state client seq call dir name may =
    let none : state.doubt ≡ [] = inv.doubt.doubt_down.at s state may.is may.up in
    note_keeps t inv s state may.is client seq call dir name may.may state.doubt (λ e. none)
    (subst (Follows t.world.setup.servers t.world.sent s (carried (store_of state) client seq call dir name)) (sym none) tt)

not_up : (b : Bool) → b ≡ false → b ≡ true → ⊥
not_up b e f = cc

pub redo_keeps : (t : Trace) → Inv t → (s : ℕ) (state : ServerState) (client seq : ℕ) (call : Call) (dir : ℕ) (name : List ℕ) (part : ℕ) (said : Final) (items : List Record)
    → MayRedo t s state client seq call dir name part said items → Inv (note_at t s state client seq call dir name items)
redo_keeps t inv s state client seq call dir name part said items may =
    let follows : Follows t.world.setup.servers t.world.sent s (store_of state) (Served client seq part call said ∷ items) =
    subst (Follows t.world.setup.servers t.world.sent s (store_of state)) may.first (inv.doubt.doubt_follows.at s state may.is) in
    let one = one_place call follows.0.dir dir follows.0.name name follows.0.may.asked may.asked in
    let at_dir : MayCarry t.world.setup.servers t.world.sent s (store_of state) client seq call dir follows.0.name =
    subst (λ d. MayCarry t.world.setup.servers t.world.sent s (store_of state) client seq call d follows.0.name) one.0 follows.0.may in
    let carry : MayCarry t.world.setup.servers t.world.sent s (store_of state) client seq call dir name =
    subst (λ n. MayCarry t.world.setup.servers t.world.sent s (store_of state) client seq call dir n) one.1 at_dir in
    let rest : Follows t.world.setup.servers t.world.sent s (carried (store_of state) client seq call dir name) items =
    subst (λ a. Follows t.world.setup.servers t.world.sent s (carried_at (store_of state) client seq call a) items) may.asked follows.1 in
    note_keeps t inv s state may.is client seq call dir name carry items (λ e. absurd (not_up state.up may.down e)) rest

pub tick_keeps : (t : Trace) → Inv t → (by : ℕ) → Inv (does t (Tick by))
tick_keeps t inv by = record {
  sizes = inv.sizes;
  rows = inv.rows;
  calls = inv.calls;
  made = inv.made;
  legal = inv.legal;
  sessions = inv.sessions;
  messages = inv.messages;
  answers = inv.answers;
  numbers = inv.numbers;
  doubt = inv.doubt;
  bits = inv.bits;
}

pub count_keeps : (by : ℕ) (t : Trace) → Inv t → Inv (does t (Count by))
count_keeps by t inv = record {
  sizes = inv.sizes;
  rows = inv.rows;
  calls = record {
    issued_below = each_map inv.calls.issued_below (λ j i n. record { from_one = n.from_one; below = n.below; now = (let m = n.now in omega (arith, m)) });
    issued_once = inv.calls.issued_once;
    open_issued = inv.calls.open_issued;
    open_unanswered = inv.calls.open_unanswered;
    answered_below = inv.calls.answered_below;
    answered_once = inv.calls.answered_once;
  };
  made = record {
    made_issued = inv.made.made_issued;
    made_now = each_map inv.made.made_now (λ k e n. omega (arith, n));
    made_kind = inv.made.made_kind;
    looked_sent = inv.made.looked_sent;
    looked_once = inv.made.looked_once;
    change_once = inv.made.change_once;
  };
  legal = inv.legal;
  sessions = inv.sessions;
  messages = inv.messages;
  answers = inv.answers;
  numbers = inv.numbers;
  doubt = inv.doubt;
  bits = inv.bits;
}

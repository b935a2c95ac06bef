-- The first message that waits for a server that is up.
use Rattle.std.proofs.Common.{◌≡◌, ◌∙◌, sym, ap, subst, ℕ, ◌+◌, ◌<◌, ◌≤◌, min, refl, Bool, true, false, if◌then◌else◌, List, [], ◌∷◌, length, Option, Some, None, inl, inr, arith}
use Rattle.std.specs.Prelude.{◌⊎◌, IfSome}
use Rattle.std.specs.List.{list_any, slice_get}
use Rattle.std.specs.BTreeMap.{is_at}
use Rattle.std.proofs.lemmas.Option.{same_Some, slice_get_past, slice_get_within}
use Rattle.node_store.specs.Store.{Store}
use Rattle.std.specs.BTreeSet as sorted
use Rattle.std.specs.BTreeSet.{BTreeSet, IsKeyRangeOf, IsKeyInRange}
use Rattle.std.specs.declared.ops.Bound.TheVariants.{Included, Unbounded}
use Rattle.std.specs.FinSet as set
use Rattle.std.specs.Ordering.{is_gt}
use Rattle.std.proofs.lemmas.Bool.Decides.{nat_tests}
use mathlib.Core.Bool.{true≢false}
use Rattle.simulation.specs.Shows.{SimulationV, IsDue, IsFirst, waiting_cmp, due_one, is_up, store_is_up, earlier}
use Rattle.simulation.proofs.KeySets.{waiting_total, number_or_apart}

-- the first key from a server's least one on

same_server : (server message : ℕ) → is_gt (waiting_cmp (server, 0) (server, message)) ≡ false
same_server server message = grind (arith, nat_tests)

order : (a b c d : ℕ) → is_gt (waiting_cmp (a, b) (c, d)) ≡ false → (a < c) ⊎ ((a ≡ c) × (b ≤ d))
order a b c d e = grind (arith, nat_tests)

abbrev Waits : List (ℕ × ℕ) → ℕ → ℕ → Type 0
Waits keys server message = set.contains (set.from_list {R = waiting_cmp} keys) (server, message) ≡ true

module _ (s : BTreeSet (ℕ × ℕ)) (server : ℕ) (r : List (ℕ × ℕ)) (range : IsKeyRangeOf waiting_cmp (Included (server, 0)) Unbounded s r) where
  here : (a b : ℕ) → Waits s.keys a b → sorted.contains waiting_cmp s (a, b) ≡ true
  here a b waits = sym (set.contains-from_list waiting_total s.keys (a, b)) ∙ waits

  pub none_for : r ≡ [] → IsFirst (Waits s.keys server) None
  none_for none message waits =
      let t = here server message waits in
      let f : sorted.contains waiting_cmp s (server, message) ≡ false = range.5 none (server, message) (same_server server message, tt) in
      absurd (true≢false (sym t ∙ f))

  module _ (of message : ℕ) (more : List (ℕ × ℕ)) (is : r ≡ (of, message) ∷ more) where
    first_is : slice_get r 0 ≡ Some (of, message)
    first_is = ap (λ (l : List (ℕ × ℕ)). slice_get l 0) is

    least : (other : ℕ) → Waits s.keys server other → (of < server) ⊎ ((of ≡ server) × (message ≤ other))
    least other waits =
        order of message server other
        (subst (λ o. IfSome o (λ k. is_gt (waiting_cmp k (server, other)) ≡ false)) first_is (range.2 (server, other) (same_server server other, tt) (here server other waits)))

    found : IsKeyInRange waiting_cmp (Included (server, 0)) Unbounded s (of, message)
    found = subst (λ o. IfSome o (λ k. IsKeyInRange waiting_cmp (Included (server, 0)) Unbounded s k)) first_is range.1

    from_server : server ≤ of
    from_server =
        elim (order server 0 of message found.0.0) [ inl below ↦ omega (arith, below) | inr same ↦ (let e = same.0 in omega (arith, e)) ]

    pub others_for : (of ≡ server → ⊥) → IsFirst (Waits s.keys server) None
    others_for differ other waits = elim (least other waits) [
      | inl below ↦ (let from = from_server in omega (arith, below, from))
      | inr same ↦ differ same.0
    ]

    pub first_for : of ≡ server → IsFirst (Waits s.keys server) (Some message)
    first_for same = (
      subst (λ n. Waits s.keys n message) same (set.contains-from_list waiting_total s.keys (of, message) ∙ found.1),
      λ other waits. elim (least other waits) [
        | inl below ↦ (let from = from_server in absurd (omega (arith, below, from)))
        | inr h ↦ h.1
      ],
    )

pub min_is : (a b : ℕ) → (min a b ≡ a) ⊎ (min a b ≡ b)
min_is a b = grind (arith, nat_tests)

-- One server after another

module _ {X : Type 0} (sim : SimulationV X) where
  pub start_due : IsFirst (IsDue sim 0) None
  start_due = λ message due. (let below = due.among in omega (arith, below))

  more_due : (n message : ℕ) → IsDue sim n message → IsDue sim (n + 1) message
  more_due n message due = record { server = due.server; among = (let below = due.among in omega (arith, below)); up = due.up; waits = due.waits }

  -- what waits for one server, where it is up
  abbrev pub Own : ℕ → ℕ → Type 0
  Own n message = (is_up sim n ≡ true) × (set.contains sim.waiting (n, message) ≡ true)

  -- what is due for one server more is due for the ones before, or waits for that one, which is up
  last_due : (n message : ℕ) → IsDue sim (n + 1) message → IsDue sim n message ⊎ Own n message
  last_due n message due = elim (number_or_apart due.server n) [
    | inl same ↦ inr (subst (λ s. is_up sim s ≡ true) same due.up, subst (λ s. set.contains sim.waiting (s, message) ≡ true) same due.waits)
    | inr differ ↦ inl (record { server = due.server; among = (let below = due.among in omega (arith, below, differ)); up = due.up; waits = due.waits })
  ]

  one_due : (n message : ℕ) → Own n message → IsDue sim (n + 1) message
  one_due n message own = record { server = n; among = omega arith; up = own.0; waits = own.1 }

  least_due : (n first own : ℕ) → IsDue sim n first → Own n own → (min first own ≡ first) ⊎ (min first own ≡ own) → IsDue sim (n + 1) (min first own)
  least_due n first own due waits (inl e) = subst (IsDue sim (n + 1)) (sym e) (more_due n first due)
  least_due n first own due waits (inr e) = subst (IsDue sim (n + 1)) (sym e) (one_due n own waits)

  -- of one server more it is the earlier one of the two places
  pub due_more : (n : ℕ) (first own : Option ℕ) → IsFirst (IsDue sim n) first → IsFirst (Own n) own → IsFirst (IsDue sim (n + 1)) (earlier first own)
  due_more n None None all mine = λ message due. elim (last_due n message due) [ inl d ↦ all message d | inr h ↦ mine message h ]
  due_more n None (Some own) all mine = (one_due n own mine.0, λ message due. elim (last_due n message due) [ inl d ↦ absurd (all message d) | inr h ↦ mine.1 message h ])
  due_more n (Some first) None all mine = (more_due n first all.0, λ message due. elim (last_due n message due) [ inl d ↦ all.1 message d | inr h ↦ absurd (mine message h) ])
  due_more n (Some first) (Some own) all mine = (
    least_due n first own all.0 mine.0 (min_is first own),
    λ message due. elim (last_due n message due) [
      | inl d ↦ (let e = all.1 message d in omega (arith, e))
      | inr h ↦ (let e = mine.1 message h in omega (arith, e))
    ],
  )

-- all servers were looked at
pub all_due : {X : Type 0} (was old : SimulationV X) (n : ℕ) (first : Option ℕ) → was ≡ old → n ≤ was.setup.servers → was.setup.servers ≤ n → IsFirst (IsDue old n) first → IsFirst (IsDue old old.setup.servers) first
all_due {X = X} was old n first same up down all =
    subst (λ k. IsFirst (IsDue old k) first) (let e : was.setup.servers ≡ old.setup.servers = ap (λ (v : SimulationV X). v.setup.servers) same in omega (arith, e, up, down)) all

-- ---- where at most one message waits

only : (s m a b : ℕ) → list_any (is_at (waiting_cmp (a, b))) ((s, m) ∷ []) ≡ true → (a ≡ s) × (b ≡ m)
only s m a b e = grind (arith, nat_tests)

pub none_waits : (keys : List (ℕ × ℕ)) → keys ≡ [] → (key : ℕ × ℕ) → set.contains (set.from_list {R = waiting_cmp} keys) key ≡ true → ⊥
none_waits keys none key waits =
    let f : set.contains (set.from_list {R = waiting_cmp} keys) key ≡ false = set.contains-from_list waiting_total keys key ∙ ap (list_any (is_at (waiting_cmp key))) none in
    true≢false (sym waits ∙ f)

pub one_waits : (keys : List (ℕ × ℕ)) (server message : ℕ) → keys ≡ (server, message) ∷ []
    → (set.contains (set.from_list {R = waiting_cmp} keys) (server, message) ≡ true)
    × ((key : ℕ × ℕ) → set.contains (set.from_list {R = waiting_cmp} keys) key ≡ true → key ≡ (server, message))
one_waits keys server message one = (
  set.contains-from_list waiting_total keys (server, message) ∙ ap (list_any (is_at (waiting_cmp (server, message)))) one ∙ own server message,
  λ key waits. (let same = only server message key.0 key.1 (sym (set.contains-from_list waiting_total keys key ∙ ap (list_any (is_at (waiting_cmp key))) one) ∙ waits) in λ i. (same.0 i, same.1 i)),
)
  where
    own : (s m : ℕ) → list_any (is_at (waiting_cmp (s, m))) ((s, m) ∷ []) ≡ true
    own s m = grind (arith, nat_tests)

pub keys_none : (keys : List (ℕ × ℕ)) → (0 < length keys → ⊥) → keys ≡ []
keys_none [] none = refl
keys_none (key ∷ keys) none = absurd (none (omega arith))

pub keys_one : (keys : List (ℕ × ℕ)) (key : ℕ × ℕ) → length keys ≤ 1 → slice_get keys 0 ≡ Some key → keys ≡ key ∷ []
keys_one [] key few is = cc
keys_one (first ∷ []) key few is = ap (λ k. k ∷ []) (same_Some first key is)
keys_one (first ∷ second ∷ keys) key few is = absurd (omega (arith, few))

up_there : {X : Type 0} (stores : List (Store X)) (k : ℕ) (o : Option (Store X)) → slice_get stores k ≡ o → store_is_up o ≡ true → k < length stores
up_there stores k None is up = cc
up_there stores k (Some store) is up = slice_get_within stores k store is

pub not_there : {X : Type 0} (stores : List (Store X)) (k : ℕ) → length stores ≤ k → store_is_up (slice_get stores k) ≡ false
not_there stores k past = ap store_is_up (slice_get_past stores k past)

module _ {X : Type 0} (sim : SimulationV X) (all : length sim.stores ≡ sim.setup.servers) where
  pub none_due : ((key : ℕ × ℕ) → set.contains sim.waiting key ≡ true → ⊥) → IsFirst (IsDue sim sim.setup.servers) None
  none_due none = λ message due. none (due.server, message) due.waits

  pub only_due : (server message : ℕ) → set.contains sim.waiting (server, message) ≡ true → ((key : ℕ × ℕ) → set.contains sim.waiting key ≡ true → key ≡ (server, message))
      → IsFirst (IsDue sim sim.setup.servers) (due_one sim server message)
  only_due server message waits only = by (is_up sim server) refl
    where
      by : (b : Bool) → is_up sim server ≡ b → IsFirst (IsDue sim sim.setup.servers) (if b then Some message else None)
      by true up = (
        record {
          server = server;
          among = (let there = up_there sim.stores server (slice_get sim.stores server) refl up in omega (arith, there, all));
          up = up;
          waits = waits;
        },
        λ other due. (let same : other ≡ message = ap (λ (key : ℕ × ℕ). key.1) (only (due.server, other) due.waits) in omega (arith, same)),
      )
      by false down = λ other due.
          (let same : due.server ≡ server = ap (λ (key : ℕ × ℕ). key.0) (only (due.server, other) due.waits) in
          true≢false (sym due.up ∙ ap (is_up sim) same ∙ down))

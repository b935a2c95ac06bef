-- The messages that wait, of which the one that was sent last stands by itself.
use Rattle.std.proofs.Common.{◌≡◌, ◌∙◌, sym, ap, subst, refl, ℕ, ◌≤◌, min, List, [], Bool, true, false, Option, Some, None, ◌==◌, ◌&&◌, inl, inr, arith}
use Rattle.std.specs.Prelude.{◌⊎◌, if◌then◌else◌}
use Rattle.std.specs.FinSet as set
use Rattle.std.proofs.lemmas.Bool.{and_parts, and_from, eq-eqb, eqb-true}
use mathlib.Core.Bool.{true≢false}
use Rattle.node_core.proofs.Keys.{same_or_apart}
use Rattle.simulation.specs.Shows.{IsFirst, waiting_cmp, earlier}
use Rattle.simulation.specs.Waits.{with_last, is_same_key, unless_last, last_for}
use Rattle.simulation.proofs.KeySets.{waiting_total, exact_waiting, insert_here, insert_apart, remove_here, remove_apart, number_or_apart}
use Rattle.simulation.proofs.MessagesDue.{none_waits, min_is}

abbrev Keys : Type 0
Keys = set.FinSet waiting_cmp

key_or_apart : (q k : ℕ × ℕ) → (q ≡ k) ⊎ (q ≡ k → ⊥)
key_or_apart = same_or_apart waiting_total exact_waiting

here : (s : Keys) (k : ℕ × ℕ) → set.contains (set.insert s k) k ≡ true
here = insert_here waiting_total exact_waiting

past : (s : Keys) (k q : ℕ × ℕ) → (q ≡ k → ⊥) → set.contains (set.insert s k) q ≡ set.contains s q
past = insert_apart waiting_total exact_waiting

gone : (s : Keys) (k : ℕ × ℕ) → set.contains (set.remove s k) k ≡ false
gone = remove_here waiting_total exact_waiting

left : (s : Keys) (k q : ℕ × ℕ) → (q ≡ k → ⊥) → set.contains (set.remove s k) q ≡ set.contains s q
left = remove_apart waiting_total exact_waiting

-- ---- one is taken out

-- the last one itself
last_out : (s : Keys) (key : ℕ × ℕ) → set.remove s key ≡ set.remove (set.insert s key) key
last_out s key = set.same_set waiting_total exact_waiting _ _ (λ q. elim (key_or_apart q key) [
  | inl same ↦ subst (λ k. set.contains (set.remove s key) k ≡ set.contains (set.remove (set.insert s key) key) k) (sym same) (gone s key ∙ sym (gone (set.insert s key) key))
  | inr differ ↦ left s key q differ ∙ sym (left (set.insert s key) key q differ ∙ past s key q differ)
])

-- another one
other_out : (s : Keys) (last key : ℕ × ℕ) → (last ≡ key → ⊥) → set.insert (set.remove s key) last ≡ set.remove (set.insert s last) key
other_out s last key differ = set.same_set waiting_total exact_waiting _ _ (λ q. elim (key_or_apart q last) [
  | inl same ↦ subst (λ k. set.contains (set.insert (set.remove s key) last) k ≡ set.contains (set.remove (set.insert s last) key) k) (sym same)
      (here (set.remove s key) last ∙ sym (left (set.insert s last) key last differ ∙ here s last))
  | inr apart ↦ past (set.remove s key) last q apart ∙ elim (key_or_apart q key) [
    | inl is ↦ subst (λ k. set.contains (set.remove s key) k ≡ set.contains (set.remove (set.insert s last) key) k) (sym is) (gone s key ∙ sym (gone (set.insert s last) key))
    | inr unlike ↦ left s key q unlike ∙ sym (left (set.insert s last) key q unlike ∙ past s last q apart)
  ]
])

same_key : (a b : ℕ × ℕ) → is_same_key a b ≡ true → a ≡ b
same_key a b is =
    let parts = and_parts (a.0 == b.0) (a.1 == b.1) is in
    let first = eqb-true a.0 b.0 parts.0 in
    let second = eqb-true a.1 b.1 parts.1 in
    λ i. (first i, second i)

other_key : (a b : ℕ × ℕ) → is_same_key a b ≡ false → a ≡ b → ⊥
other_key a b differ same =
    true≢false (sym (and_from (a.0 == b.0) (a.1 == b.1) (eq-eqb a.0 b.0 (ap (λ (k : ℕ × ℕ). k.0) same)) (eq-eqb a.1 b.1 (ap (λ (k : ℕ × ℕ). k.1) same))) ∙ differ)

pub taken_out : (s others' : Keys) (last : Option (ℕ × ℕ)) (key : ℕ × ℕ) → others' ≡ set.remove s key → with_last others' (unless_last last key) ≡ set.remove (with_last s last) key
taken_out s others' None key is = is
taken_out s others' (Some last) key is = by (is_same_key last key) refl
  where
    by : (b : Bool) → is_same_key last key ≡ b → with_last others' (if b then None else Some last) ≡ set.remove (set.insert s last) key
    by true same = is ∙ last_out s key ∙ ap (λ k. set.remove (set.insert s k) key) (sym (same_key last key same))
    by false differ = ap (λ o. set.insert o last) is ∙ other_out s last key (other_key last key differ)

-- ---- where no other waits

pub only_last : (keys : List (ℕ × ℕ)) (last : ℕ × ℕ) → keys ≡ [] → (key : ℕ × ℕ) → set.contains (set.insert (set.from_list {R = waiting_cmp} keys) last) key ≡ true → key ≡ last
only_last keys last none key waits = elim (key_or_apart key last) [
  | inl same ↦ same
  | inr differ ↦ absurd (none_waits keys none key (sym (past (set.from_list keys) last key differ) ∙ waits))
]

pub last_waits : (s : Keys) (last : ℕ × ℕ) → set.contains (set.insert s last) last ≡ true
last_waits = here

-- ---- the first one for a server

abbrev pub Waiting : Keys → ℕ → ℕ → Type 0
Waiting s server message = set.contains s (server, message) ≡ true

module _ (s : Keys) (last : ℕ × ℕ) (server : ℕ) where
  -- what waits for the server of the last one is it, or one of the others
  one_of : last.0 ≡ server → (message : ℕ) → Waiting (set.insert s last) server message → (message ≡ last.1) ⊎ Waiting s server message
  one_of same message waits = elim (number_or_apart message last.1) [
    | inl is ↦ inl is
    | inr unlike ↦ inr (sym (past s last (server, message) (λ e. unlike (ap (λ (k : ℕ × ℕ). k.1) e))) ∙ waits)
  ]

  it_waits : last.0 ≡ server → Waiting (set.insert s last) server last.1
  it_waits same = subst (λ n. Waiting (set.insert s last) n last.1) same (here s last)

  still_waits : (message : ℕ) → Waiting s server message → Waiting (set.insert s last) server message
  still_waits message waits = elim (key_or_apart (server, message) last) [
    | inl same ↦ subst (λ k. set.contains (set.insert s last) k ≡ true) (sym same) (here s last)
    | inr differ ↦ past s last (server, message) differ ∙ waits
  ]

  least_waits : last.0 ≡ server → (first : ℕ) → Waiting s server first → (min first last.1 ≡ first) ⊎ (min first last.1 ≡ last.1) → Waiting (set.insert s last) server (min first last.1)
  least_waits same first waits (inl e) = subst (Waiting (set.insert s last) server) (sym e) (still_waits first waits)
  least_waits same first waits (inr e) = subst (Waiting (set.insert s last) server) (sym e) (it_waits same)

  first_with : last.0 ≡ server → (first : Option ℕ) → IsFirst (Waiting s server) first → IsFirst (Waiting (set.insert s last) server) (earlier first (Some last.1))
  first_with same None all = (it_waits same, λ message waits. elim (one_of same message waits) [ inl e ↦ omega (arith, e) | inr w ↦ absurd (all message w) ])
  first_with same (Some first) all = (
    least_waits same first all.0 (min_is first last.1),
    λ message waits. elim (one_of same message waits) [
      | inl e ↦ omega (arith, e)
      | inr w ↦ (let e = all.1 message w in omega (arith, e))
    ],
  )

  other_server : (last.0 ≡ server → ⊥) → (message : ℕ) → Waiting (set.insert s last) server message → Waiting s server message
  other_server differ message waits = sym (past s last (server, message) (λ e. differ (sym (ap (λ (k : ℕ × ℕ). k.0) e)))) ∙ waits

  first_without : (last.0 ≡ server → ⊥) → (first : Option ℕ) → IsFirst (Waiting s server) first → IsFirst (Waiting (set.insert s last) server) (earlier first None)
  first_without differ None all = λ message waits. all message (other_server differ message waits)
  first_without differ (Some first) all = (still_waits first all.0, λ message waits. all.1 message (other_server differ message waits))

alone : (P : ℕ → Type 0) (first : Option ℕ) → IsFirst P first → IsFirst P (earlier first None)
alone P None all = all
alone P (Some first) all = all

pub first_with_last : (s : Keys) (last : Option (ℕ × ℕ)) (server : ℕ) (first : Option ℕ) → IsFirst (Waiting s server) first → IsFirst (Waiting (with_last s last) server) (earlier first (last_for last server))
first_with_last s None server first all = alone (Waiting s server) first all
first_with_last s (Some last) server first all = by (last.0 == server) refl
  where
    by : (b : Bool) → (last.0 == server) ≡ b → IsFirst (Waiting (set.insert s last) server) (earlier first (if b then Some last.1 else None))
    by true same = first_with s last server (eqb-true last.0 server same) first all
    by false differ = first_without s last server (λ e. true≢false (sym (eq-eqb last.0 server e) ∙ differ)) first all

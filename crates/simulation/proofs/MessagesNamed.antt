-- Which messages were named, and which wait.
use Rattle.std.proofs.Common.{◌≡◌, ◌∙◌, sym, ap, subst, refl, ℕ, ◌<◌, ◌==◌, ◌&&◌, Bool, true, false, not, List, [], ◌∷◌, ◌++◌, length, Option, Some, None, inl, inr, arith, append_assoc}
use Rattle.std.specs.Prelude.{◌||◌}
use Rattle.std.specs.List.{slice_get}
use Rattle.std.specs.FinSet as set
use Rattle.std.proofs.lemmas.List.{append-nil, length-append}
use Rattle.std.proofs.lemmas.List.Folds.{list_any-append}
use Rattle.std.proofs.lemmas.Bool.{eq-eqb, eqb-true}
use Rattle.records.specs.declared.msg.Msg.{Msg}
use Rattle.records.specs.declared.msg.Msg.TheVariants.{Request, Redirect, Answer, Busy, Held, Page, Closed, Transfer, Installed}
use Rattle.world.specs.declared.event.Event.{Event}
use Rattle.world.specs.Events.{is_for_server}
use Rattle.mds_base.proofs.Grow.{get_last}
use Rattle.mds_base.proofs.Lists.{get_other, get_past}
use Rattle.simulation.specs.Moves.{awaiting, awaiting_all}
use Rattle.simulation.specs.Runs.{names, is_named}
use Rattle.simulation.specs.Shows.{waiting_cmp, server_for}
use Rattle.simulation.proofs.KeySets.{waiting_total, exact_waiting, insert_here, insert_apart, number_or_apart}

or_none : (a b : Bool) → b ≡ false → (a || (b || false)) ≡ a
or_none true b e = refl
or_none false b e = ap (λ x. x || false) e

-- an event that is no Serve names no message
pub named_same : (events : List Event) (event : Event) (message : ℕ) → names message event ≡ false → is_named (events ++ event ∷ []) message ≡ is_named events message
named_same events event message e = list_any-append (names message) events (event ∷ []) ∙ or_none _ _ e

pub not_named : (events : List Event) (message : ℕ) → (is_named events message ≡ true → ⊥) → is_named events message ≡ false
not_named events message none = elim (is_named events message) as (λ b. is_named events message ≡ b → b ≡ false) [
  | true ↦ λ e. absurd (none e)
  | false ↦ λ _. refl
] refl

pub for_server : (s server : ℕ) (msg : Msg) → server_for (Some msg) ≡ Some server → is_for_server s (Some msg) ≡ (server == s)
for_server s server (Request to ask cursor) e = let h : to ≡ server = cc in ap (λ n. n == s) h
for_server s server (Transfer to dir part depth index pieces bits sessions top rows) e = let h : to ≡ server = cc in ap (λ n. n == s) h
for_server s server (Installed to dir part child) e = let h : to ≡ server = cc in ap (λ n. n == s) h
for_server s server (Redirect to seq attempt dir bits) e = cc
for_server s server (Answer to seq attempt reply) e = cc
for_server s server (Busy to seq attempt part depth) e = cc
for_server s server (Held to seq attempt until) e = cc
for_server s server (Page to seq attempt rows next) e = cc
for_server s server (Closed to seq attempt part epoch) e = cc

for_no_server : (s : ℕ) (msg : Msg) → server_for (Some msg) ≡ None → is_for_server s (Some msg) ≡ false
for_no_server s (Request to ask cursor) e = cc
for_no_server s (Transfer to dir part depth index pieces bits sessions top rows) e = cc
for_no_server s (Installed to dir part child) e = cc
for_no_server s (Redirect to seq attempt dir bits) e = refl
for_no_server s (Answer to seq attempt reply) e = refl
for_no_server s (Busy to seq attempt part depth) e = refl
for_no_server s (Held to seq attempt until) e = refl
for_no_server s (Page to seq attempt rows next) e = refl
for_no_server s (Closed to seq attempt part epoch) e = refl

-- what waits is what no Serve named
abbrev pub Await : set.FinSet waiting_cmp → List Msg → List Event → Type 0
Await waiting sent events = (s k : ℕ) → set.contains waiting (s, k) ≡ (is_for_server s (slice_get sent k) && not (is_named events k))

abbrev pub AreNamed : List Msg → List Event → Type 0
AreNamed sent events = (message : ℕ) → is_named events message ≡ true → message < length sent

module _ (waiting : set.FinSet waiting_cmp) (sent : List Msg) (events : List Event) (await : Await waiting sent events) (named : AreNamed sent events) where
  past_end : is_named events (length sent) ≡ false
  past_end = not_named events (length sent) (λ e. let h = named (length sent) e in omega (arith, h))

  none_waits : (s : ℕ) → set.contains waiting (s, length sent) ≡ false
  none_waits s = await s (length sent) ∙ ap (λ o. is_for_server s o && not (is_named events (length sent))) (get_past sent)

  one_waits : (s server : ℕ) (b : Bool) → (server == s) ≡ b → set.contains (set.insert waiting (server, length sent)) (s, length sent) ≡ b
  one_waits s server true e =
      subst (λ n. set.contains (set.insert waiting (server, length sent)) (n, length sent) ≡ true) (eqb-true server s e) (insert_here waiting_total exact_waiting waiting (server, length sent))
  one_waits s server false e =
      insert_apart waiting_total exact_waiting waiting (server, length sent) (s, length sent) (λ same. let h = ap (λ (p : ℕ × ℕ). p.0) same in let t = eq-eqb s s refl in let u = ap (λ n. n == s) h in cc)
      ∙ none_waits s

  one_end : (msg : Msg) (server : ℕ) → server_for (Some msg) ≡ Some server → (s : ℕ)
      → set.contains (set.insert waiting (server, length sent)) (s, length sent) ≡ (is_for_server s (slice_get (sent ++ msg ∷ []) (length sent)) && not (is_named events (length sent)))
  one_end msg server is s =
      one_waits s server (server == s) refl ∙ and_true (server == s)
      ∙ sym (ap (λ o. is_for_server s o && not (is_named events (length sent))) (get_last sent msg)
      ∙ ap (λ b. b && not (is_named events (length sent))) (for_server s server msg is)
      ∙ ap (λ b. (server == s) && not b) past_end)
    where
      and_true : (b : Bool) → b ≡ (b && true)
      and_true true = refl
      and_true false = refl

  -- one message more, for a server
  pub one_more : (msg : Msg) (server : ℕ) → server_for (Some msg) ≡ Some server → Await (set.insert waiting (server, length sent)) (sent ++ msg ∷ []) events
  one_more msg server is s k = elim (number_or_apart k (length sent)) [
    | inl same ↦ subst (λ n. set.contains (set.insert waiting (server, length sent)) (s, n) ≡ (is_for_server s (slice_get (sent ++ msg ∷ []) n) && not (is_named events n))) (sym same)
        (one_end msg server is s)
    | inr differ ↦ insert_apart waiting_total exact_waiting waiting (server, length sent) (s, k) (λ same. differ (ap (λ (p : ℕ × ℕ). p.1) same))
        ∙ await s k
        ∙ ap (λ o. is_for_server s o && not (is_named events k)) (sym (get_other sent msg k differ))
  ]

  -- for none
  none_more : (msg : Msg) → server_for (Some msg) ≡ None → Await waiting (sent ++ msg ∷ []) events
  none_more msg is s k = elim (number_or_apart k (length sent)) [
    | inl same ↦ subst (λ n. set.contains waiting (s, n) ≡ (is_for_server s (slice_get (sent ++ msg ∷ []) n) && not (is_named events n))) (sym same)
        (none_waits s ∙ sym (ap (λ o. is_for_server s o && not (is_named events (length sent))) (get_last sent msg)
        ∙ ap (λ b. b && not (is_named events (length sent))) (for_no_server s msg is)))
    | inr differ ↦ await s k ∙ ap (λ o. is_for_server s o && not (is_named events k)) (sym (get_other sent msg k differ))
  ]

  sent_more : (msg : Msg) (to : Option ℕ) → server_for (Some msg) ≡ to → Await (awaiting waiting to (length sent)) (sent ++ msg ∷ []) events
  sent_more msg None is = none_more msg is
  sent_more msg (Some server) is = one_more msg server is

  -- no message more, by an event that names none
  pub await_same : (event : Event) → ((k : ℕ) → names k event ≡ false) → Await waiting sent (events ++ event ∷ [])
  await_same event unnamed s k = await s k ∙ ap (λ b. is_for_server s (slice_get sent k) && not b) (sym (named_same events event k (unnamed k)))

  pub still_named : (event : Event) → ((k : ℕ) → names k event ≡ false) → AreNamed sent (events ++ event ∷ [])
  still_named event unnamed message e = named message (sym (named_same events event message (unnamed message)) ∙ e)

-- more messages
pub named_all : (sent : List Msg) (events : List Event) → AreNamed sent events → (msgs : List Msg) → AreNamed (sent ++ msgs) events
named_all sent events named msgs message e =
    let below = named message e in
    let longer = length-append sent msgs in
    omega (arith, below, longer)

pub await_all : (waiting : set.FinSet waiting_cmp) (sent : List Msg) (events : List Event) → Await waiting sent events → AreNamed sent events → (msgs : List Msg) → Await (awaiting_all waiting msgs (length sent)) (sent ++ msgs) events
await_all waiting sent events await named [] = subst (λ l. Await waiting l events) (sym (append-nil sent)) await
await_all waiting sent events await named (msg ∷ msgs) =
    let next = awaiting waiting (server_for (Some msg)) (length sent) in
    let rest = await_all next (sent ++ msg ∷ []) events (sent_more waiting sent events await named msg (server_for (Some msg)) refl) (named_all sent events named (msg ∷ [])) msgs in
    subst (λ n. Await (awaiting_all next msgs n) (sent ++ msg ∷ msgs) events) (length-append sent (msg ∷ []))
    (subst (λ l. Await (awaiting_all next msgs (length (sent ++ msg ∷ []))) l events) (append_assoc sent (msg ∷ []) msgs) rest)

-- one message more, by an event that names none
module _ (waiting : set.FinSet waiting_cmp) (sent : List Msg) (events : List Event) (await : Await waiting sent events) (named : AreNamed sent events) where
  pub await_more : (event : Event) (msg : Msg) (server : ℕ) → ((k : ℕ) → names k event ≡ false) → server_for (Some msg) ≡ Some server
      → Await (set.insert waiting (server, length sent)) (sent ++ msg ∷ []) (events ++ event ∷ [])
  await_more event msg server unnamed is =
      await_same (set.insert waiting (server, length sent)) (sent ++ msg ∷ []) events (one_more waiting sent events await named msg server is) (named_all sent events named (msg ∷ [])) event unnamed

  pub named_more : (event : Event) (msg : Msg) → ((k : ℕ) → names k event ≡ false) → AreNamed (sent ++ msg ∷ []) (events ++ event ∷ [])
  named_more event msg unnamed = named_all sent (events ++ event ∷ []) (still_named waiting sent events await named event unnamed) (msg ∷ [])

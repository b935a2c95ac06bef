-- What an outcome of serving a request tells of the store, and that the record of a change may follow there.
use Rattle.std.proofs.Common.{◌≡◌, ◌∙◌, sym, ap, refl, ℕ, ◌+◌, ◌==◌, Bool, true, false, cond, List, Option, Some, None}
use Rattle.std.proofs.lemmas.Bool.{and_from, eqb-true, eq-eqb}
use Rattle.mds_base.specs.declared.ask.Ask.{Ask}
use Rattle.mds_base.specs.declared.call.Call.{Call}
use Rattle.mds_base.specs.declared.reply.Final.{Final}
use Rattle.mds_base.specs.declared.reply.Reply.{Reply}
use Rattle.records.specs.declared.record.Record.TheVariants.{Served}
use Rattle.sessions.specs.declared.kept.Kept.{Kept}
use Rattle.sessions.specs.declared.kept.Judged.{Judged}
use Rattle.sessions.specs.declared.kept.Judged.TheVariants.{New, Again, Old}
use Rattle.sessions.specs.Kept.{judge_kept}
use Rattle.node_core.specs.Nodes.{NodeAndRows, owns, part_for, has_numbers, row_in, session_in, server_for, frozen_at, bits_in}
use Rattle.node_core.specs.Rules.{Asked, ChangeOf, LookOf, NotServed, asked_of, said_in, found, Outcome, Silent, Looks, Repeats, Carries, by_judged, outcome_of, outcome, Redirects, Waits, unless_frozen}
use Rattle.node_core.proofs.Calls.{dir_of_change, dir_of_look}
use Rattle.node_core.proofs.Reached.{reached_here}
use Rattle.mds_base.specs.Calls.{dir_of}
use Rattle.bitmap.specs.Bits.{Bits}
use Rattle.mds_base.proofs.Finals.{same_final_self}
use Rattle.node_core.specs.Serving.{carries, may_follow, part_at, ask_of}
use Rattle.world.proofs.Choices.{judged_again}

pub record LooksTrue (store : NodeAndRows) (ask : Ask) (now : ℕ) (reply : Reply) : Type 0 where
  pub dir : ℕ
  pub name : List ℕ
  pub asked : asked_of ask.call ≡ LookOf dir name
  pub owner : owns store.node dir (part_for store.node dir name) ≡ true
  pub reply' : reply ≡ found (row_in store.rows dir (part_for store.node dir name) name) (now + store.node.setup.lease)

pub record RepeatsTrue (store : NodeAndRows) (ask : Ask) (said : Final) : Type 0 where
  pub dir : ℕ
  pub name : List ℕ
  pub asked : asked_of ask.call ≡ ChangeOf dir name
  pub part : ℕ
  pub owner : owns store.node dir part ≡ true
  pub kept : Kept
  pub session : session_in store.node dir part ask.client ≡ Some kept
  pub seq : kept.seq ≡ ask.seq
  pub said' : kept.said ≡ said

pub record CarriesTrue (store : NodeAndRows) (ask : Ask) (said : Final) : Type 0 where
  pub dir : ℕ
  pub name : List ℕ
  pub asked : asked_of ask.call ≡ ChangeOf dir name
  pub owner : owns store.node dir (part_for store.node dir name) ≡ true
  pub free : frozen_at store.node dir name ≡ None
  pub newer : judge_kept (session_in store.node dir (part_for store.node dir name) ask.client) ask.seq ≡ New
  pub said' : said ≡ said_in store ask.call dir name

pub record RedirectsTrue (store : NodeAndRows) (ask : Ask) (bits : Bits) : Type 0 where
  pub dir : ℕ
  pub on : dir_of ask.call ≡ dir
  pub bits' : bits ≡ bits_in store.node dir

abbrev pub OutcomeTrue : NodeAndRows → Ask → ℕ → Outcome → Type 0
OutcomeTrue store ask now Silent = Unit {0}
OutcomeTrue store ask now (Redirects bits) = RedirectsTrue store ask bits
OutcomeTrue store ask now (Waits part depth) = Unit {0}
OutcomeTrue store ask now (Looks reply) = LooksTrue store ask now reply
OutcomeTrue store ask now (Repeats said) = RepeatsTrue store ask said
OutcomeTrue store ask now (Carries said) = CarriesTrue store ask said

module _ (store : NodeAndRows) (ask : Ask) (now dir : ℕ) (name : List ℕ) where
  abbrev own_part : ℕ
  own_part = part_for store.node dir name

  judged_true : asked_of ask.call ≡ ChangeOf dir name → owns store.node dir own_part ≡ true → frozen_at store.node dir name ≡ None
      → (j : Judged) → judge_kept (session_in store.node dir own_part ask.client) ask.seq ≡ j → OutcomeTrue store ask now (by_judged j (said_in store ask.call dir name))
  judged_true asked owner free New e = record { dir = dir; name = name; asked = asked; owner = owner; free = free; newer = e; said' = refl }
  judged_true asked owner free (Again said) e =
      let h = judged_again (session_in store.node dir own_part ask.client) ask.seq said e in
      record { dir = dir; name = name; asked = asked; part = own_part; owner = owner; kept = h.0; session = h.1; seq = h.2; said' = h.3 }
  judged_true asked owner free (Old kept) e = tt

  -- wherever a request on a name goes on
  frozen_true : (o : Outcome) → (frozen_at store.node dir name ≡ None → OutcomeTrue store ask now o) → (f : Option ℕ) → frozen_at store.node dir name ≡ f → OutcomeTrue store ask now (unless_frozen f own_part o)
  frozen_true o here None e = here e
  frozen_true o here (Some depth) e = tt

  reached_true : dir_of ask.call ≡ dir → (o : Outcome) → (b : Bool) → owns store.node dir own_part ≡ b → (owns store.node dir own_part ≡ true → frozen_at store.node dir name ≡ None → OutcomeTrue store ask now o)
      → OutcomeTrue store ask now (cond b (unless_frozen (frozen_at store.node dir name) own_part o) (Redirects (bits_in store.node dir)))
  reached_true on o true e here = frozen_true o (here e) (frozen_at store.node dir name) refl
  reached_true on o false e here = record { dir = dir; on = on; bits' = refl }

  change_true : asked_of ask.call ≡ ChangeOf dir name → OutcomeTrue store ask now (outcome_of store ask now (ChangeOf dir name))
  change_true asked =
      reached_true (dir_of_change ask.call dir name asked) _ (owns store.node dir own_part) refl
      (λ owner free. judged_true asked owner free (judge_kept (session_in store.node dir own_part ask.client) ask.seq) refl)

  look_true : asked_of ask.call ≡ LookOf dir name → OutcomeTrue store ask now (outcome_of store ask now (LookOf dir name))
  look_true asked =
      reached_true (dir_of_look ask.call dir name asked) _ (owns store.node dir own_part) refl
      (λ owner free. record { dir = dir; name = name; asked = asked; owner = owner; reply' = refl })

outcome_at : (store : NodeAndRows) (ask : Ask) (now : ℕ) (a : Asked) → asked_of ask.call ≡ a → OutcomeTrue store ask now (outcome_of store ask now a)
outcome_at store ask now (ChangeOf dir name) e = change_true store ask now dir name e
outcome_at store ask now (LookOf dir name) e = look_true store ask now dir name e
outcome_at store ask now NotServed e = tt

pub outcome_true : (store : NodeAndRows) (ask : Ask) (now : ℕ) → OutcomeTrue store ask now (outcome store ask now)
unfolding outcome
outcome_true store ask now = outcome_at store ask now (asked_of ask.call) refl

pub owner_of : (store : NodeAndRows) (dir part servers s : ℕ) → owns store.node dir part ≡ true → store.node.setup.servers ≡ servers → store.node.server ≡ s → server_for servers dir part ≡ s
owner_of store dir part servers s owner e f =
    let h : server_for store.node.setup.servers dir part ≡ store.node.server = eqb-true (server_for store.node.setup.servers dir part) store.node.server owner in
    sym (ap (λ n. server_for n dir part) e) ∙ h ∙ f

pub owns_of : (store : NodeAndRows) (dir part servers s : ℕ) → server_for servers dir part ≡ s → store.node.setup.servers ≡ servers → store.node.server ≡ s → owns store.node dir part ≡ true
owns_of store dir part servers s owner e f = eq-eqb (server_for store.node.setup.servers dir part) store.node.server (ap (λ n. server_for n dir part) e ∙ owner ∙ sym f)

-- a record whose change would be carried out may follow
pub may_follow_true : (store : NodeAndRows) (client seq part : ℕ) (call : Call) (said : Final) (dir : ℕ) (name : List ℕ) → asked_of call ≡ ChangeOf dir name → owns store.node dir (part_for store.node dir name) ≡ true
    → frozen_at store.node dir name ≡ None → judge_kept (session_in store.node dir (part_for store.node dir name) client) seq ≡ New → has_numbers store.node ≡ true → said ≡ said_in store call dir name → part ≡ part_for store.node dir name
    → may_follow store (Served client seq part call said) ≡ true
unfolding outcome
may_follow_true store client seq part call said dir name asked owner free newer numbers is_said is_part =
    let carried : outcome store (ask_of client seq call) 0 ≡ Carries said =
    ap (outcome_of store (ask_of client seq call) 0) asked
    ∙ reached_here store.node dir name _ owner free
    ∙ ap (λ j. by_judged j (said_in store call dir name)) newer
    ∙ ap Carries (sym is_said) in
    let first : carries (outcome store (ask_of client seq call) 0) said ≡ true = ap (λ o. carries o said) carried ∙ same_final_self said in
    let second : (part == part_at store (asked_of call)) ≡ true = eq-eqb part (part_at store (asked_of call)) (is_part ∙ sym (ap (part_at store) asked)) in
    and_from (has_numbers store.node) _ numbers (and_from _ _ first second)

-- When a record may follow, and what replaying it comes to.
use Rattle.std.proofs.Common.{◌≡◌, ◌∙◌, sym, ap, refl, subst, ℕ, ◌==◌, ◌&&◌, not, is_some, Bool, true, false, List, Option, Some, None}
use Rattle.std.proofs.lemmas.Bool.{and_parts, and_from, eqb-true, eq-eqb, false_from_ne_true}
use Rattle.mds_base.specs.declared.call.Call.{Call}
use Rattle.mds_base.specs.declared.reply.Final.{Final}
use Rattle.mds_base.specs.Finals.{same_final}
use Rattle.mds_base.proofs.Finals.{same_finals, same_final_self}
use Rattle.mds_base.specs.declared.reply.Reply.{Reply}
use Rattle.records.specs.declared.record.Record.TheVariants.{Served}
use Rattle.sessions.specs.declared.kept.Judged.{Judged}
use Rattle.sessions.specs.declared.kept.Judged.TheVariants.{New, Again, Old}
use Rattle.sessions.specs.Kept.{judge_kept}
use Rattle.node_core.proofs.Reached.{reached_here, reached_carries, look_carries, carries_is, judged_new, is_free}
use Rattle.node_core.specs.Nodes.{frozen_at, NodeV, NodeAndRows, part_for, owns, has_numbers, session_in}
use Rattle.mds_base.specs.RowKeys.{RowMap}
use Rattle.partition.specs.declared.plan.Plan.{Plan as PartPlan}
use Rattle.partition.specs.Planning.{judged_plan}
use Rattle.partition.specs.Rows.{written}
use Rattle.node_core.specs.declared.change.Change.{Change}
use Rattle.node_core.specs.Edits.{node_noted, CanBeMade}
use Rattle.node_core.specs.Planning.{change_of}
use Rattle.node_core.proofs.Served.{carried_change, noted_so, rows_so, can_be_made}
use Rattle.node_core.proofs.Worked.{carried_plan, plan_at, worked_so, change_left, none_left}
use Rattle.node_core.specs.Rules.{ChangeOf, LookOf, NotServed, asked_of, said_in, Outcome, Silent, Carries, by_judged, outcome_of, outcome}
use Rattle.node_core.specs.Serving.{carries, may_follow, is_placed, may_carry, is_new_change, part_at, ask_of, carried, carried_at, replayed, replayed_as, IsReplayed}

-- a record that may not follow changes nothing
pub stays : (store : NodeAndRows) (client seq part : ℕ) (call : Call) (said : Final) → (may_follow store (Served client seq part call said) ≡ true → ⊥) → IsReplayed store (Served client seq part call said) store.node store.rows false
stays store client seq part call said never =
    let e : may_follow store (Served client seq part call said) ≡ false = false_from_ne_true _ never in
    let r : replayed store (Served client seq part call said) ≡ store = ap (replayed_as store (Served client seq part call said)) e in
    record { follows' = sym e; node' = ap (λ (v : NodeAndRows). v.node) (sym r); rows' = ap (λ (v : NodeAndRows). v.rows) (sym r) }

-- a call that is no change is not replayed
no_carries : (store : NodeAndRows) (client seq : ℕ) (call : Call) (said : Final) (o : Outcome) → outcome store (ask_of client seq call) 0 ≡ o → carries o said ≡ false → carries (outcome store (ask_of client seq call) 0) said ≡ false
no_carries store client seq call said o is never = ap (λ x. carries x said) is ∙ never

no_follow : (store : NodeAndRows) (client seq part : ℕ) (call : Call) (said : Final) → carries (outcome store (ask_of client seq call) 0) said ≡ false → may_follow store (Served client seq part call said) ≡ true → ⊥
no_follow store client seq part call said never e =
    let h = and_parts (has_numbers store.node) _ e in
    let c = and_parts (carries (outcome store (ask_of client seq call) 0) said) _ h.1 in
    let t = c.0 in cc

pub not_change : (store : NodeAndRows) (client seq part : ℕ) (call : Call) (said : Final) → asked_of call ≡ NotServed → IsReplayed store (Served client seq part call said) store.node store.rows false
unfolding outcome
not_change store client seq part call said asked = stays store client seq part call said (no_follow store client seq part call said (no_carries store client seq call said Silent (ap (outcome_of store (ask_of client seq call) 0) asked) refl))

pub not_look : (store : NodeAndRows) (client seq part : ℕ) (call : Call) (said : Final) (dir : ℕ) (name : List ℕ) → asked_of call ≡ LookOf dir name → IsReplayed store (Served client seq part call said) store.node store.rows false
unfolding outcome
not_look store client seq part call said dir name asked =
    stays store client seq part call said (no_follow store client seq part call said
    (ap (λ x. carries (outcome_of store (ask_of client seq call) 0 x) said) asked ∙ look_carries (owns store.node dir (part_for store.node dir name)) (frozen_at store.node dir name) _ _ _ said))

-- what a change that may follow has to meet
pub follows_means : (store : NodeAndRows) (client seq part : ℕ) (call : Call) (said : Final) (dir : ℕ) (name : List ℕ) → asked_of call ≡ ChangeOf dir name → may_follow store (Served client seq part call said) ≡ true
    → (may_carry store.node dir name client seq part ≡ true) × (said ≡ said_in store call dir name)
unfolding outcome
follows_means store client seq part call said dir name asked e =
    let own = part_for store.node dir name in
    let h = and_parts (has_numbers store.node) _ e in
    let c = and_parts (carries (outcome store (ask_of client seq call) 0) said) (part == part_at store (asked_of call)) h.1 in
    let r = reached_carries store.node dir name _ said (sym (ap (outcome_of store (ask_of client seq call) 0) asked) ∙ carries_is _ said c.0) in
    let o = judged_new (judge_kept (session_in store.node dir own client) seq) (said_in store call dir name) said r.here in
    let placed : part ≡ own = eqb-true part (part_at store (asked_of call)) c.1 ∙ ap (part_at store) asked in
    (and_from _ _ (and_from _ _ (eq-eqb part own placed) (and_from _ _ h.0 (and_from _ _ r.own (ap (λ f. not (is_some f)) r.free)))) o.0, o.1)

new_of : (j : Judged) → is_new_change j ≡ true → j ≡ New
new_of New e = refl
new_of (Again kept) e = cc
new_of (Old kept) e = cc

pub record MayMeans (node : NodeV) (dir : ℕ) (name : List ℕ) (client seq part : ℕ) : Type 0 where
  pub part' : part ≡ part_for node dir name
  pub numbers : has_numbers node ≡ true
  pub own : owns node dir (part_for node dir name) ≡ true
  pub free : frozen_at node dir name ≡ None
  pub newer : judge_kept (session_in node dir (part_for node dir name) client) seq ≡ New

pub carry_means : (node : NodeV) (dir : ℕ) (name : List ℕ) (client seq part : ℕ) → may_carry node dir name client seq part ≡ true → MayMeans node dir name client seq part
carry_means node dir name client seq part e =
    let own = part_for node dir name in
    let h = and_parts (is_placed node dir name part) (is_new_change (judge_kept (session_in node dir own client) seq)) e in
    let p = and_parts (part == own) _ h.0 in
    let n = and_parts (has_numbers node) _ p.1 in
    let f = and_parts (owns node dir own) _ n.1 in
    record { part' = eqb-true part own p.0; numbers = n.0; own = f.0; free = is_free (frozen_at node dir name) f.1; newer = new_of (judge_kept (session_in node dir own client) seq) h.1 }

-- a change that may follow is carried out
pub follows_so : (store : NodeAndRows) (client seq part : ℕ) (call : Call) (said : Final) (dir : ℕ) (name : List ℕ) → asked_of call ≡ ChangeOf dir name → may_carry store.node dir name client seq part ≡ true → said ≡ said_in store call dir name
    → (may_follow store (Served client seq part call said) ≡ true) × (replayed store (Served client seq part call said) ≡ carried store client seq call dir name)
unfolding outcome
follows_so store client seq part call said dir name asked may said' =
    let own = part_for store.node dir name in
    let m = carry_means store.node dir name client seq part may in
    let is_carried : outcome store (ask_of client seq call) 0 ≡ Carries said =
    ap (outcome_of store (ask_of client seq call) 0) asked
    ∙ reached_here store.node dir name _ m.own m.free
    ∙ ap (λ j. by_judged j (said_in store call dir name)) m.newer
    ∙ ap Carries (sym said') in
    let first : carries (outcome store (ask_of client seq call) 0) said ≡ true = ap (λ o. carries o said) is_carried ∙ same_final_self said in
    let second : (part == part_at store (asked_of call)) ≡ true = eq-eqb part (part_at store (asked_of call)) (m.part' ∙ sym (ap (part_at store) asked)) in
    let can : may_follow store (Served client seq part call said) ≡ true = and_from (has_numbers store.node) _ m.numbers (and_from _ _ first second) in
    (can, ap (replayed_as store (Served client seq part call said)) can ∙ ap (carried_at store client seq call) asked)

-- ---- what was worked out, step by step

-- what may be noted here is noted in the partition that is located
pub placed_is : (node : NodeV) (dir : ℕ) (name : List ℕ) (part : ℕ) → is_placed node dir name part ≡ true → part ≡ part_for node dir name
placed_is node dir name part e = eqb-true part (part_for node dir name) (and_parts (part == part_for node dir name) _ e).0

-- what is known of a change that is left to be made: it is new, and the one that is carried out
pub record IsLeft (store : NodeAndRows) (client seq : ℕ) (call : Call) (dir : ℕ) (name : List ℕ) (change : Change) : Type 0 where
  pub newer : judge_kept (session_in store.node dir (part_for store.node dir name) client) seq ≡ New
  pub change' : change ≡ carried_change store dir name client seq call

module _ (store : NodeAndRows) (client seq part : ℕ) (call : Call) (said : Final) (dir : ℕ) (name : List ℕ) (asked : asked_of call ≡ ChangeOf dir name) where
  -- a change that is not to be noted here
  pub not_placed : (is_placed store.node dir name part ≡ true → ⊥) → IsReplayed store (Served client seq part call said) store.node store.rows false
  not_placed away = stays store client seq part call said (λ e. away (and_parts (is_placed store.node dir name part) _ (follows_means store client seq part call said dir name asked e).0).0)

  worked : (own : ℕ) (from : PartPlan) → own ≡ part_for store.node dir name → from ≡ plan_at store (ask_of client seq call) dir own
      → from ≡ judged_plan (judge_kept (session_in store.node dir (part_for store.node dir name) client) seq) (carried_plan store (ask_of client seq call) dir name) 0
  worked own from placed is = is ∙ worked_so store (ask_of client seq call) dir name own asked placed

  left_so : (own : ℕ) (from : PartPlan) (o : Option Change) → own ≡ part_for store.node dir name → from ≡ plan_at store (ask_of client seq call) dir own → o ≡ change_of dir own from.change
      → o ≡ change_of dir (part_for store.node dir name) (judged_plan (judge_kept (session_in store.node dir (part_for store.node dir name) client) seq) (carried_plan store (ask_of client seq call) dir name) 0).change
  left_so own from o placed is left = left ∙ ap (λ p. change_of dir p from.change) placed ∙ ap (λ (p : PartPlan). change_of dir (part_for store.node dir name) p.change) (worked own from placed is)

  -- one that is not new
  pub not_new : (own : ℕ) (from : PartPlan) → own ≡ part_for store.node dir name → from ≡ plan_at store (ask_of client seq call) dir own → None ≡ change_of dir own from.change → IsReplayed store (Served client seq part call said) store.node store.rows false
  not_new own from placed is left =
      stays store client seq part call said (λ e. none_left store (ask_of client seq call) dir name _ (left_so own from None placed is left)
      (carry_means store.node dir name client seq part (follows_means store client seq part call said dir name asked e).0).newer)

  pub is_left : (own : ℕ) (from : PartPlan) (change : Change) → own ≡ part_for store.node dir name → from ≡ plan_at store (ask_of client seq call) dir own → Some change ≡ change_of dir own from.change → IsLeft store client seq call dir name change
  is_left own from change placed is left =
      let found = change_left store (ask_of client seq call) dir name _ change (left_so own from (Some change) placed is left) in
      record { newer = found.0; change' = found.1 }

  -- one with another reply
  pub not_said : (change : Change) → IsLeft store client seq call dir name change → (change.session.said ≡ said → ⊥) → IsReplayed store (Served client seq part call said) store.node store.rows false
  not_said change left other =
      stays store client seq part call said (λ e. other (ap (λ (c : Change). c.session.said) left.change' ∙ sym (follows_means store client seq part call said dir name asked e).1))

  pub left_made : (change : Change) → IsLeft store client seq call dir name change → CanBeMade store.node change
  left_made change left = subst (CanBeMade store.node) (sym left.change') (can_be_made store dir name client seq call left.newer)

  -- one that is done again
  pub redone : (change : Change) (node : NodeV) (rows : RowMap) → IsLeft store client seq call dir name change → is_placed store.node dir name part ≡ true → change.session.said ≡ said
      → node ≡ node_noted store.node change → rows ≡ written store.rows change.edits → IsReplayed store (Served client seq part call said) node rows true
  redone change node rows left placed same node' rows' =
      let own = part_for store.node dir name in
      let new : is_new_change (judge_kept (session_in store.node dir own client) seq) ≡ true = ap is_new_change left.newer in
      let f = follows_so store client seq part call said dir name asked (and_from _ _ placed new) (sym same ∙ ap (λ (c : Change). c.session.said) left.change') in
      record {
        follows' = sym f.0;
        node' = node' ∙ ap (node_noted store.node) left.change' ∙ noted_so store dir name client seq call asked ∙ ap (λ (v : NodeAndRows). v.node) (sym f.1);
        rows' = rows' ∙ ap (λ (c : Change). written store.rows c.edits) left.change' ∙ rows_so store dir name client seq call ∙ ap (λ (v : NodeAndRows). v.rows) (sym f.1);
      }

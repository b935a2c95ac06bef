-- Plans: one that leaves nothing to be made, and that of a change.
use Rattle.std.proofs.Common.{◌≡◌, ◌∙◌, sym, ap, refl, subst, ℕ, true, List, [], ◌∷◌, Some, None}
use Rattle.mds_base.specs.declared.ask.Ask.{Ask}
use Rattle.mds_base.specs.declared.reply.Reply.TheVariants.{Said}
use Rattle.mds_base.specs.Calls.{dir_of}
use Rattle.bitmap.specs.Bits.{Bits}
use Rattle.records.specs.declared.msg.Msg.TheVariants.{Redirect, Busy}
use Rattle.records.specs.declared.record.Record.TheVariants.{Served}
use Rattle.sessions.specs.declared.kept.Judged.{Judged}
use Rattle.sessions.specs.declared.kept.Judged.TheVariants.{New, Again, Old}
use Rattle.sessions.specs.Kept.{judge_kept}
use Rattle.partition.specs.declared.plan.Plan.{Plan as PartPlan}
use Rattle.partition.specs.Planning.{judged_plan}
use Rattle.node_core.specs.declared.plan.Plan.{Plan}
use Rattle.node_core.specs.Nodes.{NodeAndRows, frozen_at, part_for, owns, session_in}
use Rattle.node_core.specs.Rules.{ChangeOf, Redirects, Waits, asked_of, said_in}
use Rattle.node_core.specs.Serving.{ServedV, served_as, serve_ask, answer_to, carried}
use Rattle.node_core.specs.Edits.{noted_by, written_by, MayBeMade}
use Rattle.node_core.specs.Planning.{IsPlanOf, records_of, outputs_of, change_of}
use Rattle.node_core.proofs.Served.{change_new, change_judged, carried_change, noted_so, rows_so, can_be_made}
use Rattle.node_core.proofs.Worked.{carried_plan, plan_at, worked_so}

-- a plan with no change is one of what leaves the store
pub plans_nothing : (store : NodeAndRows) (served : ServedV) (plan : Plan) → plan.change ≡ None → store ≡ served.store → plan.handled.records ≡ served.records → plan.handled.outputs ≡ served.outputs → IsPlanOf store served plan
plans_nothing store served plan none same records outputs = record {
  records = records;
  outputs = outputs;
  node' = ap (noted_by store.node) none ∙ ap (λ (v : NodeAndRows). v.node) same;
  rows' = ap (written_by store.rows) none ∙ ap (λ (v : NodeAndRows). v.rows) same;
  made = subst (MayBeMade store.node) (sym none) tt;
}

-- a plan that hands out one message is one of what redirects and of what waits
pub plans_away : (store : NodeAndRows) (ask : Ask) (now : ℕ) (bits : Bits) (plan : Plan) → serve_ask store ask now ≡ served_as store ask (Redirects bits) → plan.change ≡ None → plan.handled.records ≡ []
    → plan.handled.outputs ≡ Redirect ask.client ask.seq ask.attempt (dir_of ask.call) bits ∷ [] → IsPlanOf store (serve_ask store ask now) plan
plans_away store ask now bits plan served none records outputs =
    subst (λ v. IsPlanOf store v plan) (sym served) (plans_nothing store (served_as store ask (Redirects bits)) plan none refl records outputs)

pub plans_later : (store : NodeAndRows) (ask : Ask) (now part depth : ℕ) (plan : Plan) → serve_ask store ask now ≡ served_as store ask (Waits part depth) → plan.change ≡ None → plan.handled.records ≡ []
    → plan.handled.outputs ≡ Busy ask.client ask.seq ask.attempt part depth ∷ [] → IsPlanOf store (serve_ask store ask now) plan
plans_later store ask now part depth plan served none records outputs =
    subst (λ v. IsPlanOf store v plan) (sym served) (plans_nothing store (served_as store ask (Waits part depth)) plan none refl records outputs)

-- a plan that comes of a partition's plan
pub record ComesOf (plan : Plan) (ask : Ask) (dir part : ℕ) (from : PartPlan) : Type 0 where
  pub records : plan.handled.records ≡ records_of ask part from.change
  pub outputs : plan.handled.outputs ≡ outputs_of ask from.step
  pub change' : plan.change ≡ change_of dir part from.change

module _ (store : NodeAndRows) (ask : Ask) (now dir : ℕ) (name : List ℕ) (plan : Plan) (asked : asked_of ask.call ≡ ChangeOf dir name) (own : owns store.node dir (part_for store.node dir name) ≡ true) (free : frozen_at store.node dir name ≡ None) where
  plans_judged : (j : Judged) → judge_kept (session_in store.node dir (part_for store.node dir name) ask.client) ask.seq ≡ j
      → ComesOf plan ask dir (part_for store.node dir name) (judged_plan j (carried_plan store ask dir name) 0) → IsPlanOf store (serve_ask store ask now) plan
  plans_judged New is from =
      subst (λ v. IsPlanOf store v plan) (sym (change_new store ask now dir name asked own free is)) (record {
        records = from.records;
        outputs = from.outputs;
        node' = ap (noted_by store.node) from.change' ∙ noted_so store dir name ask.client ask.seq ask.call asked;
        rows' = ap (written_by store.rows) from.change' ∙ rows_so store dir name ask.client ask.seq ask.call;
        made = subst (MayBeMade store.node) (sym from.change') (can_be_made store dir name ask.client ask.seq ask.call is);
      })
  plans_judged (Again said) is from =
      let served = change_judged store ask now dir name asked own free (Again said) is in
      plans_nothing store (serve_ask store ask now) plan from.change' (sym (ap (λ (v : ServedV). v.store) served))
      (from.records ∙ sym (ap (λ (v : ServedV). v.records) served)) (from.outputs ∙ sym (ap (λ (v : ServedV). v.outputs) served))
  plans_judged (Old kept) is from =
      let served = change_judged store ask now dir name asked own free (Old kept) is in
      plans_nothing store (serve_ask store ask now) plan from.change' (sym (ap (λ (v : ServedV). v.store) served))
      (from.records ∙ sym (ap (λ (v : ServedV). v.records) served)) (from.outputs ∙ sym (ap (λ (v : ServedV). v.outputs) served))

  -- the plan of a change
  pub plans_change : (part : ℕ) (from : PartPlan) → part ≡ part_for store.node dir name → from ≡ plan_at store ask dir part → ComesOf plan ask dir part from → IsPlanOf store (serve_ask store ask now) plan
  plans_change part from placed is comes =
      let j = judge_kept (session_in store.node dir (part_for store.node dir name) ask.client) ask.seq in
      let worked : from ≡ judged_plan j (carried_plan store ask dir name) 0 = is ∙ worked_so store ask dir name part asked placed in
      plans_judged j refl (subst (ComesOf plan ask dir (part_for store.node dir name)) worked (subst (λ (p : ℕ). ComesOf plan ask dir p from) placed comes))

-- What a change in a partition of this server is planned as, leases set aside.
use Rattle.std.proofs.Common.{◌≡◌, ◌∙◌, sym, ap, refl, ℕ, ◌&&◌, Bool, true, false, cond, List, Option, Some, None}
use Rattle.std.specs.Prelude.{nat_lt}
use Rattle.std.specs.FinMap as map
use Rattle.mds_base.specs.declared.attr.Attr.{Attr}
use Rattle.mds_base.specs.declared.ask.Ask.{Ask}
use Rattle.mds_base.specs.declared.edit.Edit.{Edit}
use Rattle.mds_base.specs.declared.reply.Final.{Final}
use Rattle.mds_base.specs.declared.reply.Reply.TheVariants.{Said}
use Rattle.mds_base.specs.declared.row_key.RowKey.{RowKey}
use Rattle.mds_base.specs.Calls.{CallOn, OnName, OnDirectory, OnPartition}
use Rattle.mds_base.specs.Calls.{asked_of as call_on}
use Rattle.mds_base.specs.PlainRules.{edit_of}
use Rattle.mds_base.specs.RowKeys.{edited_count}
use Rattle.name_hash.specs.RowPlace.{row_key}
use Rattle.sessions.specs.declared.kept.Judged.{Judged}
use Rattle.sessions.specs.declared.kept.Judged.TheVariants.{New, Again, Old}
use Rattle.sessions.specs.Kept.{judged, judge_kept}
use Rattle.leases.specs.Leases.{unleased, held_until}
use Rattle.leases.proofs.Held.{unleased_held}
use Rattle.partition.specs.declared.partition.Partition.{Partition}
use Rattle.partition.specs.declared.plan.Plan.{Plan as PartPlan}
use Rattle.partition.specs.declared.plan.Step.TheVariants as steps
use Rattle.partition.specs.Replies.{waits, said_of}
use Rattle.partition.specs.Rows.{edits_of}
use Rattle.partition.specs.Planning.{aside, unchanging, carry_plan, name_plan, judged_plan, change_plan}
use Rattle.node_core.specs.declared.change.Change.{Change}
use Rattle.node_core.specs.Nodes.{NodeAndRows, part_in, part_for, session_in, row_in}
use Rattle.node_core.specs.Planning.{change_of}
use Rattle.node_core.specs.Rules.{ChangeOf, asked_on, asked_of, is_served, said_in}
use Rattle.node_core.proofs.Served.{carried_change}

on_name : (served : Bool) (on : CallOn) (dir : ℕ) (name : List ℕ) → asked_on served on ≡ ChangeOf dir name → on ≡ OnName dir name true
on_name true (OnName d n true) dir name e = cc
on_name true (OnName d n false) dir name e = cc
on_name true (OnDirectory d) dir name e = cc
on_name true (OnPartition d part) dir name e = cc
on_name false on dir name e = cc

no_wait : (b : Bool) → (b && false) ≡ false
no_wait true = refl
no_wait false = refl

-- with leases set aside nothing waits
named_so : (part : Partition) (key : RowKey) (ask : Ask) (before : Option Attr) (fresh : ℕ)
    → name_plan (aside part) key ask before 0 fresh
    ≡ carry_plan ask (said_of ask.call before fresh) (edits_of key (edit_of ask.call (Said (said_of ask.call before fresh)) before)) (edited_count part.count (edit_of ask.call (Said (said_of ask.call before fresh)) before) before) 0
named_so part key ask before fresh =
    let said = said_of ask.call before fresh in
    let edit = edit_of ask.call (Said said) before in
    ap (λ b. cond b (unchanging (steps.Held (held_until (unleased 0) key.name)) 0) (carry_plan ask said (edits_of key edit) (edited_count part.count edit before) 0))
    (ap (λ u. waits edit before && nat_lt 0 u) (unleased_held 0 key.name) ∙ no_wait (waits edit before))

-- the plan of a change that is carried out
abbrev pub carried_plan : NodeAndRows → Ask → ℕ → List ℕ → PartPlan
carried_plan store ask dir name =
    carry_plan ask (said_in store ask.call dir name) (carried_change store dir name ask.client ask.seq ask.call).edits (carried_change store dir name ask.client ask.seq ask.call).count 0

-- what a partition plans for a request
abbrev pub plan_at : NodeAndRows → Ask → ℕ → ℕ → PartPlan
plan_at store ask dir part = change_plan (aside (part_in store.node dir part)) store.rows dir part ask 0 store.node.next (call_on ask.call)

pub worked_so : (store : NodeAndRows) (ask : Ask) (dir : ℕ) (name : List ℕ) (part : ℕ) → asked_of ask.call ≡ ChangeOf dir name → part ≡ part_for store.node dir name
    → plan_at store ask dir part ≡ judged_plan (judge_kept (session_in store.node dir (part_for store.node dir name) ask.client) ask.seq) (carried_plan store ask dir name) 0
unfolding session_in row_in
worked_so store ask dir name part asked own =
    let p = part_for store.node dir name in
    let key : RowKey = row_key dir p name in
    ap (plan_at store ask dir) own
    ∙ ap (change_plan (aside (part_in store.node dir p)) store.rows dir p ask 0 store.node.next) (on_name (is_served ask.call) (call_on ask.call) dir name asked)
    ∙ ap (λ plan. judged_plan (judged (part_in store.node dir p).sessions ask.client ask.seq) plan 0) (named_so (part_in store.node dir p) key ask (map.get store.rows key) store.node.next)

-- the change that is left, by how the change stands to what is kept of its client
pub change_left : (store : NodeAndRows) (ask : Ask) (dir : ℕ) (name : List ℕ) (j : Judged) (change : Change)
    → Some change ≡ change_of dir (part_for store.node dir name) (judged_plan j (carried_plan store ask dir name) 0).change
    → (j ≡ New) × (change ≡ carried_change store dir name ask.client ask.seq ask.call)
change_left store ask dir name New change e = (refl, some_is _ _ e) where
  some_is : (a b : Change) → Some a ≡ Some b → a ≡ b
  some_is a b e = cc
change_left store ask dir name (Again said) change e = cc
change_left store ask dir name (Old kept) change e = cc

pub none_left : (store : NodeAndRows) (ask : Ask) (dir : ℕ) (name : List ℕ) (j : Judged)
    → None ≡ change_of dir (part_for store.node dir name) (judged_plan j (carried_plan store ask dir name) 0).change → j ≡ New → ⊥
none_left store ask dir name New e new = cc
none_left store ask dir name (Again said) e new = cc
none_left store ask dir name (Old kept) e new = cc

use Rattle.std.proofs.Common.{◌∙◌, ap, subst, ℕ, Some, None}
use Rattle.std.specs.Prelude.{◌≡◌, IfOk}
use Rattle.mds_base.specs.Calls.{asked_of as call_on}
use Rattle.partition.specs.declared.partition.Partition.{Partition}
use Rattle.partition.specs.Planning.{aside, change_plan}
use Rattle.partition.specs.Serving.{empty_part}
use Rattle.node_core.specs.Nodes.{NodeV, part_in}
use Rattle.node_core.proofs.Parts.{part_found}
use Rattle.node_core.proofs.node.Node.plan_in.Goals as goal

pub returns-in-Some-clause-ok : goal.returns-in-Some-clause-ok
returns-in-Some-clause-ok g c =
    let rows = g.R.Rows.contents c.args.rows.now in
    let ask = c.args.ask.now in
    let node = c.args.self.now in
    subst (λ (n : ℕ). IfOk c.plan_aside.result (λ plan. plan ≡ change_plan (aside (part_in node c.args.dir c.args.part)) rows c.args.dir c.args.part ask 0 n (call_on ask.call))) (ap (λ (v : NodeV). v.next) c.self.view_is)
    (subst (λ (p : Partition). IfOk c.plan_aside.result (λ plan. plan ≡ change_plan (aside p) rows c.args.dir c.args.part ask 0 c.self.inside.next (call_on ask.call)))
    (part_found c.self.inside.parts.entries node c.args.dir c.args.part (Some c.in-Some.partition.now) (ap (λ (v : NodeV). v.parts) c.self.view_is) c.in-Some.ensures.value) c.plan_aside.ensures.ok)

pub returns-in-None-clause-ok : goal.returns-in-None-clause-ok
returns-in-None-clause-ok g c =
    let rows = g.R.Rows.contents c.args.rows.now in
    let ask = c.args.ask.now in
    let node = c.args.self.now in
    let part_is : c.empty-partition.result ≡ part_in node c.args.dir c.args.part =
    c.empty-partition.ensures ∙ ap (λ (v : NodeV). empty_part v.floor) c.self.view_is
    ∙ part_found c.self.inside.parts.entries node c.args.dir c.args.part None (ap (λ (v : NodeV). v.parts) c.self.view_is) c.in-None.ensures.value in
    subst (λ (n : ℕ). IfOk c.plan_aside-in-None.result (λ plan. plan ≡ change_plan (aside (part_in node c.args.dir c.args.part)) rows c.args.dir c.args.part ask 0 n (call_on ask.call))) (ap (λ (v : NodeV). v.next) c.self.view_is)
    (subst (λ (p : Partition). IfOk c.plan_aside-in-None.result (λ plan. plan ≡ change_plan (aside p) rows c.args.dir c.args.part ask 0 c.self.inside.next (call_on ask.call))) part_is c.plan_aside-in-None.ensures.ok)

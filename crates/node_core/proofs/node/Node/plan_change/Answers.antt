use Rattle.std.proofs.Common.{◌≡◌, ◌∙◌, sym, ap, true, false, ℕ, [], ◌∷◌, Option, Some, None}
use Rattle.name_hash.specs.NameHash.{hash_of}
use Rattle.records.specs.declared.msg.Msg.TheVariants.{Busy}
use Rattle.node_core.specs.Nodes.{NodeV, NodeAndRows, owns, part_for, part_in, bits_in, frozen_in, frozen_at, row_in}
use Rattle.node_core.proofs.Served.{change_away, change_later}
use Rattle.node_core.proofs.Planned.{plans_nothing, plans_change, plans_away, plans_later}
use Rattle.node_core.proofs.node.Node.plan_change.Goals as goal

pub returns-then-not-owns-clause-ok : goal.returns-then-not-owns-clause-ok
returns-then-not-owns-clause-ok g c =
    let store : NodeAndRows = record { node = c.args.self.now; rows = g.R.Rows.contents c.args.rows.now } in
    let node = c.args.self.now in
    let ask = c.args.ask.now in
    let dir = c.args.dir in
    let name = c.args.name.now in
    let part_is = c.part_for-part.ensures in
    let away : owns node dir (part_for node dir name) ≡ false = ap (owns node dir) (sym part_is) ∙ sym c.owns.ensures ∙ c.if-not-owns.true in
    let plan = c.in_ok-plan_redirect.ensures in
    plans_away store ask c.args.now (bits_in node dir) c.in_ok-plan_redirect.field-0 (change_away store ask c.args.now dir name away c.requires.asked) plan.change plan.records plan.outputs

pub returns-in-Some-clause-ok : goal.returns-in-Some-clause-ok
returns-in-Some-clause-ok g c =
    let store : NodeAndRows = record { node = c.args.self.now; rows = g.R.Rows.contents c.args.rows.now } in
    let node = c.args.self.now in
    let ask = c.args.ask.now in
    let dir = c.args.dir in
    let name = c.args.name.now in
    let part_is = c.part_for-part.ensures in
    let own : owns node dir (part_for node dir name) ≡ true = ap (owns node dir) (sym part_is) ∙ sym c.owns.ensures ∙ c.if-not-owns.false in
    let depth = c.in-Some.depth in
    let moves : frozen_at node dir name ≡ Some depth = sym (ap (λ (p : ℕ). frozen_in (part_in node dir p).split (hash_of name)) part_is) ∙ sym c.in-Some.ensures in
    let plan = c.in_ok-plan_busy.ensures in
    plans_later store ask c.args.now (part_for node dir name) depth c.in_ok-plan_busy.field-0 (change_later store ask c.args.now dir name own c.requires.asked depth moves) plan.change plan.records
    (plan.outputs ∙ ap (λ (p : ℕ). Busy ask.client ask.seq ask.attempt p depth ∷ []) part_is)

pub returns-clause-ok : goal.returns-clause-ok
returns-clause-ok g c =
    let store : NodeAndRows = record { node = c.args.self.now; rows = g.R.Rows.contents c.args.rows.now } in
    let node = c.args.self.now in
    let ask = c.args.ask.now in
    let dir = c.args.dir in
    let name = c.args.name.now in
    let part_is = c.part_for-part.ensures in
    let own : owns node dir (part_for node dir name) ≡ true = ap (owns node dir) (sym part_is) ∙ sym c.owns.ensures ∙ c.if-not-owns.false in
    let free : frozen_at node dir name ≡ None = sym (ap (λ (p : ℕ). frozen_in (part_in node dir p).split (hash_of name)) part_is) ∙ sym c.in_default.ensures in
    plans_change store ask c.args.now dir name _ c.requires.asked own free c.part_for-part.result c.in_ok-plan.plan part_is c.in_ok-plan.ensures.ok
    (record { records = c.in_ok-of.ensures.records; outputs = c.in_ok-of.ensures.outputs; change' = c.in_ok-of.ensures.change })

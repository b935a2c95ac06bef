use Rattle.std.proofs.Common.{◌≡◌, ◌∙◌, sym, ap, true, false, ℕ, [], ◌∷◌, Option, Some, None}
use Rattle.std.proofs.Common.{◌+◌}
use Rattle.std.specs.FinMap as map
use Rattle.name_hash.specs.RowPlace.{row_key}
use Rattle.node_core.specs.Rules.{found}
use Rattle.node_core.specs.Serving.{answer_to}
use Rattle.name_hash.specs.NameHash.{hash_of}
use Rattle.records.specs.declared.msg.Msg.TheVariants.{Busy}
use Rattle.node_core.specs.Nodes.{NodeV, NodeAndRows, owns, part_for, part_in, bits_in, frozen_in, frozen_at, row_in}
use Rattle.node_core.proofs.Served.{look_away, look_later, look_own}
use Rattle.node_core.proofs.Planned.{plans_nothing, plans_change, plans_away, plans_later}
use Rattle.node_core.proofs.node.Node.plan_look.Goals as goal

pub returns-then-not-owns-clause-ok : goal.returns-then-not-owns-clause-ok
returns-then-not-owns-clause-ok g c =
    let store : NodeAndRows = record { node = c.args.self.now; rows = g.R.Rows.contents c.args.rows.now } in
    let node = c.args.self.now in
    let ask = c.args.ask.now in
    let dir = c.args.dir in
    let name = c.args.name.now in
    let part_is = c.part_for-part.ensures in
    let away : owns node dir (part_for node dir name) ≡ false = ap (owns node dir) (sym part_is) ∙ sym c.owns.ensures ∙ c.if-not-owns.true in
    let plan = c.in_ok-plan_redirect.ensures in
    plans_away store ask c.args.now (bits_in node dir) c.in_ok-plan_redirect.field-0 (look_away store ask c.args.now dir name away c.requires.asked) plan.change plan.records plan.outputs

pub returns-in-Some-clause-ok : goal.returns-in-Some-clause-ok
returns-in-Some-clause-ok g c =
    let store : NodeAndRows = record { node = c.args.self.now; rows = g.R.Rows.contents c.args.rows.now } in
    let node = c.args.self.now in
    let ask = c.args.ask.now in
    let dir = c.args.dir in
    let name = c.args.name.now in
    let part_is = c.part_for-part.ensures in
    let own : owns node dir (part_for node dir name) ≡ true = ap (owns node dir) (sym part_is) ∙ sym c.owns.ensures ∙ c.if-not-owns.false in
    let depth = c.in-Some.depth in
    let moves : frozen_at node dir name ≡ Some depth = sym (ap (λ (p : ℕ). frozen_in (part_in node dir p).split (hash_of name)) part_is) ∙ sym c.in-Some.ensures in
    let plan = c.in_ok-plan_busy.ensures in
    plans_later store ask c.args.now (part_for node dir name) depth c.in_ok-plan_busy.field-0 (look_later store ask c.args.now dir name own c.requires.asked depth moves) plan.change plan.records
    (plan.outputs ∙ ap (λ (p : ℕ). Busy ask.client ask.seq ask.attempt p depth ∷ []) part_is)

pub returns-clause-ok : goal.returns-clause-ok
unfolding row_in
returns-clause-ok g c =
    let store : NodeAndRows = record { node = c.args.self.now; rows = g.R.Rows.contents c.args.rows.now } in
    let node = c.args.self.now in
    let ask = c.args.ask.now in
    let dir = c.args.dir in
    let name = c.args.name.now in
    let part_is = c.part_for-part.ensures in
    let rows = g.R.Rows.contents c.args.rows.now in
    let part = part_for node dir name in
    let own : owns node dir part ≡ true = ap (owns node dir) (sym part_is) ∙ sym c.owns.ensures ∙ c.if-not-owns.false in
    let free : frozen_at node dir name ≡ None = sym (ap (λ (p : ℕ). frozen_in (part_in node dir p).split (hash_of name)) part_is) ∙ sym c.in_default.ensures in
    let served = look_own store ask c.args.now dir name own c.requires.asked free in
    let key_is : c.in_ok-key.key ≡ row_key dir part name = c.in_ok-key.ensures ∙ ap (λ p. row_key dir p name) part_is in
    let attr_is : c.in_ok-attr.attr ≡ row_in rows dir part name = c.in_ok-attr.ensures.found ∙ ap (map.get rows) key_is in
    let until_is : c.args.now + c.self.inside.setup.lease ≡ c.args.now + node.setup.lease = ap (λ (n : NodeV). c.args.now + n.setup.lease) c.self.view_is in
    let found_is = c.found.ensures ∙ ap (λ a. found a (c.args.now + c.self.inside.setup.lease)) attr_is ∙ ap (found (row_in rows dir part name)) until_is in
    plans_nothing store _ c.unchanging.result c.unchanging.ensures.change (sym (ap (λ v. v.store) served))
    (ap (λ h. h.records) c.unchanging.ensures.handled ∙ c.in_ok-handled.ensures.records ∙ sym (ap (λ v. v.records) served))
    (ap (λ h. h.outputs) c.unchanging.ensures.handled ∙ c.in_ok-handled.ensures.outputs ∙ ap (λ r. answer_to ask r ∷ []) found_is ∙ sym (ap (λ v. v.outputs) served))

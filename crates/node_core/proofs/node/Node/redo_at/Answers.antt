use Rattle.std.proofs.Common.{◌≡◌, ◌∙◌, sym, ap, subst, true, false, true≢false}
use Rattle.mds_base.specs.RowKeys.{RowMap}
use Rattle.partition.specs.Rows.{written}
use Rattle.records.specs.declared.record.Record.TheVariants.{Served}
use Rattle.node_core.specs.Nodes.{NodeAndRows}
use Rattle.node_core.specs.Serving.{IsReplayed, ask_of}
use Rattle.node_core.proofs.Worked.{plan_at}
use Rattle.node_core.proofs.Replayed.{not_placed, placed_is, not_new, is_left, not_said, left_made, redone}
use Rattle.node_core.proofs.node.Node.redo_at.Goals as goal

pub returns-then-not-is_placed-clause-ok : goal.returns-then-not-is_placed-clause-ok
returns-then-not-is_placed-clause-ok g c =
    let store : NodeAndRows = record { node = c.args.self.now; rows = g.R.Rows.contents c.args.rows.now } in
    not_placed store c.args.client c.args.seq c.args.part c.args.call.now c.args.said c.args.dir c.args.name.now c.requires.asked
    (λ e. true≢false (sym e ∙ sym c.is_placed.ensures ∙ c.if-not-is_placed.true))

pub returns-in_default-clause-ok : goal.returns-in_default-clause-ok
returns-in_default-clause-ok g c =
    let store : NodeAndRows = record { node = c.args.self.now; rows = g.R.Rows.contents c.args.rows.now } in
    let own = placed_is store.node c.args.dir c.args.name.now c.args.part (sym c.is_placed.ensures ∙ c.if-not-is_placed.false) in
    let plan_is : c.in_ok-change.field-0 ≡ plan_at store (ask_of c.args.client c.args.seq c.args.call.now) c.args.dir c.args.part =
    c.in_ok-change.ensures.ok ∙ ap (λ call. plan_at store (ask_of c.args.client c.args.seq call) c.args.dir c.args.part) c.in_ok-copy.ensures in
    let left = c.in_default.ensures in
    subst (λ (rows : RowMap). IsReplayed store (Served c.args.client c.args.seq c.args.part c.args.call.now c.args.said) store.node rows false) (sym c.in_ok-change.ensures.rows)
    (not_new store c.args.client c.args.seq c.args.part c.args.call.now c.args.said c.args.dir c.args.name.now c.requires.asked c.args.part c.in_ok-change.field-0 own plan_is left)

pub returns-then-differs-clause-ok : goal.returns-then-differs-clause-ok
returns-then-differs-clause-ok g c =
    let store : NodeAndRows = record { node = c.args.self.now; rows = g.R.Rows.contents c.args.rows.now } in
    let own = placed_is store.node c.args.dir c.args.name.now c.args.part (sym c.is_placed.ensures ∙ c.if-not-is_placed.false) in
    let plan_is : c.in_ok-change.field-0 ≡ plan_at store (ask_of c.args.client c.args.seq c.args.call.now) c.args.dir c.args.part =
    c.in_ok-change.ensures.ok ∙ ap (λ call. plan_at store (ask_of c.args.client c.args.seq call) c.args.dir c.args.part) c.in_ok-copy.ensures in
    let left = is_left store c.args.client c.args.seq c.args.part c.args.call.now c.args.said c.args.dir c.args.name.now c.requires.asked c.args.part c.in_ok-change.field-0 c.in-Some.change own plan_is
    c.in-Some.ensures in
    subst (λ (rows : RowMap). IsReplayed store (Served c.args.client c.args.seq c.args.part c.args.call.now c.args.said) store.node rows false) (sym c.in_ok-change.ensures.rows)
    (not_said store c.args.client c.args.seq c.args.part c.args.call.now c.args.said c.args.dir c.args.name.now c.requires.asked c.in-Some.change left c.if-differs.ensures)

pub change-requires-clause-made : goal.change-requires-clause-made
change-requires-clause-made g c =
    let store : NodeAndRows = record { node = c.args.self.now; rows = g.R.Rows.contents c.args.rows.now } in
    let own = placed_is store.node c.args.dir c.args.name.now c.args.part (sym c.is_placed.ensures ∙ c.if-not-is_placed.false) in
    let plan_is : c.in_ok-change.field-0 ≡ plan_at store (ask_of c.args.client c.args.seq c.args.call.now) c.args.dir c.args.part =
    c.in_ok-change.ensures.ok ∙ ap (λ call. plan_at store (ask_of c.args.client c.args.seq call) c.args.dir c.args.part) c.in_ok-copy.ensures in
    left_made store c.args.client c.args.seq c.args.part c.args.call.now c.args.said c.args.dir c.args.name.now c.requires.asked c.in-Some.change
    (is_left store c.args.client c.args.seq c.args.part c.args.call.now c.args.said c.args.dir c.args.name.now c.requires.asked c.args.part c.in_ok-change.field-0 c.in-Some.change own plan_is
    c.in-Some.ensures)

pub returns-clause-ok : goal.returns-clause-ok
returns-clause-ok g c =
    let store : NodeAndRows = record { node = c.args.self.now; rows = g.R.Rows.contents c.args.rows.now } in
    let placed = sym c.is_placed.ensures ∙ c.if-not-is_placed.false in
    let own = placed_is store.node c.args.dir c.args.name.now c.args.part placed in
    let plan_is : c.in_ok-change.field-0 ≡ plan_at store (ask_of c.args.client c.args.seq c.args.call.now) c.args.dir c.args.part =
    c.in_ok-change.ensures.ok ∙ ap (λ call. plan_at store (ask_of c.args.client c.args.seq call) c.args.dir c.args.part) c.in_ok-copy.ensures in
    let left = is_left store c.args.client c.args.seq c.args.part c.args.call.now c.args.said c.args.dir c.args.name.now c.requires.asked c.args.part c.in_ok-change.field-0 c.in-Some.change own plan_is
    c.in-Some.ensures in
    redone store c.args.client c.args.seq c.args.part c.args.call.now c.args.said c.args.dir c.args.name.now c.requires.asked c.in-Some.change c.change.new.self (g.R.Rows.contents c.change.new.rows) left placed c.if-differs.ensures
    c.in_ok-change-2.ensures.node
    (c.in_ok-change-2.ensures.rows ∙ ap (λ (rows : RowMap). written rows c.in-Some.change.edits) c.in_ok-change.ensures.rows)

use Rattle.std.proofs.Common.{◌∙◌, ◌+◌, sym, refl, drop, arith, length-drop}
use Rattle.mds_base.proofs.Results.{on_err}
use Rattle.path_walk.proofs.Steps.{arrived, ended_at, ended_missing, ended_open, first_left, goes_on, refused, file_ends, last_ends_not, dir_ends_not}
use Rattle.path_walk.proofs.walking.walk_names.Goals as goal
use Rattle.path_walk.proofs.walking.walk_names.Goals.{else-is_file-via-then-is_file+else-at-names, else-is_file-via-else-is_file}

pub returns-in_err-attr-clause-err : goal.returns-in_err-attr-clause-err
returns-in_err-attr-clause-err g c = on_err c.from_residual.result _
    (refused c.loop-at.invariant c.index-names-at.result (drop (c.loop-at.at + 1) c.args.names.now) (first_left c.args.names.now c.loop-at.at c.index-names-at.result c.loop-at-test.true c.index-names-at.is) c.in_err-attr.ensures.err)

pub returns-then-at-names-clause-ok : goal.returns-then-at-names-clause-ok
returns-then-at-names-clause-ok g c =
    let rest = drop (c.loop-at.at + 1) c.args.names.now in
    ended_at c.loop-at.invariant c.index-names-at.result rest (first_left c.args.names.now c.loop-at.at c.index-names-at.result c.loop-at-test.true c.index-names-at.is) c.in_ok-attr.field-0 c.in_ok-attr.ensures.ok
    c.in-Found.attr c.in-Found.is (file_ends c.in-Found.attr rest (sym c.is_file.ensures ∙ c.if-is_file.true) (let h = c.if-at-names.true in omega (arith, h, length-drop (c.loop-at.at + 1) c.args.names.now)))

pub returns-in-Missing-clause-ok : goal.returns-in-Missing-clause-ok
returns-in-Missing-clause-ok g c =
    ended_missing c.loop-at.invariant c.index-names-at.result (drop (c.loop-at.at + 1) c.args.names.now) (first_left c.args.names.now c.loop-at.at c.index-names-at.result c.loop-at-test.true c.index-names-at.is) c.in_ok-attr.field-0 c.in_ok-attr.ensures.ok c.in-Missing.is

pub returns-in-Unanswered-clause-ok : goal.returns-in-Unanswered-clause-ok
returns-in-Unanswered-clause-ok g c =
    ended_open c.loop-at.invariant c.index-names-at.result (drop (c.loop-at.at + 1) c.args.names.now) (first_left c.args.names.now c.loop-at.at c.index-names-at.result c.loop-at-test.true c.index-names-at.is) c.in_ok-attr.field-0 c.in_ok-attr.ensures.ok c.in-Unanswered.is

pub loop-at-preserved : goal.loop-at-preserved
loop-at-preserved g c =
    let rest = drop (c.loop-at.at + 1) c.args.names.now in
    let left = first_left c.args.names.now c.loop-at.at c.index-names-at.result c.loop-at-test.true c.index-names-at.is in
    elim c.else-is_file.branch [
      | else-is_file-via-then-is_file+else-at-names w ↦ goes_on c.loop-at.invariant c.index-names-at.result rest left c.in_ok-attr.field-0 c.in_ok-attr.ensures.ok c.in-Found.attr c.in-Found.is (last_ends_not c.in-Found.attr rest (let h = w.if-at-names.false in omega (arith, h, length-drop (c.loop-at.at + 1) c.args.names.now))) refl
      | else-is_file-via-else-is_file w ↦ goes_on c.loop-at.invariant c.index-names-at.result rest left c.in_ok-attr.field-0 c.in_ok-attr.ensures.ok c.in-Found.attr c.in-Found.is (dir_ends_not c.in-Found.attr rest (sym c.is_file.ensures ∙ w.if-is_file.false)) refl
    ]

pub returns-clause-ok : goal.returns-clause-ok
returns-clause-ok g c = arrived c.args.names.now c.loop-at.at c.loop-at.here _ _ c.loop-at-test.false c.loop-at.invariant

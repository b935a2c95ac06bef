use Rattle.std.proofs.Common.{arith}
use Rattle.std.proofs.lemmas.Bool.{MatchBool-at_true, MatchBool-at_false}
use Rattle.plain_dir.proofs.Checking.{nothing_yet, goes_on, reply_breaks, number_breaks, all_legal}
use Rattle.plain_dir.proofs.check.check_history.Goals as goal

pub loop-place-init : goal.loop-place-init
loop-place-init c = nothing_yet c.args.history.now c.new-dir.result c.new-numbers.result c.new-dir.ensures c.new-numbers.ensures

pub returns-then-not-branch : goal.returns-then-not-branch
returns-then-not-branch c = reply_breaks c.args.history.now c.loop-place.place c.loop-place.dir c.loop-place.numbers c.index-history-place.result c.loop-place.invariant (omega arith) c.index-history-place.is (MatchBool-at_false _ _ c.if-not-branch.true c.in_ok-takes.ensures)

pub returns-then-not-branch-2 : goal.returns-then-not-branch-2
returns-then-not-branch-2 c = number_breaks c.args.history.now c.loop-place.place c.loop-place.dir c.loop-place.numbers c.index-history-place.result c.loop-place.invariant (omega arith) c.index-history-place.is (MatchBool-at_false _ _ c.if-not-branch-2.true c.in_ok-give.ensures)

pub loop-place-preserved : goal.loop-place-preserved
loop-place-preserved c = goes_on c.args.history.now c.loop-place.place c.loop-place.dir c.takes.new.self c.loop-place.numbers c.give.new.self c.index-history-place.result c.loop-place.invariant (omega arith) c.index-history-place.is
    (MatchBool-at_true _ _ c.if-not-branch.false c.in_ok-takes.ensures) (MatchBool-at_true _ _ c.if-not-branch-2.false c.in_ok-give.ensures)

pub returns : goal.returns
returns c = all_legal c.args.history.now c.loop-place.place c.loop-place.dir c.loop-place.numbers c.loop-place.invariant (omega arith)

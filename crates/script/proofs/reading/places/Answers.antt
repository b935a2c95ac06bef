use Rattle.std.proofs.Common.{◌∙◌, sym, ap, ◌-◌, arith}
use Rattle.mds_base.specs.declared.limits.TheConstants.{BATCH_MOST}
use Rattle.script.specs.Reading.{numbers_at}
use Rattle.script.proofs.Batches.{behind_numbers, number_more, number_none, numbers_end, numbers_full, gives_none}
use Rattle.script.proofs.reading.places.Goals as goal
use Rattle.script.proofs.reading.places.Goals.{then-loop-most-test+else-not-is_end, else-loop-most-test}

pub returns-in_err-place : goal.returns-in_err-place
returns-in_err-place c = gives_none _ c.from_residual.result (numbers_at BATCH_MOST c.args.unread.now) c.from_residual.ensures.1
    (number_none c.loop-most.most c.loop-most.places c.loop-most.unread (numbers_at BATCH_MOST c.args.unread.now) c.loop-most-test.true (sym c.is_end.ensures ∙ c.if-not-is_end.true) c.in_err-place.ensures c.loop-most.invariant)

pub loop-most-preserved : goal.loop-most-preserved
loop-most-preserved c =
    ap (λ l. behind_numbers l (numbers_at (c.loop-most.most - 1) c.number.new.self)) c.in_ok-push.ensures.ok
    ∙ number_more c.loop-most.most c.loop-most.places c.loop-most.unread c.number.new.self c.in_ok-place.place (numbers_at BATCH_MOST c.args.unread.now) c.loop-most-test.true (sym c.is_end.ensures ∙ c.if-not-is_end.true) c.in_ok-place.ensures c.loop-most.invariant

pub returns : goal.returns
returns c = elim c.loop-most-test.branch [
  | then-loop-most-test+else-not-is_end w ↦ numbers_end c.loop-most.most c.loop-most.places c.loop-most.unread (numbers_at BATCH_MOST c.args.unread.now) (sym w.is_end.ensures ∙ w.if-not-is_end.false) c.loop-most.invariant
  | else-loop-most-test w ↦ numbers_full c.loop-most.most c.loop-most.places c.loop-most.unread (numbers_at BATCH_MOST c.args.unread.now) (let h = w.loop-most-test.false in omega (arith, h)) c.loop-most.invariant
]

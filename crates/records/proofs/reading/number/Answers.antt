use Rattle.std.proofs.Common.{arith}
use Rattle.records.proofs.Fields.{number_reads}
use Rattle.records.proofs.Numbers.{weight_pos, has_room, numbers_begin, no_byte, no_number, one_byte, numbers_end, weight_fits, leads_on, leads_off_low, leads_off_high}
use Rattle.records.proofs.reading.number.Goals as goal
use Rattle.records.proofs.reading.number.Goals.{then-value-least-via-then-value-least, then-value-least-via-else-value-least+then-most-weight}

pub loop-place-init : goal.loop-place-init
loop-place-init c = numbers_begin c.args.least c.args.most c.args.width c.args.bytes.now

pub returns-then-bytes-place-clause-gives : goal.returns-then-bytes-place-clause-gives
returns-then-bytes-place-clause-gives c = no_byte _ _ _ c.loop-place.value c.loop-place.place _ c.loop-place.invariant c.loop-place-test.true c.if-bytes-place.true

pub overflow_mul-value : goal.overflow_mul-value
overflow_mul-value c = let room = has_room c.loop-place.value c.loop-place.place c.args.width c.loop-place.invariant.below c.loop-place-test.true c.requires.0 in omega arith

pub overflow_add-value : goal.overflow_add-value
overflow_add-value c = let room = has_room c.loop-place.value c.loop-place.place c.args.width c.loop-place.invariant.below c.loop-place-test.true c.requires.0 in omega (arith, c.type_inv.bytes c.loop-place.place)

pub pow-weight-requires : goal.pow-weight-requires
pow-weight-requires c = let wide = c.requires.0 in weight_fits _ (omega arith)

pub nonzero_div-least : goal.nonzero_div-least
nonzero_div-least c = rw c.pow-weight.ensures (weight_pos _)

pub nonzero_div-most : goal.nonzero_div-most
nonzero_div-most c = rw c.pow-weight.ensures (weight_pos _)

pub returns-then-value-least-clause-gives : goal.returns-then-value-least-clause-gives
returns-then-value-least-clause-gives c =
    let bad = no_number _ _ _ c.loop-place.value c.loop-place.place _ c.loop-place.invariant c.loop-place-test.true (omega arith) in
    elim c.then-value-least.branch [
      | then-value-least-via-then-value-least w ↦ bad (leads_off_low c.args.least c.args.most _ _ _ c.pow-weight.ensures w.if-value-least.true)
      | then-value-least-via-else-value-least+then-most-weight w ↦ bad (leads_off_high c.args.least c.args.most _ _ _ c.pow-weight.ensures w.if-most-weight.true)
    ]

pub loop-place-preserved : goal.loop-place-preserved
loop-place-preserved c = one_byte _ _ _ c.loop-place.value c.loop-place.place _ c.loop-place.invariant c.loop-place-test.true (omega arith) (omega (arith, c.type_inv.bytes c.loop-place.place)) (leads_on c.args.least c.args.most _ _ _ c.pow-weight.ensures c.if-value-least.false c.if-most-weight.false)

pub returns-clause-gives : goal.returns-clause-gives
returns-clause-gives c = numbers_end _ _ _ c.loop-place.value c.loop-place.place _ c.loop-place.invariant (omega arith)

pub returns-clause-within : goal.returns-clause-within
returns-clause-within c =
    let gives = numbers_end _ _ _ c.loop-place.value c.loop-place.place _ c.loop-place.invariant (omega arith) in
    let read = (number_reads c.args.least c.args.most c.requires.1 c.args.width c.requires.2).decodes.found c.args.bytes.now c.loop-place.value _ (λ i. omega (arith, c.type_inv.bytes i)) gives in
    (read.spelled.low, read.spelled.high)

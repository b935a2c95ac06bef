use Rattle.std.proofs.Common.{◌∙◌, sym, ap, subst, ◌<◌, ◌^◌, get_or}
use Rattle.std.specs.Char.{digit_value}
use Rattle.std.proofs.lemmas.Bool.{MatchBool-at_true, MatchBool-at_false}
use Rattle.script.proofs.Numerals.{no_number, no_digit, too_great, product_great, sum_great, sum_is, begins_so, digit_more, whole_number}
use Rattle.script.proofs.number.number_of.Goals as goal

pub returns-then-not-begins_as_number : goal.returns-then-not-begins_as_number
returns-then-not-begins_as_number c = sym (no_number c.args.word.now (λ n fits is. MatchBool-at_false _ _ c.if-not-begins_as_number.true c.begins_as_number.ensures (begins_so c.args.word.now n fits is)))

pub returns-in_err-digit : goal.returns-in_err-digit
returns-in_err-digit c =
    c.from_residual.ensures
    ∙ sym (no_digit c.args.word.now c.loop-byte.byte-index c.loop-byte-test.true (λ digit. c.in_err-digit.ensures.value (subst (λ b. digit_value b < 10) (sym c.from.ensures) digit)))

pub returns-in_err-checked_mul : goal.returns-in_err-checked_mul
returns-in_err-checked_mul c =
    c.from_residual-in_err-checked_mul.ensures
    ∙ sym (too_great c.args.word.now c.loop-byte.byte-index c.loop-byte-test.true (product_great _ _ (digit_value (get_or c.args.word.now c.loop-byte.byte-index 0)) c.loop-byte.invariant.1 c.in_err-checked_mul.ensures))

pub returns-in_err-number : goal.returns-in_err-number
returns-in_err-number c =
    let digit = c.from-in-loop-byte.ensures ∙ c.in_ok-digit.ensures.value.1 ∙ ap digit_value c.from.ensures in
    c.from_residual-in_err-number.ensures
    ∙ sym (too_great c.args.word.now c.loop-byte.byte-index c.loop-byte-test.true (sum_great _ _ _ _ _ c.loop-byte.invariant.1 c.in_ok-checked_mul.ensures.1 digit c.in_err-number.ensures))

pub loop-byte-preserved : goal.loop-byte-preserved
loop-byte-preserved c =
    let digit = c.from-in-loop-byte.ensures ∙ c.in_ok-digit.ensures.value.1 ∙ ap digit_value c.from.ensures in
    let more = digit_more c.args.word.now c.loop-byte.byte-index c.loop-byte.number c.loop-byte-test.true c.loop-byte.invariant.0 c.loop-byte.invariant.1 (subst (λ b. digit_value b < 10) c.from.ensures c.in_ok-digit.ensures.value.0) in
    (more.0, sum_is _ _ _ _ _ c.in_ok-checked_mul.ensures.1 digit c.in_ok-number.ensures.1 ∙ more.1, subst (λ n. n < 2 ^ 64) (sym c.in_ok-number.ensures.1) c.in_ok-number.ensures.0)

pub returns : goal.returns
returns c =
    let begins = MatchBool-at_true _ _ c.if-not-begins_as_number.false c.begins_as_number.ensures in
    sym (whole_number c.args.word.now c.loop-byte.byte-index c.loop-byte.number c.loop-byte-test.false begins.0 begins.1 c.loop-byte.invariant.0 c.loop-byte.invariant.1 c.loop-byte.invariant.2)

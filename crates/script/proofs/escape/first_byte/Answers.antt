use Rattle.std.proofs.Common.{sym}
use Rattle.script.proofs.Unescaping.{front_plain, front_alone, front_short, front_unread, front_escape, at_none}
use Rattle.script.proofs.escape.first_byte.Goals as goal

pub returns-then-byte-ne37 : goal.returns-then-byte-ne37
returns-then-byte-ne37 c = front_plain c.args.word.now c.in_ok-byte.rest.now c.in_ok-byte.byte.now c.in_ok-byte.ensures.cases c.if-byte-ne37.true

pub returns-in_err-high : goal.returns-in_err-high
returns-in_err-high c = at_none c.from_residual-in_err-high.result _ _ c.from_residual-in_err-high.ensures (front_alone c.args.word.now c.in_ok-byte.rest.now c.in_ok-byte.byte.now c.in_ok-byte.ensures.cases c.if-byte-ne37.false c.in_err-high.ensures.cases)

pub returns-in_err-low : goal.returns-in_err-low
returns-in_err-low c = at_none c.from_residual-in_err-low.result _ _ c.from_residual-in_err-low.ensures (front_short c.args.word.now c.in_ok-byte.rest.now c.in_ok-high.rest.now c.in_ok-byte.byte.now c.in_ok-high.high.now c.in_ok-byte.ensures.cases c.if-byte-ne37.false c.in_ok-high.ensures.cases c.in_err-low.ensures.cases)

pub returns-in_err-byte-2 : goal.returns-in_err-byte-2
returns-in_err-byte-2 c = at_none c.from_residual-in_err-byte-2.result _ _ c.from_residual-in_err-byte-2.ensures (front_unread c.args.word.now c.in_ok-byte.rest.now c.in_ok-high.rest.now c.in_ok-low.rest.now c.in_ok-byte.byte.now c.in_ok-high.high.now c.in_ok-low.low.now c.in_ok-byte.ensures.cases c.if-byte-ne37.false c.in_ok-high.ensures.cases c.in_ok-low.ensures.cases (sym c.in_err-byte-2.ensures))

pub returns : goal.returns
returns c = front_escape c.args.word.now c.in_ok-byte.rest.now c.in_ok-high.rest.now c.in_ok-low.rest.now c.in_ok-byte.byte.now c.in_ok-high.high.now c.in_ok-low.low.now c.in_ok-byte-2.byte c.in_ok-byte.ensures.cases c.if-byte-ne37.false c.in_ok-high.ensures.cases c.in_ok-low.ensures.cases (sym c.in_ok-byte-2.ensures)

use Rattle.std.proofs.Common.{◌≡◌, ◌∙◌, sym, ap, arith}
use Rattle.records.specs.ReadingInstalls.{bit_in, is_grown}
use Rattle.records.proofs.BitmapBytes.{grown_none, grown_fails, grown_more}
use Rattle.records.proofs.reading_installs.is_grown.Goals as goal

pub loop-bit-init : goal.loop-bit-init
loop-bit-init c = grown_none (bit_in c.args.bytes.now) c.args.first

pub returns-then-not-may_stand : goal.returns-then-not-may_stand
returns-then-not-may_stand c = sym (grown_fails (bit_in c.args.bytes.now) c.args.first 8 c.loop-bit.bit c.loop-bit-test.true (sym c.may_stand.ensures ∙ c.if-not-may_stand.true))

pub loop-bit-preserved : goal.loop-bit-preserved
loop-bit-preserved c = grown_more (bit_in c.args.bytes.now) c.args.first c.loop-bit.bit c.loop-bit.invariant (sym c.may_stand.ensures ∙ c.if-not-may_stand.false)

pub returns : goal.returns
returns c = let all : c.loop-bit.bit ≡ 8 = omega arith in sym (sym (ap (is_grown (bit_in c.args.bytes.now) c.args.first) all) ∙ c.loop-bit.invariant)

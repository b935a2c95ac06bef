use Rattle.std.proofs.Common.{◌≡◌, ◌∙◌, sym, ap, arith}
use Rattle.records.specs.ReadingInstalls.{bit_in, has_required}
use Rattle.records.proofs.BitmapBytes.{required_none, required_fails, required_more}
use Rattle.records.proofs.reading_installs.has_required.Goals as goal

pub loop-depth-init : goal.loop-depth-init
loop-depth-init c = required_none (bit_in c.args.bytes.now) c.args.number

pub returns-then-not-has_under : goal.returns-then-not-has_under
returns-then-not-has_under c = sym (required_fails (bit_in c.args.bytes.now) c.args.number 10 c.loop-depth.depth c.loop-depth-test.true (sym c.has_under.ensures ∙ c.if-not-has_under.true))

pub loop-depth-preserved : goal.loop-depth-preserved
loop-depth-preserved c = required_more (bit_in c.args.bytes.now) c.args.number c.loop-depth.depth c.loop-depth.invariant (sym c.has_under.ensures ∙ c.if-not-has_under.false)

pub returns : goal.returns
returns c = let all : c.loop-depth.depth ≡ 10 = omega arith in sym (sym (ap (has_required (bit_in c.args.bytes.now) c.args.number) all) ∙ c.loop-depth.invariant)

use Rattle.std.proofs.Common.{◌<◌, ◌≤◌, ◌^◌, ◌*◌, arith}
use Rattle.mds_base.specs.declared.TheConstants.{RADIX}
use Rattle.bitmap.specs.Words.{word_bits}
use Rattle.bitmap.proofs.WordTests.{none_missing, missing_least, missing_no_more}
use Rattle.bitmap.proofs.missing.least_missing.Goals as goal

pub returns-then-missing-ne0 : goal.returns-then-missing-ne0
returns-then-missing-ne0 c =
    let fit : c.required_in.result < 2 ^ word_bits = omega (arith, c.required_in.type_inv) in
    missing_least c.args.words.now c.loop-row.row c.required_in.result c.told-words c.fits-words fit c.required_in.ensures c.loop-row.invariant (omega (arith, c.if-missing-ne0.true))

pub loop-row-preserved : goal.loop-row-preserved
loop-row-preserved c =
    missing_no_more c.args.words.now c.loop-row.row c.required_in.result c.told-words c.fits-words c.required_in.ensures c.loop-row.invariant c.if-missing-ne0.false

pub returns : goal.returns
returns c =
    let all : 2 ^ RADIX ≤ c.loop-row.row * word_bits = omega arith in
    none_missing (c.loop-row.row * word_bits) all c.loop-row.invariant

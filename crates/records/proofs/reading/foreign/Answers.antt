use Rattle.std.proofs.Common.{arith}
use Rattle.std.proofs.lemmas.Bool.Decides.{nat_tests}
use Rattle.records.proofs.Fields.{passes_over, begins_at, ends_plain}
use Rattle.records.proofs.reading.foreign.Goals as goal
use Rattle.records.proofs.reading.foreign.Goals.{then-byte-eq47-via-then-byte-eq47, then-byte-eq47-via-else-byte-eq47+then-byte-eq0}

pub returns-then-byte-eq47 : goal.returns-then-byte-eq47
returns-then-byte-eq47 c =
    let begins = begins_at c.args.bytes.now c.loop-place.place c.loop-place-test.true in (
      omega arith,
      omega arith,
      elim c.then-byte-eq47.branch [
        | then-byte-eq47-via-then-byte-eq47 w ↦ begins (grind (arith, nat_tests, w.if-byte-eq47.true)) c.loop-place.invariant
        | then-byte-eq47-via-else-byte-eq47+then-byte-eq0 w ↦ begins (grind (arith, nat_tests, w.if-byte-eq0.true)) c.loop-place.invariant
      ],
    )

pub loop-place-preserved : goal.loop-place-preserved
loop-place-preserved c = passes_over c.args.bytes.now c.loop-place.place c.loop-place-test.true (grind (arith, nat_tests, c.if-byte-eq47.false, c.if-byte-eq0.false)) c.loop-place.invariant

pub returns : goal.returns
returns c = ends_plain c.args.bytes.now c.loop-place.place (omega arith) c.loop-place.invariant

use Rattle.std.proofs.Common.{ℕ, ◌+◌, ◌*◌, sym, subst}
use Rattle.chains.specs.WellFormed.{IsRequired}
use Rattle.bitmap.specs.Bits.{has}
use Rattle.bitmap.specs.Words.{SpellsFrom, set_of, word_bits}
use Rattle.bitmap.proofs.WordTests.{required_root, required_more, required_same}
use Rattle.bitmap.proofs.missing.required_in.Goals as goal
use Rattle.bitmap.proofs.missing.required_in.Goals.{then-first-end, else-first-end}

pub loop-depth-init : goal.loop-depth-init
loop-depth-init c =
    required_root (has (set_of c.args.words.now)) c.args.row c.from-required.result c.from-required.ensures

pub loop-depth-preserved : goal.loop-depth-preserved
loop-depth-preserved c =
    let P : ℕ → Type 0 = SpellsFrom (IsRequired (c.loop-depth.depth + 1) (has (set_of c.args.words.now))) (c.args.row * word_bits) in
    elim c.if-first-end.branch [
      | then-first-end w ↦
          subst P (sym w.required-is)
          (required_more c.loop-depth.depth (c.args.row * word_bits) c.loop-depth.required w.bits_from.result w.low_bits.result w.power.result c.power-end.result (has (set_of c.args.words.now)) w.power.ensures c.power-end.ensures w.low_bits.ensures w.if-first-end.true c.loop-depth.invariant w.bits_from.ensures)
      | else-first-end w ↦
          subst P (sym w.required-is)
          (required_same c.loop-depth.depth (c.args.row * word_bits) c.loop-depth.required c.power-end.result (has (set_of c.args.words.now)) c.power-end.ensures w.if-first-end.false c.loop-depth.invariant)
    ]

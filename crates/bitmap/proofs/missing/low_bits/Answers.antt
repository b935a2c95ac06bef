use Rattle.std.proofs.Common.{◌≡◌, ◌-◌, ◌^◌, min, ap, ◌∙◌, arith}
use Rattle.std.proofs.lemmas.Nat.Bits.{ones_shr}
use Rattle.bitmap.specs.Words.{word_bits}
use Rattle.bitmap.proofs.missing.low_bits.Goals as goal

pub returns : goal.returns
returns c =
    let back : word_bits - (word_bits - c.min.result) ≡ min c.args.count word_bits = omega (arith, c.min.ensures) in
    ones_shr word_bits (word_bits - c.min.result) (omega arith) ∙ ap (λ k. 2 ^ k - 1) back

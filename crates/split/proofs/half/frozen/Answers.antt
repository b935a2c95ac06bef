use Rattle.std.proofs.Common.{◌≡◌, ◌∙◌, ap, sym, ◌≤◌, ◌%◌, ◌==◌, ◌/◌, ◌^◌, arith}
use Rattle.split.specs.Halves.{is_frozen}
use Rattle.split.proofs.Moving.{no_bit}
use Rattle.split.proofs.half.frozen.Goals as goal

pub returns-in-None : goal.returns-in-None
returns-in-None c =
    let deep : 64 ≤ c.in-Moving.depth = omega (arith, c.in-None.ensures) in
    sym (ap (λ state. is_frozen state c.args.hash) c.in-Moving.is ∙ ap (λ n. n % 2 == 1) (no_bit c.args.hash c.in-Moving.depth c.ranges.hash.fits deep))

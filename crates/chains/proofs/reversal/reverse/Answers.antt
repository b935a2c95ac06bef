use Rattle.std.proofs.Common.{◌≡◌, ◌∙◌, rules}
use Rattle.chains.proofs.Turns.{six_swaps, six_swaps_reverse}
use Rattle.chains.proofs.reversal.reverse.Goals as goal

pub returns : goal.returns
returns c =
    let is : c.swap.result ≡ six_swaps c.args.n = search rules in
    is ∙ six_swaps_reverse c.args.n

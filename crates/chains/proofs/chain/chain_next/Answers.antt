use Rattle.chains.proofs.Steps.{all_parts, part_within, last_by_rest, next_by_rest}
use Rattle.chains.proofs.chain.chain_next.Goals as goal

pub overflow_sub-rest : goal.overflow_sub-rest
overflow_sub-rest c = part_within _ (all_parts c.args.radix c.requires.fits) c.requires.on

pub returns-then-rest-eq0 : goal.returns-then-rest-eq0
returns-then-rest-eq0 c =
    last_by_rest _ (all_parts c.args.radix c.requires.fits) c.requires.on c.if-rest-eq0.true

pub returns : goal.returns
returns c =
    next_by_rest _ c.requires.fits (all_parts c.args.radix c.requires.fits) c.requires.on c.if-rest-eq0.false

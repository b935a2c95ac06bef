use Rattle.std.proofs.Common.{◌∙◌, sym, ap, Option}
use Rattle.block_cache.specs.Blocks.{Blocks}
use Rattle.row_store.specs.Caching.{held_of}
use Rattle.row_store.proofs.KeptBlocks.{used_same}
use Rattle.row_store.proofs.caching.promote.Goals as goal

pub returns-in-Some : goal.returns-in-Some
returns-in-Some c = λ place. used_same c.in-Some.cache c.promote.new.self c.args.place c.promote.ensures place ∙ ap (λ (k : Option Blocks). held_of k place) (sym c.in-Some.is)

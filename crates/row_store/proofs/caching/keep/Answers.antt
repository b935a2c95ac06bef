use Rattle.std.proofs.Common.{◌∷◌, [], sym, subst, Option, Some}
use Rattle.block_cache.specs.Blocks.{Blocks}
use Rattle.row_store.specs.Caching.{HoldsMore}
use Rattle.row_store.proofs.KeptBlocks.{kept_either}
use Rattle.row_store.proofs.caching.keep.Goals as goal

pub returns-in-Some : goal.returns-in-Some
returns-in-Some c = λ seen right.
    subst (λ (k : Option Blocks). HoldsMore k (Some c.keep-kept.new.self) (c.args.table.now ∷ []) seen) (sym c.in-Some.is)
    (kept_either c.keep-kept.result c.in-Some.cache c.keep-kept.new.self c.place_in.result c.args.table.now c.args.block c.args.bytes.now c.place_in.ensures c.keep-kept.ensures.ok c.keep-kept.ensures.err seen right)

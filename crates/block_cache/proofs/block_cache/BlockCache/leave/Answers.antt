use Rattle.std.proofs.Common.{◌<◌, ◌∙◌, sym, ap, subst, length, List, ℕ}
use Rattle.lru.specs.LruCache.{lru_cache}
use Rattle.block_cache.specs.Blocks.{Blocks, without}
use Rattle.block_cache.specs.declared.place.Place.{Place}
use Rattle.block_cache.proofs.Leaving.{fewer, rest_removed, rest_all}
use Rattle.block_cache.proofs.block_cache.BlockCache.leave.Goals as goal

pub loop-place-smaller : goal.loop-place-smaller
loop-place-smaller c =
    let entries = c.loop-place.self.entries in
    subst (λ (m : Blocks). length m.entries < length entries) (sym c.drop_block.ensures) (fewer c.in-Some.place entries c.in-Some.ensures.some.1)

pub loop-place-preserved : goal.loop-place-preserved
loop-place-preserved c =
    let blocks = c.loop-place.self in
    ap (λ (m : Blocks). without m c.args.file) c.drop_block.ensures
    ∙ ap (λ (es : List (Place × List ℕ)). lru_cache es blocks.cap) (rest_removed c.args.file c.in-Some.place c.in-Some.ensures.some.0 blocks.entries)
    ∙ c.loop-place.invariant

pub returns : goal.returns
returns c =
    let blocks = c.loop-place.self in
    sym (ap (λ (es : List (Place × List ℕ)). lru_cache es blocks.cap) (rest_all c.args.file blocks.entries c.in_default.ensures.none))
    ∙ c.loop-place.invariant

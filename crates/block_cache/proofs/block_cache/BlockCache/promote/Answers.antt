use Rattle.std.proofs.Common.{◌∙◌, ap, Vec, Global, ℕ, List}
use Rattle.lru.specs.LruCache.{LruCache, lru_cache}
use Rattle.block_cache.specs.Blocks.{Blocks, by_bytes, is_place, used}
use Rattle.block_cache.specs.declared.place.Place.{Place}
use Rattle.block_cache.proofs.Seen.{promoted_seen}
use Rattle.block_cache.proofs.block_cache.BlockCache.promote.Goals as goal

abbrev items : Vec ℕ Global → List ℕ
items buffer = buffer.items

pub returns : goal.returns
returns c =
    let blocks = c.self.inside.blocks in
    let place = c.args.place in
    ap (λ (m : LruCache Place (Vec ℕ Global)). lru_cache (by_bytes items m.entries) m.cap) c.promote.ensures.entries
    ∙ ap (λ es. lru_cache es blocks.cap) (promoted_seen items (is_place place) blocks.entries)
    ∙ ap (λ (m : Blocks). used m place) c.self.view_is

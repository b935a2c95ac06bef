use Rattle.std.proofs.Common.{◌∙◌, ap, Vec, Global, ℕ, List}
use Rattle.lru.specs.LruCache.{LruCache, lru_cache}
use Rattle.block_cache.specs.Blocks.{Blocks, by_bytes, is_place, kept}
use Rattle.block_cache.specs.declared.place.Place.{Place}
use Rattle.block_cache.proofs.Seen.{put_seen}
use Rattle.block_cache.proofs.block_cache.BlockCache.keep.Goals as goal

abbrev items : Vec ℕ Global → List ℕ
items buffer = buffer.items

pub returns-clause-ok : goal.returns-clause-ok
returns-clause-ok c =
    let blocks = c.self.inside.blocks in
    let place = c.args.place in
    ap (λ (m : LruCache Place (Vec ℕ Global)). lru_cache (by_bytes items m.entries) m.cap) c.in_ok-put.ensures.entries
    ∙ ap (λ es. lru_cache es blocks.cap) (put_seen items is_place blocks place c.in_ok-bytes.bytes)
    ∙ ap (λ (bytes : List ℕ). kept (lru_cache (by_bytes items blocks.entries) blocks.cap) place bytes) c.in_ok-bytes.ensures.items
    ∙ ap (λ (m : Blocks). kept m place c.args.bytes.now) c.self.view_is

-- Blocks of files that are kept in memory: the list of a cache of the least recently used, by places.
use Rattle.std.specs.Prelude.{◌≡◌, ◌≢◌, ℕ, ◌==◌, ◌&&◌, Bool, not, List, Option, filter, map}
use Rattle.std.specs.List.{AllByRecursion}
use Rattle.std.specs.Map.{lookup}
use Rattle.lru.specs.LruCache.{LruCache, lru_cache, promoted, put_entries}
use Rattle.block_cache.specs.declared.place.Place.{Place}

-- blocks by their places, the last one used first, and how many there may be
abbrev pub Blocks : Type 0
Blocks = LruCache Place (List ℕ)

-- whether two places are one
abbrev pub is_place : Place → Place → Bool
is_place a b = (a.file == b.file) && (a.block == b.block)

-- what is kept of a block
abbrev pub held : Blocks → Place → Option (List ℕ)
held blocks place = lookup (is_place place) blocks.entries

-- the cache once a block was used
abbrev pub used : Blocks → Place → Blocks
used blocks place = lru_cache (promoted (is_place place) blocks.entries) blocks.cap

-- the cache with these bytes of a block, as the last one used; where it is full, the first one used goes
abbrev pub kept : Blocks → Place → List ℕ → Blocks
kept blocks place bytes = lru_cache (put_entries is_place blocks place bytes) blocks.cap

-- whether a place is in another file
abbrev pub is_elsewhere : ℕ → Place → Bool
is_elsewhere file place = not (place.file == file)

-- the cache without the blocks of a file
abbrev pub without : Blocks → ℕ → Blocks
without blocks file = lru_cache (filter (λ e. is_elsewhere file e.0) blocks.entries) blocks.cap

-- no block of the file is kept
abbrev pub IsNoneOf : Blocks → ℕ → Type 0
IsNoneOf blocks file = AllByRecursion (λ e. e.0.file ≢ file) blocks.entries

-- entries by buffers, as entries by bytes
abbrev pub by_bytes : {X : Type 0} → (X → List ℕ) → List (Place × X) → List (Place × List ℕ)
by_bytes bytes entries = map (λ e. (e.0, bytes e.1)) entries

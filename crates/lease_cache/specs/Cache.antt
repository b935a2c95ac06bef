-- The leases that a client keeps: the list of a cache of the least recently used, by places, the last one used first.
use Rattle.std.specs.Prelude.{ℕ, ◌==◌, ◌&&◌, Bool, List, Option, Some, None, if◌then◌else◌, nat_eq, nat_lt, is_some}
use Rattle.std.specs.Cmp.Lexicographic.{pointwise}
use Rattle.std.specs.Map.{lookup, remove_entry}
use Rattle.lru.specs.LruCache.{LruCache, lru_cache, promoted, put_entries}
use Rattle.mds_base.specs.declared.attr.Attr.{Attr}
use Rattle.mds_base.specs.Entries.{Place}
use Rattle.lease_cache.specs.declared.lease.Lease.{Lease}

abbrev pub Cache : Type 0
Cache = LruCache Place Lease

-- whether two places are one
abbrev pub is_place : Place → Place → Bool
is_place a b = (a.0 == b.0) && pointwise nat_eq a.1 b.1

-- what a lease says at this moment: its attributes until it ends
abbrev pub said_at : ℕ → Option Lease → Option Attr
said_at now None = None
said_at now (Some lease) = if nat_lt now lease.until then Some lease.attr else None

-- what is kept of a place with an end above this moment
abbrev pub answered : Cache → Place → ℕ → Option Attr
answered cache place now = said_at now (lookup (is_place place) cache.entries)

-- the cache once it was asked: a lease that was answered is the last one used
abbrev pub used : Cache → Place → ℕ → Cache
used cache place now =
    if is_some (answered cache place now) then lru_cache (promoted (is_place place) cache.entries) cache.cap else cache

-- the cache with this lease of the place, as the last one used; where it is full, the first one used goes
abbrev pub kept : Cache → Place → Lease → Cache
kept cache place lease = lru_cache (put_entries is_place cache place lease) cache.cap

-- the cache without the place
abbrev pub dropped : Cache → Place → Cache
dropped cache place = lru_cache (remove_entry (is_place place) cache.entries) cache.cap

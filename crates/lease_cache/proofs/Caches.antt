-- What the calls of `lru` do to a cache by keys, as what they do to the cache by places.
use Rattle.std.proofs.Common.{◌≡◌, ◌∙◌, sym, ap, ℕ, Bool, true, cond, List, Option, Some, None, Vec, Global, subst, ◌<◌, ◌≤◌}
use Rattle.std.specs.Prelude.{is_some}
use Rattle.std.specs.Map.{lookup, remove_entry}
use Rattle.std.proofs.lemmas.Bool.{lt-ltb, le-ltb}
use Rattle.lru.specs.LruCache.{LruCache, lru_cache, promoted, put_entries}
use Rattle.mds_base.specs.declared.attr.Attr.{Attr}
use Rattle.mds_base.specs.Entries.{Place}
use Rattle.lease_cache.specs.declared.lease.Lease.{Lease}
use Rattle.lease_cache.specs.Cache.{Cache, is_place, said_at, answered, used, kept, dropped}
use Rattle.lease_cache.specs.Keys.{place_of, IsKey, by_places, AreKeyed}
use Rattle.lease_cache.proofs.Places.{is_key, same_key, lookup_by, remove_by, promoted_by, put_by}

-- the cache as `lru` has it, and as contracts see it
abbrev pub Leases : Type 0
Leases = LruCache (Vec ℕ Global) Lease

abbrev pub bytes : Vec ℕ Global → List ℕ
bytes k = k.items

abbrev pub seen : Leases → Cache
seen c = lru_cache (by_places bytes c.entries) c.cap

-- a key that was read from another place has the same bytes
pub keyed_as : (key other : List ℕ) → key ≡ other → IsKey other → IsKey key
keyed_as key other is keyed = subst IsKey (sym is) keyed

module _ (c : Leases) (are : AreKeyed bytes c.entries) (cache : Cache) (view : seen c ≡ cache) where
  module _ (key : List ℕ) (keyed : IsKey key) (place : Place) (is : place_of key ≡ place) where
    pub said_is : (o : Option Lease) (now : ℕ) → o ≡ lookup (is_key bytes key) c.entries → said_at now o ≡ answered cache place now
    said_is o now found = ap (said_at now) (found ∙ lookup_by bytes key keyed c.entries are) ∙ ap (λ p. answered (seen c) p now) is ∙ ap (λ m. answered m place now) view

    pub live_is : (lease : Lease) (now : ℕ) → Some lease ≡ lookup (is_key bytes key) c.entries → now < lease.until → Some lease.attr ≡ answered cache place now
    live_is lease now found live = sym (ap (λ b. cond b (Some lease.attr) None) (lt-ltb now lease.until live)) ∙ said_is (Some lease) now found

    pub over_is : (lease : Lease) (now : ℕ) → Some lease ≡ lookup (is_key bytes key) c.entries → lease.until ≤ now → None ≡ answered cache place now
    over_is lease now found over = sym (ap (λ b. cond b (Some lease.attr) None) (le-ltb now lease.until over)) ∙ said_is (Some lease) now found

    pub used_is : (new : Leases) (now : ℕ) (attr : Attr) → new ≡ lru_cache (promoted (is_key bytes key) c.entries) c.cap → answered cache place now ≡ Some attr → seen new ≡ used cache place now
    used_is new now attr to answer =
        ap seen to
        ∙ ap (λ es. lru_cache es c.cap) (promoted_by bytes key keyed c.entries are)
        ∙ ap (λ p. lru_cache (promoted (is_place p) (by_places bytes c.entries)) c.cap) is
        ∙ ap (λ (m : Cache). lru_cache (promoted (is_place place) m.entries) m.cap) view
        ∙ sym (ap (λ o. cond (is_some o) (lru_cache (promoted (is_place place) cache.entries) cache.cap) cache) answer)

    pub dropped_is : (new : Leases) → new ≡ lru_cache (remove_entry (is_key bytes key) c.entries) c.cap → seen new ≡ dropped cache place
    dropped_is new to =
        ap seen to
        ∙ ap (λ es. lru_cache es c.cap) (remove_by bytes key keyed c.entries are)
        ∙ ap (λ p. lru_cache (remove_entry (is_place p) (by_places bytes c.entries)) c.cap) is
        ∙ ap (λ (m : Cache). dropped m place) view

  pub kept_is : (new : Leases) (k : Vec ℕ Global) (lease : Lease) (place : Place) → IsKey (bytes k) → place_of (bytes k) ≡ place → new ≡ lru_cache (put_entries (same_key bytes) c k lease) c.cap → seen new ≡ kept cache place lease
  kept_is new k lease place keyed is to =
      ap seen to
      ∙ ap (λ es. lru_cache es c.cap) (put_by bytes c k lease keyed are)
      ∙ ap (λ p. kept (seen c) p lease) is
      ∙ ap (λ (m : Cache). kept m place lease) view

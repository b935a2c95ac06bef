-- What is kept in a cache, and what is answered from it.
use Rattle.std.proofs.Common.{◌≡◌, ◌∙◌, sym, ap, refl, ℕ, Bool, true, false, cond, List, Contains, Option, Some, None, subst, inl, inr, ◌⊎◌, ◌<◌, nat_lt}
use Rattle.std.specs.Prelude.{is_some}
use Rattle.std.specs.Map.{lookup, remove_entry}
use Rattle.std.specs.Cmp.{IsEquivalence}
use Rattle.std.proofs.lemmas.Bool.{lt-ltb, ltb-true, and_parts, false≢true}
use Rattle.std.proofs.lemmas.Option.{same_Some}
use Rattle.lru.specs.LruCache.{lru_cache, promoted}
use Rattle.lru.proofs.CallerLemmas.{Contains-lookup, Contains-remove_entry, Contains-promoted, Contains-put_entries, lookup-put_entries}
use Rattle.mds_base.specs.declared.attr.Attr.{Attr}
use Rattle.mds_base.specs.Entries.{Place}
use Rattle.lease_cache.specs.declared.lease.Lease.{Lease}
use Rattle.lease_cache.specs.Cache.{Cache, is_place, said_at, answered, used, kept, dropped}
use Rattle.lease_cache.proofs.Places.{one_place, place_itself}

-- ---- places by their test

one_bool : (a b : Bool) → (a ≡ true → b ≡ true) → (b ≡ true → a ≡ true) → a ≡ b
one_bool true b f g = sym (f refl)
one_bool false true f g = g refl
one_bool false false f g = refl

places_equal : IsEquivalence is_place
places_equal = record {
  refl = place_itself;
  symm = λ a b. one_bool (is_place a b) (is_place b a) (λ same. subst (λ p. is_place p a ≡ true) (one_place a b same) (place_itself a)) (λ same. subst (λ p. is_place p b ≡ true) (one_place b a same) (place_itself b));
  congr = λ a b c same. ap (λ p. is_place p c) (one_place a b same);
}

-- ---- answers

said_some : (now : ℕ) (lease : Lease) (attr : Attr) → said_at now (Some lease) ≡ Some attr → (lease.attr ≡ attr) × (now < lease.until)
said_some now lease attr is =
    (elim (nat_lt now lease.until) as (λ b. nat_lt now lease.until ≡ b → cond b (Some lease.attr) None ≡ Some attr → (lease.attr ≡ attr) × (now < lease.until)) [
      | true ↦ λ above is. (same_Some lease.attr attr is, ltb-true now lease.until above)
      | false ↦ λ over is. absurd (false≢true (ap is_some is))
    ]) refl is

pub answered_kept : (cache : Cache) (place : Place) (now : ℕ) (attr : Attr) → answered cache place now ≡ Some attr → (lease : Lease) × (Contains cache.entries (place, lease)) × (lease.attr ≡ attr) × (now < lease.until)
answered_kept cache place now attr is =
    (elim (lookup (is_place place) cache.entries) as (λ o. lookup (is_place place) cache.entries ≡ o → said_at now o ≡ Some attr → (lease : Lease) × (Contains cache.entries (place, lease)) × (lease.attr ≡ attr) × (now < lease.until)) [
      | None ↦ λ found said. absurd (false≢true (ap is_some said))
      | Some lease ↦ λ found said.
          let there = Contains-lookup (is_place place) cache.entries lease found in
          let facts = said_some now lease attr said in
          (lease, subst (λ (p : Place). Contains cache.entries (p, lease)) (sym (one_place place there.0 there.2)) there.1, facts.0, facts.1)
    ]) refl is

pub kept_answered : (cache : Cache) (place : Place) (lease : Lease) (now : ℕ) → now < lease.until → answered (kept cache place lease) place now ≡ Some lease.attr
kept_answered cache place lease now above =
    ap (said_at now) (lookup-put_entries is_place cache place lease places_equal)
    ∙ ap (λ b. cond b (Some lease.attr) None) (lt-ltb now lease.until above)

-- ---- entries

pub from_kept : (cache : Cache) (place : Place) (lease : Lease) (entry : Place × Lease) → Contains (kept cache place lease).entries entry → Contains cache.entries entry ⊎ (entry ≡ (place, lease))
from_kept cache place lease entry there = elim (Contains-put_entries is_place cache place lease entry there) [
  | inl before ↦ inl before
  | inr put ↦ inr (elim put.1 [
    | inl same ↦ λ i. (same i, put.0 i)
    | inr other ↦ let same = sym (one_place place entry.0 other.2) in λ i. (same i, put.0 i)
  ])
]

pub from_used : (cache : Cache) (place : Place) (now : ℕ) (entry : Place × Lease) → Contains (used cache place now).entries entry → Contains cache.entries entry
from_used cache place now entry there =
    (elim (is_some (answered cache place now)) as (λ b. Contains (cond b (lru_cache (promoted (is_place place) cache.entries) cache.cap) cache).entries entry → Contains cache.entries entry) [
      | true ↦ λ there. Contains-promoted (is_place place) cache.entries entry there
      | false ↦ λ there. there
    ]) there

pub from_dropped : (cache : Cache) (place : Place) (entry : Place × Lease) → Contains (dropped cache place).entries entry → Contains cache.entries entry
from_dropped cache place entry there = Contains-remove_entry (is_place place) cache.entries entry there

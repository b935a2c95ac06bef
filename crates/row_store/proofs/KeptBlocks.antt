-- Blocks that are kept in memory, along the calls of a store.
use Rattle.std.proofs.Common.{◌≡◌, ◌≢◌, ◌⊎◌, inl, inr, ⊎_elim, ◌∙◌, sym, ap, subst, refl, ℕ, zero, suc, true, false, List, [], ◌∷◌, ◌++◌, length, ◌-◌, ◌≤◌, take, drop, Option, Some, None, Result, Ok, Err, arith}
use Rattle.std.specs.Prelude.{◌==◌, is_some, IfSome, IsSome, OnOk, OnErr}
use Rattle.std.proofs.lemmas.List.{take_all, length-drop}
use Rattle.std.proofs.lemmas.Bool.{eqb-true, eq-eqb, false≢true}
use Rattle.std.proofs.lemmas.Option.{same_Some}
use Rattle.block_cache.specs.Blocks.{Blocks, is_place, held, used, kept as kept_with, without}
use Rattle.block_cache.specs.declared.place.Place.{Place}
use Rattle.block_cache.proofs.Found.{kept_found, others_kept, used_found, none_left, others_stay}
use Rattle.block_cache.proofs.Leaving.{one_place, place_itself}
use Rattle.mds_base.specs.declared.row_key.RowKey.{RowKey}
use Rattle.mds_out.specs.Disk.{Contents}
use Rattle.mds_out.specs.Known.{OnTold}
use Rattle.row_store.specs.Caching.{held_of, IsEmpty, place_in, IsBlock, IsFileOf, AreRight, AreCached, HoldSame, HoldsMore, HaveLeft, IsWarm, AreWarm}
use Rattle.row_store.specs.Parts.{in_front}
use Rattle.row_store.proofs.Pendings.{AllIn}
use Rattle.mds_base.specs.declared.store_fault.StoreFault.TheVariants.{Device}
use Rattle.row_store.specs.Answers.{IsLookAnswer, table_fault_of}
use Rattle.sorted_table.specs.Answers as answers
use Rattle.sorted_table.specs.declared.fault.TableFault.{TableFault}
use Rattle.sorted_table.specs.declared.fault.TableFault.TheVariants as table
use Rattle.sorted_table.specs.Looks.{bytes_at}
use Rattle.sorted_table.specs.Tables.{TableState}

-- ---- what may be there

module _ {X : Type 0} where
  if_some : (o : Option X) (P Q : X → Type 0) → ((x : X) → P x → Q x) → IfSome o P → IfSome o Q
  if_some None P Q f is = tt
  if_some (Some x) P Q f is = f x is

  if_held : (o : Option X) (P : X → Type 0) → ((x : X) → o ≡ Some x → P x) → IfSome o P
  if_held None P f = tt
  if_held (Some x) P f = f x refl

  at_some : (o : Option X) (P : X → Type 0) (x : X) → o ≡ Some x → IfSome o P → P x
  at_some None P x is all = absurd cc
  at_some (Some y) P x is all = subst P (same_Some y x is) all

  the_one : (o : Option X) (P : X → Type 0) → IsSome o → IfSome o P → (x : X) × P x
  the_one None P some all = absurd cc
  the_one (Some x) P some all = (x, all)

-- ---- where the files stay

pub right_on : (cache : Option Blocks) (seen seen' : Contents) → ((place : Place) → IsSome (held_of cache place) → seen' place.file ≡ seen place.file) → AreRight cache seen → AreRight cache seen'
right_on cache seen seen' same right = λ place. if_held (held_of cache place) (IsBlock seen' place) (λ bytes is.
    subst (λ (told : Option (List ℕ)). OnTold told (λ file. bytes ≡ bytes_at place.block file)) (sym (same place (ap is_some is))) (at_some (held_of cache place) (IsBlock seen place) bytes is (right place)))

file_in : (kept : ℕ → Type 0) (tables : List TableState) → AllIn kept tables → (file : ℕ) → IsFileOf tables file → kept file
file_in kept [] all file is = absurd is
file_in kept (table ∷ tables) all file (inl same) = subst kept same all.0
file_in kept (table ∷ tables) all file (inr more) = file_in kept tables all.1 file more

pub cached_kept : (kept : ℕ → Type 0) (seen seen' : Contents) → ((file : ℕ) → kept file → seen' file ≡ seen file) → (cache : Option Blocks) (tables : List TableState) → AllIn kept tables → AreCached cache tables seen → AreCached cache tables seen'
cached_kept kept seen seen' bytes cache tables all cached = record {
  right = right_on cache seen seen' (λ place some. bytes place.file (file_in kept tables all place.file (cached.only place some))) cached.right;
  only = cached.only;
}

pub cached_same : (seen seen' : Contents) → ((file : ℕ) → seen' file ≡ seen file) → (cache : Option Blocks) (tables : List TableState) → AreCached cache tables seen → AreCached cache tables seen'
cached_same seen seen' same cache tables cached = record { right = right_on cache seen seen' (λ place _. same place.file) cached.right; only = cached.only }

-- ---- where nothing is kept, or no table is open

pub cached_empty : (cache : Option Blocks) → IsEmpty cache → (tables : List TableState) (seen : Contents) → AreCached cache tables seen
cached_empty cache empty tables seen = record {
  right = λ place. subst (λ (o : Option (List ℕ)). IfSome o (IsBlock seen place)) (sym (empty place)) tt;
  only = λ place some. absurd (false≢true (sym (ap is_some (empty place)) ∙ some));
}

pub cached_none : (cache : Option Blocks) (tables : List TableState) (seen seen' : Contents) → tables ≡ [] → AreCached cache tables seen → AreCached cache tables seen'
cached_none cache tables seen seen' none cached = record {
  right = right_on cache seen seen' (λ place some. absurd (subst (λ (ts : List TableState). IsFileOf ts place.file) none (cached.only place some))) cached.right;
  only = cached.only;
}

-- ---- other tables

pub cached_front : (cache : Option Blocks) (table : Option TableState) (tables : List TableState) (seen : Contents) → AreCached cache tables seen → AreCached cache (in_front table tables) seen
cached_front cache None tables seen cached = cached
cached_front cache (Some table) tables seen cached = record { right = cached.right; only = λ place some. inr (cached.only place some) }

in_take : (newer : ℕ) (tables more : List TableState) (file : ℕ) → IsFileOf tables file → (IsFileOf (drop newer tables) file → ⊥) → IsFileOf (take newer tables ++ more) file
in_take zero [] more file is none = absurd is
in_take zero (table ∷ tables) more file is none = absurd (none is)
in_take (suc newer) [] more file is none = absurd is
in_take (suc newer) (table ∷ tables) more file (inl same) none = inl same
in_take (suc newer) (table ∷ tables) more file (inr later) none = inr (in_take newer tables more file later none)

module _ (old new : Option Blocks) (seen : Contents) where
  pub cached_left : (newer : ℕ) (tables more : List TableState) → HaveLeft (drop newer tables) old new → AreCached old tables seen → AreCached new (take newer tables ++ more) seen
  cached_left newer tables more left cached = record {
    right = λ place. if_some (held_of new place) _ (IsBlock seen place) (λ bytes facts. at_some (held_of old place) (IsBlock seen place) bytes facts.0 (cached.right place)) (left place);
    only = λ place some. (let it = the_one (held_of new place) _ some (left place) in in_take newer tables more place.file (cached.only place (ap is_some it.1.0)) it.1.1);
  }

  -- ---- what was read is kept

  pub right_more : (tables : List TableState) → HoldsMore old new tables seen → AreRight old seen → AreRight new seen
  right_more tables more right = λ place. if_some (held_of new place) _ (IsBlock seen place)
      (λ bytes fact. ⊎_elim (λ was. at_some (held_of old place) (IsBlock seen place) bytes was (right place)) (λ it. it.1) fact) (more place)

  pub cached_more : (tables : List TableState) → HoldsMore old new tables seen → AreCached old tables seen → AreCached new tables seen
  cached_more tables more cached = record {
    right = right_more tables more cached.right;
    only = λ place some. (let it = the_one (held_of new place) _ some (more place) in ⊎_elim (λ was. cached.only place (ap is_some was)) (λ read. read.0) it.1);
  }

  pub more_same : (tables : List TableState) → HoldSame old new → HoldsMore old new tables seen
  more_same tables same = λ place. if_held (held_of new place) _ (λ bytes is. inl (sym (same place) ∙ is))

  pub more_after : (mid : Option Blocks) (tables : List TableState) → HoldSame old mid → HoldsMore mid new tables seen → HoldsMore old new tables seen
  more_after mid tables same more = λ place. if_some (held_of new place) _ _ (λ bytes fact. ⊎_elim (λ was. inl (sym (same place) ∙ was)) (λ read. inr read) fact) (more place)

  pub more_then : (mid : Option Blocks) (table : TableState) (older tables : List TableState) → tables ≡ table ∷ older → HoldsMore old mid (table ∷ []) seen → HoldsMore mid new older seen → HoldsMore old new tables seen
  more_then mid table older tables split first second =
      subst (λ (ts : List TableState). HoldsMore old new ts seen) (sym split) (λ place. if_some (held_of new place) _ _ (λ bytes fact. ⊎_elim (earlier place bytes) (λ read. inr (inr read.0, read.1)) fact) (second place))
    where
      front : (file : ℕ) → IsFileOf (table ∷ []) file → IsFileOf (table ∷ older) file
      front file (inl same) = inl same
      front file (inr none) = absurd none

      earlier : (place : Place) (bytes : List ℕ) → held_of mid place ≡ Some bytes → (held_of old place ≡ Some bytes) ⊎ (IsFileOf (table ∷ older) place.file × IsBlock seen place bytes)
      earlier place bytes was = ⊎_elim (λ before. inl before) (λ read. inr (front place.file read.0, read.1))
          (at_some (held_of mid place) (λ b. (held_of old place ≡ Some b) ⊎ (IsFileOf (table ∷ []) place.file × IsBlock seen place b)) bytes was (first place))

  pub more_front : (table : TableState) (older tables : List TableState) → tables ≡ table ∷ older → HoldsMore old new (table ∷ []) seen → HoldsMore old new tables seen
  more_front table older tables split first =
      subst (λ (ts : List TableState). HoldsMore old new ts seen) (sym split) (λ place. if_some (held_of new place) _ _ (λ bytes fact. ⊎_elim (λ before. inl before) (λ read. inr (front place.file read.0, read.1)) fact) (first place))
    where
      front : (file : ℕ) → IsFileOf (table ∷ []) file → IsFileOf (table ∷ older) file
      front file (inl same) = inl same
      front file (inr none) = absurd none

pub more_here : (cache : Option Blocks) (tables : List TableState) (seen : Contents) → HoldsMore cache cache tables seen
more_here cache tables seen = λ place. if_held (held_of cache place) _ (λ bytes is. inl is)

-- ---- warm tables

module _ (old new : Option Blocks) (same : HoldSame old new) (key : RowKey) where
  warm_same : (table : TableState) → IsWarm old key table → IsWarm new key table
  warm_same table warm = λ block is within. ap is_some (same (place_in table block)) ∙ warm block is within

  pub warms_same : (tables : List TableState) → AreWarm old key tables → AreWarm new key tables
  warms_same [] warm = tt
  warms_same (table ∷ tables) warm = (warm_same table warm.0, warms_same tables warm.1)

-- ---- the calls of a cache

pub used_same : (blocks blocks' : Blocks) (place : Place) → blocks' ≡ used blocks place → HoldSame (Some blocks) (Some blocks')
used_same blocks blocks' place to = λ other. ap (λ (b : Blocks). held b other) to ∙ used_found blocks place other

pub kept_more : (blocks blocks' : Blocks) (table : TableState) (block : ℕ) (bytes : List ℕ) → blocks' ≡ kept_with blocks (place_in table block) bytes → (seen : Contents) → IsBlock seen (place_in table block) bytes → HoldsMore (Some blocks) (Some blocks') (table ∷ []) seen
kept_more blocks blocks' table block bytes to seen right = λ place. if_held (held blocks' place) _ (λ found is. which place found is)
  where
    here : Place
    here = place_in table block

    apart : (place : Place) → is_place place here ≡ false → place ≢ here
    apart place differ same = false≢true (sym differ ∙ ap (λ (p : Place). is_place p here) same ∙ place_itself here)

    it_is : (found : List ℕ) → held blocks' here ≡ Some found → bytes ≡ found
    it_is found is = same_Some bytes found (sym (kept_found blocks here bytes) ∙ sym (ap (λ (b : Blocks). held b here) to) ∙ is)

    at_here : (place : Place) (found : List ℕ) → place ≡ here → held blocks' place ≡ Some found → IsFileOf (table ∷ []) place.file × IsBlock seen place found
    at_here place found same is = (
      inl (sym (ap (λ (p : Place). p.file) same)),
      subst (λ (p : Place). IsBlock seen p found) (sym same) (subst (IsBlock seen here) (it_is found (subst (λ (p : Place). held blocks' p ≡ Some found) same is)) right),
    )

    which : (place : Place) (found : List ℕ) → held blocks' place ≡ Some found → (held blocks place ≡ Some found) ⊎ (IsFileOf (table ∷ []) place.file × IsBlock seen place found)
    which place found is =
        (elim (is_place place here) as (λ b. is_place place here ≡ b → (held blocks place ≡ Some found) ⊎ (IsFileOf (table ∷ []) place.file × IsBlock seen place found)) [
          | true ↦ λ same. inr (at_here place found (one_place place here same) is)
          | false ↦ λ differ. inl (others_kept here place (apart place differ) blocks bytes found (sym (ap (λ (b : Blocks). held b place) to) ∙ is))
        ]) refl

pub left_one : (blocks blocks' : Blocks) (table : TableState) → blocks' ≡ without blocks table.file → HaveLeft (table ∷ []) (Some blocks) (Some blocks')
left_one blocks blocks' table to = λ place. if_held (held blocks' place) _ (λ bytes is. which place bytes (sym (ap (λ (b : Blocks). held b place) to) ∙ is))
  where
    none_of : (place : Place) → place.file ≢ table.file → IsFileOf (table ∷ []) place.file → ⊥
    none_of place other (inl same) = other (sym same)
    none_of place other (inr none) = none

    which : (place : Place) (bytes : List ℕ) → held (without blocks table.file) place ≡ Some bytes → (held blocks place ≡ Some bytes) × (IsFileOf (table ∷ []) place.file → ⊥)
    which place bytes is =
        (elim (place.file == table.file) as (λ b. (place.file == table.file) ≡ b → (held blocks place ≡ Some bytes) × (IsFileOf (table ∷ []) place.file → ⊥)) [
          | true ↦ λ same. absurd (false≢true (sym (ap is_some (none_left blocks table.file place (eqb-true place.file table.file same))) ∙ ap is_some is))
          | false ↦ λ differ.
              let other : place.file ≢ table.file = λ same. false≢true (sym differ ∙ eq-eqb place.file table.file same) in
              (sym (others_stay blocks table.file place other) ∙ is, none_of place other)
        ]) refl

pub left_then : (old mid new : Option Blocks) (table : TableState) (rest tables : List TableState) → tables ≡ table ∷ rest → HaveLeft (table ∷ []) old mid → HaveLeft rest mid new → HaveLeft tables old new
left_then old mid new table rest tables split first second =
    subst (λ (ts : List TableState). HaveLeft ts old new) (sym split) (λ place. if_some (held_of new place) _ _ (λ bytes fact. earlier place bytes fact.0 fact.1) (second place))
  where
    neither : (file : ℕ) → (IsFileOf (table ∷ []) file → ⊥) → (IsFileOf rest file → ⊥) → IsFileOf (table ∷ rest) file → ⊥
    neither file one more (inl same) = one (inl same)
    neither file one more (inr later) = more later

    earlier : (place : Place) (bytes : List ℕ) → held_of mid place ≡ Some bytes → (IsFileOf rest place.file → ⊥) → (held_of old place ≡ Some bytes) × (IsFileOf (table ∷ rest) place.file → ⊥)
    earlier place bytes was none =
        let it = at_some (held_of mid place) (λ b. (held_of old place ≡ Some b) × (IsFileOf (table ∷ []) place.file → ⊥)) bytes was (first place) in
        (it.0, neither place.file it.1 none)

pub left_none : (cache : Option Blocks) (tables : List TableState) → tables ≡ [] → HaveLeft tables cache cache
left_none cache tables none = subst (λ (ts : List TableState). HaveLeft ts cache cache) (sym none) (λ place. if_held (held_of cache place) _ (λ bytes is. (is, λ never. never)))

-- after a look through a store's tables
pub cached_after : (old new : Option Blocks) (tables looked : List TableState) (seen seen' : Contents) → looked ≡ tables → ((file : ℕ) → seen' file ≡ seen file) → HoldsMore old new looked seen → AreCached old tables seen → AreCached new tables seen'
cached_after old new tables looked seen seen' same stays more cached =
    cached_same seen seen' stays new tables (cached_more old new seen tables (subst (λ (ts : List TableState). HoldsMore old new ts seen) same more) cached)

-- ---- what a table answers by a block

pub held_answer : (T U : Type 0) (file : ℕ) (fault : TableFault) (tells damaged : Type 0) → (damaged → tells → ⊥) → answers.IsHeldAnswer {T = T} damaged (Err fault) → IsLookAnswer {T = U} tells (Err (table_fault_of file fault))
held_answer T U file table.Device tells damaged never answer = absurd answer
held_answer T U file (table.Damaged place damage) tells damaged never answer = λ all. never answer all
held_answer T U file table.OutOfMemory tells damaged never answer = absurd answer

pub held_no_fault : (T : Type 0) (file : ℕ) (fault : TableFault) (damaged : Type 0) → answers.IsHeldAnswer {T = T} damaged (Err fault) → table_fault_of file fault ≡ Device → ⊥
held_no_fault T file table.Device damaged answer is = answer
held_no_fault T file (table.Damaged place damage) damaged answer is = cc
held_no_fault T file table.OutOfMemory damaged answer is = cc

pub device_answer : (T U : Type 0) (file : ℕ) (fault : TableFault) (tells : Type 0) → answers.IsDeviceAnswer {T = T} (Err fault) → IsLookAnswer {T = U} tells (Err (table_fault_of file fault))
device_answer T U file table.Device tells answer = tt
device_answer T U file (table.Damaged place damage) tells answer = absurd answer
device_answer T U file table.OutOfMemory tells answer = absurd answer

-- ---- one call of a cache

pub kept_either : {T E : Type 0} (result : Result T E) (blocks blocks' : Blocks) (place : Place) (table : TableState) (block : ℕ) (bytes : List ℕ) → place ≡ place_in table block → OnOk result (blocks' ≡ kept_with blocks place bytes) → OnErr result (blocks' ≡ blocks)
    → (seen : Contents) → IsBlock seen (place_in table block) bytes → HoldsMore (Some blocks) (Some blocks') (table ∷ []) seen
kept_either (Ok x) blocks blocks' place table block bytes is ok err = kept_more blocks blocks' table block bytes (ok ∙ ap (λ (p : Place). kept_with blocks p bytes) is)
kept_either (Err e) blocks blocks' place table block bytes is ok err = λ seen right. subst (λ (b : Blocks). HoldsMore (Some blocks) (Some b) (table ∷ []) seen) (sym err) (more_here (Some blocks) (table ∷ []) seen)

-- the tables behind so many, as a slice has them
pub left_behind : (given items : List TableState) (newer : ℕ) (old new : Option Blocks) → given ≡ items → newer ≤ length items → HaveLeft (take (length given - newer) (drop newer given)) old new → HaveLeft (drop newer items) old new
left_behind given items newer old new same within left =
    let P : List TableState → Type 0 = λ ts. HaveLeft (take (length ts - newer) (drop newer ts)) old new in
    subst (λ (ts : List TableState). HaveLeft ts old new) (take_all (length items - newer) (drop newer items) (omega (arith, length-drop newer items))) (subst P same left)

-- the first table, and the others
pub warm_first : (cache : Option Blocks) (key : RowKey) (tables : List TableState) (table : TableState) (rest : List TableState) → tables ≡ table ∷ rest → AreWarm cache key tables → IsWarm cache key table × AreWarm cache key rest
warm_first cache key tables table rest split warm = subst (AreWarm cache key) split warm

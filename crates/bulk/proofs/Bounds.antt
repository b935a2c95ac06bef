-- How many members the objects of a tree have at most.
use Rattle.std.proofs.Common.{◌≡◌, sym, ap, ℕ, ◌+◌, ◌≤◌, ◌&&◌, nat_le, Bool, true, false, true≢false, is_some, cond, List, length, arith}
use Rattle.std.specs.Result.{IfOk}
use Rattle.std.specs.declared.result.Result.{Result}
use Rattle.std.specs.declared.result.Result.TheVariants.{Ok, Err}
use Rattle.std.specs.List.{All}
use Rattle.std.proofs.lemmas.Bool.{and_parts, leb-true}
use Rattle.std.proofs.lemmas.List.Elements.{All-nil, All-cons, All-append}
use Rattle.std.proofs.lemmas.List.{length-map}
use Rattle.std.specs.FinMap as map
use Rattle.serde_json.specs.Data.{Data, null, boolean, number, string, array, object, Members, no_members, member}
use Rattle.serde_json.specs.Find.{as_object}
use Rattle.mds_base.specs.Entries.{Place, place_cmp}
use Rattle.mds_base.specs.declared.limits.TheConstants.{BULK_DIRECTORIES, BULK_ENTRIES}
use Rattle.mds_base.specs.declared.row.Row.{Row}
use Rattle.mds_base.proofs.Places.{places_total}
use Rattle.bulk.specs.declared.object.Kind.{Kind}
use Rattle.bulk.specs.Grammar.{is_entry, objects_in, entries_in, entries_within, is_tree}
use Rattle.bulk.specs.Trees.{ObjectMap, IsBounded, HasAtMost, place, kind_of, members_from, objects_of, objects_from, rows_from, row_of}
use Rattle.bulk.proofs.Numbering.{length-objects_of}

one_more : (there : Bool) (before after : ℕ) → after ≡ cond there before (before + 1) → after ≤ before + 1
one_more true before after e = omega (arith, e)
one_more false before after e = omega (arith, e)

one_added : (found : ObjectMap) (at : Place) (kind : Kind) → map.len (map.insert found at kind) ≤ map.len found + 1
one_added found at kind = one_more (map.contains_key found at) _ _ (map.len-insert places_total found at kind)

few_members : (found : ObjectMap) (next : ℕ) (ms : Members) → map.len (members_from found next ms) ≤ map.len found + entries_within ms
few_members found next no_members = omega arith
few_members found next (member key d ms) =
    let more = map.insert found (place key) (kind_of next d) in
    omega (arith, one_added found (place key) (kind_of next d), few_members more (next + objects_in d) ms)

mutual
  small_objects : (most next : ℕ) (d : Data) → entries_in d ≤ most → All (HasAtMost most) (objects_of next d)
  small_objects most next null few = All-nil (HasAtMost most)
  small_objects most next (boolean b) few = All-nil (HasAtMost most)
  small_objects most next (number n) few = All-nil (HasAtMost most)
  small_objects most next (string s) few = All-nil (HasAtMost most)
  small_objects most next (array ds) few = All-nil (HasAtMost most)
  small_objects most next (object ms) few =
      let none : map.len (map.empty {K = Place} {X = Kind} {R = place_cmp}) ≡ 0 = map.len-empty place_cmp Kind in
      All-cons (HasAtMost most) (members_from map.empty (next + 1) ms) (objects_from (next + 1) ms)
      (omega (arith, few, none, few_members map.empty (next + 1) ms))
      (small_within most (next + 1) ms few)

  small_within : (most next : ℕ) (ms : Members) → entries_within ms ≤ most → All (HasAtMost most) (objects_from next ms)
  small_within most next no_members few = All-nil (HasAtMost most)
  small_within most next (member key d ms) few =
      All-append (HasAtMost most) (objects_of next d) (objects_from (next + objects_in d) ms)
      (small_objects most next d (omega (arith, few)))
      (small_within most (next + objects_in d) ms (omega (arith, few)))

one_object : (d : Data) → is_some (as_object d) ≡ true → 1 ≤ objects_in d
one_object null e = absurd (true≢false (sym e))
one_object (boolean b) e = absurd (true≢false (sym e))
one_object (number n) e = absurd (true≢false (sym e))
one_object (string s) e = absurd (true≢false (sym e))
one_object (array ds) e = absurd (true≢false (sym e))
one_object (object ms) e = omega arith

pub bounded : (d : Data) → is_tree d ≡ true → IsBounded (objects_of 0 d)
bounded d e =
    let parts = and_parts (is_some (as_object d) && is_entry d) (nat_le (objects_in d) BULK_DIRECTORIES && nat_le (entries_in d) BULK_ENTRIES) e in
    let limits = and_parts (nat_le (objects_in d) BULK_DIRECTORIES) (nat_le (entries_in d) BULK_ENTRIES) parts.1 in
    let some = one_object d (and_parts (is_some (as_object d)) (is_entry d) parts.0).0 in
    let few = leb-true (objects_in d) BULK_DIRECTORIES limits.0 in
    let long = length-objects_of 0 d in record {
      some = omega (arith, some, long);
      few = omega (arith, few, long);
      small = small_objects BULK_ENTRIES 0 d (leb-true (entries_in d) BULK_ENTRIES limits.1);
    }

pub few_rows : {E : Type 0} (result : Result (List Row) E) (most first : ℕ) (members : ObjectMap) → HasAtMost most members
    → IfOk result (λ rows. rows ≡ rows_from first members) → IfOk result (λ rows. length rows ≤ most)
few_rows (Ok rows) most first members few is =
    omega (arith, few, ap length is, length-map (map.entries members) (row_of first), map.len-entries members)
few_rows (Err e) most first members few is = tt

-- What the numbering of an object has done at each of its members.
use Rattle.std.proofs.Common.{◌≡◌, ◌∙◌, sym, ap, refl, ℕ, ◌+◌, ◌≤◌, ◌&&◌, true, List, [], ◌∷◌, ◌++◌, length, length-append, append_assoc, arith}
use Rattle.std.specs.Prelude.{slice_set}
use Rattle.std.proofs.lemmas.Bool.{and_parts}
use Rattle.std.proofs.lemmas.List.{append-nil}
use Rattle.std.specs.FinMap as map
use Rattle.serde_json.specs.Data.{Data, null, boolean, number, string, array, object, Members, no_members, member}
use Rattle.mds_base.specs.Name.{is_name}
use Rattle.mds_base.specs.declared.limits.TheConstants.{BULK_DIRECTORIES}
use Rattle.bulk.specs.declared.object.Kind.{Kind}
use Rattle.bulk.specs.Grammar.{is_entry, are_entries, objects_in, objects_within}
use Rattle.bulk.specs.Trees.{ObjectMap, place, kind_of, members_from, objects_of, objects_from}

mutual
  pub length-objects_of : (next : ℕ) (d : Data) → length (objects_of next d) ≡ objects_in d
  length-objects_of next null = refl
  length-objects_of next (boolean b) = refl
  length-objects_of next (number n) = refl
  length-objects_of next (string s) = refl
  length-objects_of next (array ds) = refl
  length-objects_of next (object ms) = omega (arith, length-objects_from (next + 1) ms)

  pub length-objects_from : (next : ℕ) (ms : Members) → length (objects_from next ms) ≡ objects_within ms
  length-objects_from next no_members = refl
  length-objects_from next (member key d ms) =
      omega (arith, length-append (objects_of next d) (objects_from (next + objects_in d) ms), length-objects_of next d, length-objects_from (next + objects_in d) ms)

-- the members before `left` were added: what was found and what is left come to what the whole comes to
pub record Numbered (old : List ObjectMap) (all left : Members) (found : ObjectMap) (objects : List ObjectMap) : Type 0 where
  pub named : are_entries left ≡ true
  pub within : List ObjectMap
  pub stand : objects ≡ old ++ map.empty ∷ within
  pub room : length objects + objects_within left ≤ BULK_DIRECTORIES
  pub found_is : members_from found (length objects) left ≡ members_from map.empty (length old + 1) all
  pub within_is : within ++ objects_from (length objects) left ≡ objects_from (length old + 1) all

pub numbered : (old : List ObjectMap) (all : Members) (key : List ℕ) (d : Data) (left : Members) (found found' : ObjectMap) (kind : Kind) (objects objects' : List ObjectMap)
    → Numbered old all (member key d left) found objects → kind ≡ kind_of (length objects) d → objects' ≡ objects ++ objects_of (length objects) d → found' ≡ map.insert found (place key) kind
    → Numbered old all left found' objects'
numbered old all key d left found found' kind objects objects' so_far kind_is added put =
    let these = objects_of (length objects) d in
    let long : length objects' ≡ length objects + objects_in d = omega (arith, ap length added, length-append objects these, length-objects_of (length objects) d) in
    let room : length objects + (objects_in d + objects_within left) ≤ BULK_DIRECTORIES = so_far.room in
    let found_next = map.insert found (place key) (kind_of (length objects) d) in record {
      named = (and_parts (is_entry d) (are_entries left) (and_parts (is_name key) (is_entry d && are_entries left) so_far.named).1).1;
      within = so_far.within ++ these;
      stand = added ∙ ap (λ os. os ++ these) so_far.stand ∙ append_assoc old (map.empty ∷ so_far.within) these;
      room = omega (arith, long, room);
      found_is = ap (λ m. members_from m (length objects') left) put ∙ ap (λ k. members_from (map.insert found (place key) k) (length objects') left) kind_is ∙ ap (λ n. members_from found_next n left) long ∙ so_far.found_is;
      within_is = ap (λ n. (so_far.within ++ these) ++ objects_from n left) long ∙ append_assoc so_far.within these (objects_from (length objects + objects_in d) left) ∙ so_far.within_is;
    }

set_slot : (old : List ObjectMap) (a b : ObjectMap) (more : List ObjectMap) → slice_set (old ++ a ∷ more) (length old) b ≡ old ++ b ∷ more
set_slot [] a b more = refl
set_slot (x ∷ old) a b more = ap (λ xs. x ∷ xs) (set_slot old a b more)

-- no member is left: the object takes its slot
pub all_numbered : (old : List ObjectMap) (all : Members) (found : ObjectMap) (objects : List ObjectMap) → Numbered old all no_members found objects
    → slice_set objects (length old) found ≡ old ++ objects_of (length old) (object all)
all_numbered old all found objects so_far =
    ap (λ os. slice_set os (length old) found) so_far.stand ∙ set_slot old map.empty found so_far.within
    ∙ ap (λ m. old ++ m ∷ so_far.within) so_far.found_is
    ∙ ap (λ w. old ++ members_from map.empty (length old + 1) all ∷ w) (sym (append-nil so_far.within) ∙ so_far.within_is)

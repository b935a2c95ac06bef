-- The definitions computed on worked sessions, and on sessions that they refuse.
use Rattle.std.proofs.Common.{◌≡◌, ◌∙◌, sym, subst, refl, ℕ, ◌-◌, ◌^◌, List, [], ◌∷◌, Some, None, MatchOption, codes, arith, lit≤, inl, inr, true, false}
use Rattle.std.specs.List.{IsDistinct}
use Rattle.std.specs.FinMap as map
use Rattle.mds_base.specs.declared.attr.Attr.{Attr}
use Rattle.mds_base.specs.declared.attr.Stamp.{Stamp}
use Rattle.mds_base.specs.declared.row.Row.{Row}
use Rattle.mds_base.specs.declared.entry.Entry.{Entry}
use Rattle.mds_base.specs.declared.call.Call.{Call}
use Rattle.mds_base.specs.declared.call.Call.TheVariants.{Create, Mkdir, Remove, Lookup, Setattr, Grab, Load, Seal, Unseal, Kill, Unlink}
use Rattle.mds_base.specs.declared.reply.Final.TheVariants.{Created, CreatedDir, Exists, Removed, Missing, Set, Ids, Loaded, Stale, Sealed, NotEmpty, Late, Killed}
use Rattle.mds_base.specs.declared.reply.Reply.{Reply}
use Rattle.mds_base.specs.declared.reply.Reply.TheVariants.{Said, Found}
use Rattle.mds_base.specs.Entries.{Place, place_cmp, Entries, new_file, new_directory}
use Rattle.mds_base.specs.Calls.{is_well_made}
use Rattle.mds_base.specs.PlainRules.{places_of}
use Rattle.mds_base.specs.History.{IsLegal, EachAllowed}
use Rattle.mds_base.proofs.Places.{places_total}

abbrev said : ℕ → ℕ → Call → Reply → Entry
said client seq call reply = record { client = client; seq = seq; call = call; reply = reply }

abbrev a : List ℕ
a = 97 ∷ []

abbrev nothing : Entries
nothing = map.empty

nothing_there : (place : Place) → map.get nothing place ≡ None
nothing_there place = map.get-empty place_cmp place

abbrev is_made : Reply → Type 0
is_made (Said Created) = Unit {0}
is_made reply = ⊥

not_made : Said Created ≡ Said Exists → ⊥
not_made e = let P : Reply → Type 0 = is_made in subst P e tt

differ : true ≡ false → ⊥
differ e = cc

-- create, create, remove, remove, lookup
abbrev session : List Entry
session =
    said 1 1 (Create 1 a) (Said Created)
    ∷ said 1 2 (Create 1 a) (Said Exists)
    ∷ said 1 3 (Remove 1 a) (Said Removed)
    ∷ said 1 4 (Remove 1 a) (Said Missing)
    ∷ said 1 5 (Lookup 1 a) (Said Missing)
    ∷ []

abbrev with_a : Entries
with_a = map.insert nothing (1, a) new_file

a_there : map.get with_a (1, a) ≡ Some new_file
a_there = map.get-insert places_total nothing (1, a) new_file (1, a)

a_gone : map.get (map.remove with_a (1, a)) (1, a) ≡ None
a_gone = map.get-remove places_total with_a (1, a) (1, a)

pub session_legal : IsLegal nothing session
unfolding IsDistinct
session_legal = record {
  allowed = (rw (nothing_there (1, a)) refl, (rw a_there refl, (rw a_there refl, (rw a_gone refl, (rw a_gone refl, tt)))));
  from_two = tt;
  once = tt;
}

-- a second `created` of one name is refused
pub second_created : IsLegal nothing (said 1 1 (Create 1 a) (Said Created) ∷ said 1 2 (Create 1 a) (Said Created) ∷ []) → ⊥
second_created legal = let is : Said Created ≡ Said Exists = subst (λ o. MatchOption o (Said Created ≡ Said Created) (λ _. Said Created ≡ Said Exists)) a_there legal.allowed.1.0 in not_made is

-- the number 2 given twice, and the number 1 given at all, are refused
pub given_twice : IsLegal nothing (said 1 1 (Mkdir 1 a) (Said (CreatedDir 2)) ∷ said 1 2 (Grab 1 a 3) (Said (Ids 1)) ∷ []) → ⊥
unfolding IsDistinct
given_twice legal = differ legal.once.0.1.0

pub given_root : IsLegal nothing (said 1 1 (Mkdir 1 a) (Said (CreatedDir 1)) ∷ []) → ⊥
given_root legal = omega (arith, legal.from_two.0)

-- mkdir, create, setattr, and what another client finds
abbrev home : List ℕ
home = codes "home"

abbrev notes : List ℕ
notes = codes "notes.txt"

abbrev set_notes : Attr
set_notes = record { dir = 0; mode = 384; size = 1200; owner = 0; mtime = 0 }

abbrev shared : List Entry
shared =
    said 1 1 (Mkdir 1 home) (Said (CreatedDir 2))
    ∷ said 1 2 (Create 2 notes) (Said Created)
    ∷ said 1 3 (Setattr 2 notes 384 1200 None) (Said Set)
    ∷ said 2 1 (Lookup 1 home) (Found (new_directory 2) 0)
    ∷ said 2 2 (Lookup 2 notes) (Found set_notes 0)
    ∷ []

abbrev with_home : Entries
with_home = map.insert nothing (1, home) (new_directory 2)

abbrev with_notes : Entries
with_notes = map.insert with_home (2, notes) new_file

no_notes : map.get with_home (2, notes) ≡ None
no_notes = map.get-insert places_total nothing (1, home) (new_directory 2) (2, notes) ∙ nothing_there (2, notes)

notes_there : map.get with_notes (2, notes) ≡ Some new_file
notes_there = map.get-insert places_total with_home (2, notes) new_file (2, notes)

abbrev with_set : Entries
with_set = map.insert with_notes (2, notes) set_notes

home_there : map.get with_set (1, home) ≡ Some (new_directory 2)
home_there = map.get-insert places_total with_notes (2, notes) set_notes (1, home) ∙ map.get-insert places_total with_home (2, notes) new_file (1, home) ∙ map.get-insert places_total nothing (1, home) (new_directory 2) (1, home)

set_there : map.get with_set (2, notes) ≡ Some set_notes
set_there = map.get-insert places_total with_notes (2, notes) set_notes (2, notes)

-- the lookups stand on the map that the set left
looked : EachAllowed with_set (said 2 1 (Lookup 1 home) (Found (new_directory 2) 0) ∷ said 2 2 (Lookup 2 notes) (Found set_notes 0) ∷ [])
looked = (rw home_there (0, refl), (rw set_there (0, refl), tt))

pub shared_legal : IsLegal nothing shared
unfolding IsDistinct
shared_legal = record {
  allowed = (rw (nothing_there (1, home)) (2, refl), (rw no_notes refl, (rw notes_there refl, rw notes_there looked)));
  from_two = (lit≤ tt, tt);
  once = (tt, tt);
}

-- a stamp is kept by a later setattr that has none
abbrev stamp : Stamp
stamp = record { owner = 7; mtime = 1700 }

abbrev stamped_a : Attr
stamped_a = record { dir = 0; mode = 384; size = 10; owner = 7; mtime = 1700 }

abbrev later_a : Attr
later_a = record { dir = 0; mode = 420; size = 20; owner = 7; mtime = 1700 }

abbrev with_stamped : Entries
with_stamped = map.insert with_a (1, a) stamped_a

abbrev with_later : Entries
with_later = map.insert with_stamped (1, a) later_a

stamped_there : map.get with_stamped (1, a) ≡ Some stamped_a
stamped_there = map.get-insert places_total with_a (1, a) stamped_a (1, a)

later_there : map.get with_later (1, a) ≡ Some later_a
later_there = map.get-insert places_total with_stamped (1, a) later_a (1, a)

abbrev stamping : List Entry
stamping =
    said 1 1 (Setattr 1 a 384 10 (Some stamp)) (Said Set)
    ∷ said 2 1 (Setattr 1 a 420 20 None) (Said Set)
    ∷ said 2 2 (Lookup 1 a) (Found later_a 1500)
    ∷ []

later_found : EachAllowed with_later (said 2 2 (Lookup 1 a) (Found later_a 1500) ∷ [])
later_found = (rw later_there (1500, refl), tt)

later_set : EachAllowed with_stamped (said 2 1 (Setattr 1 a 420 20 None) (Said Set) ∷ said 2 2 (Lookup 1 a) (Found later_a 1500) ∷ [])
later_set = (rw stamped_there refl, rw stamped_there later_found)

pub stamping_legal : IsLegal with_a stamping
unfolding IsDistinct
stamping_legal = record {
  allowed = (rw a_there refl, rw a_there later_set);
  from_two = tt;
  once = tt;
}

-- a directory is removed: sealed while it is empty, declared dead, and its entry unlinked
abbrev removal : List Entry
removal =
    said 1 1 (Mkdir 1 home) (Said (CreatedDir 2))
    ∷ said 1 2 (Seal 2 0 1) (Said (Sealed 0 1))
    ∷ said 2 1 (Unseal 2 0 0) (Said Late)
    ∷ said 1 3 (Kill 2 1) (Said Killed)
    ∷ said 1 4 (Unlink 1 home 2) (Said Removed)
    ∷ said 1 5 (Lookup 1 home) (Said Missing)
    ∷ []

none_in_home : (name : List ℕ) → map.get with_home (2, name) ≡ None
none_in_home name = map.get-insert places_total nothing (1, home) (new_directory 2) (2, name) ∙ nothing_there (2, name)

home_made : map.get with_home (1, home) ≡ Some (new_directory 2)
home_made = map.get-insert places_total nothing (1, home) (new_directory 2) (1, home)

home_gone : map.get (map.remove with_home (1, home)) (1, home) ≡ None
home_gone = map.get-remove places_total with_home (1, home) (1, home)

pub removal_legal : IsLegal nothing removal
unfolding IsDistinct
removal_legal = record {
  allowed = (rw (nothing_there (1, home)) (2, refl), (tt, (inr refl, (inl (refl, none_in_home), (rw home_made refl, (rw home_gone refl, tt))))));
  from_two = (lit≤ tt, tt);
  once = (tt, tt);
}

-- a directory with an entry is not declared dead, and one with none has no partition with a row
pub killed_full : IsLegal with_notes (said 1 1 (Kill 2 1) (Said Killed) ∷ []) → ⊥
killed_full legal = elim legal.allowed.0 [
  | inl h ↦ let e = sym notes_there ∙ h.1 notes in cc
  | inr e ↦ cc
]

pub full_nowhere : IsLegal nothing (said 1 1 (Seal 1 0 1) (Said NotEmpty) ∷ []) → ⊥
full_nowhere legal =
    let h = legal.allowed.0 in
    let e = sym (nothing_there (1, h.0)) ∙ h.2 in
    cc

-- an entry with another number stays
pub unlinked_other : IsLegal with_home (said 1 1 (Unlink 1 home 3) (Said Exists) ∷ [])
unfolding IsDistinct
unlinked_other = record { allowed = (rw home_made refl, tt); from_two = tt; once = tt }

-- a load that is answered stale speaks of no name
pub stale_places : (rows : List Row) → places_of (Load 1 rows) (Said Stale) ≡ []
stale_places rows = refl

abbrev row_a : Row
row_a = record { name = a; attr = new_file }

pub loaded_places : places_of (Load 1 (row_a ∷ [])) (Said (Loaded 0)) ≡ (1, a) ∷ []
loaded_places = refl

-- calls with a number out of its range
pub in_directory_0 : is_well_made (Create 0 a) ≡ false
in_directory_0 = refl

pub mode_past : is_well_made (Setattr 1 a 4096 0 None) ≡ false
mode_past = refl

pub grabs_none : is_well_made (Grab 1 a 0) ≡ false
grabs_none = refl

pub loads_none : is_well_made (Load 1 []) ≡ false
loads_none = refl

pub last_partition : is_well_made (Seal (2 ^ 48 - 1) 1023 (2 ^ 48 - 1)) ≡ true
last_partition = refl

pub partition_past : is_well_made (Seal 1 1024 0) ≡ false
partition_past = refl

pub epoch_past : is_well_made (Kill 1 (2 ^ 48)) ≡ false
epoch_past = refl

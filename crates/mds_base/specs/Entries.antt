-- The plain directory: a finite map from a directory and a name to the entry's attributes.
use Rattle.std.specs.Prelude.{ℕ, ◌==◌, ◌||◌, not, Bool, List, Option, Some, None, if◌then◌else◌, refl}
use Rattle.std.specs.declared.cmp.Ordering.{Ordering}
use Rattle.std.specs.Ordering.{nat_cmp, ordering_then}
use Rattle.std.specs.Cmp.Lexicographic.{slice_cmp}
use Rattle.std.specs.Coded.{Coded, code_by, coded×, coded_list, coded_ℕ}
use Rattle.std.specs.FinMap as map
use Rattle.mds_base.specs.declared.limits.TheConstants.{FILE_MODE, DIRECTORY_MODE}
use Rattle.mds_base.specs.declared.attr.Attr.{Attr}
use Rattle.mds_base.specs.declared.attr.Stamp.{Stamp}
use Rattle.mds_base.specs.declared.edit.Edit.{Edit}
use Rattle.mds_base.specs.declared.edit.Edit.TheVariants.{Keep, Put, Take}

-- where an entry stands: the number of its directory, and its name
abbrev pub Place : Type 0
Place = ℕ × List ℕ

-- by directory, and then by the bytes of the name
abbrev pub place_cmp : Place → Place → Ordering
place_cmp a b = ordering_then (nat_cmp a.0 b.0) (slice_cmp nat_cmp a.1 b.1)

abbrev pub Entries : Type 0
Entries = map.FinMap place_cmp Attr

-- an entry whose directory number is 0 is a file
abbrev pub is_file : Attr → Bool
is_file attr = attr.dir == 0

abbrev pub new_file : Attr
new_file = record { dir = 0; mode = FILE_MODE; size = 0; owner = 0; mtime = 0 }

abbrev pub new_directory : ℕ → Attr
new_directory number = record { dir = number; mode = DIRECTORY_MODE; size = 0; owner = 0; mtime = 0 }

-- an owner or a time of modification was set that is not 0
abbrev pub is_stamped : Attr → Bool
is_stamped attr = not (attr.owner == 0) || not (attr.mtime == 0)

-- the owner and time of modification, where one of them was set that is not 0
abbrev pub stamp_of : Attr → Option Stamp
stamp_of attr = if is_stamped attr then Some (record { owner = attr.owner; mtime = attr.mtime }) else None

-- the attributes with another mode and size, and with the stamp's owner and time where there is a stamp
abbrev pub reset_attr : Attr → ℕ → ℕ → Option Stamp → Attr
reset_attr attr mode size None = record attr { mode = mode; size = size }
reset_attr attr mode size (Some stamp) =
    record { dir = attr.dir; mode = mode; size = size; owner = stamp.owner; mtime = stamp.mtime }

-- the map after an edit of one entry
abbrev pub edited : Entries → Place → Edit → Entries
edited entries place Keep = entries
edited entries place (Put attr) = map.insert entries place attr
edited entries place Take = map.remove entries place

-- the entry that is there after it
abbrev pub edited_entry : Edit → Option Attr → Option Attr
edited_entry Keep before = before
edited_entry (Put attr) before = Some attr
edited_entry Take before = None

-- the codes by which a map of entries can be a model's value
abbrev pub coded_place : Coded Place
coded_place = coded× coded_ℕ (coded_list coded_ℕ)

abbrev pub coded_attr : Coded Attr
coded_attr = code_by (ℕ × (ℕ × (ℕ × (ℕ × ℕ))))
    (coded× coded_ℕ (coded× coded_ℕ (coded× coded_ℕ (coded× coded_ℕ coded_ℕ))))
    (λ a. (a.dir, (a.mode, (a.size, (a.owner, a.mtime)))))
    (λ p. record { dir = p.0; mode = p.1.0; size = p.1.1.0; owner = p.1.1.1.0; mtime = p.1.1.1.1 }) (λ _. refl)

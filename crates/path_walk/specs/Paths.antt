-- What a path says: the names of its components, where each of them spells one.
use Rattle.std.specs.Prelude.{ℕ, ◌+◌, ◌≡◌, List, [], ◌∷◌, Option, Some, None, Result, Ok, Err, not, ◌==◌, if◌then◌else◌}
use Rattle.std.specs.Prelude.{length, slice_index, filter}
use Rattle.std.specs.List.{slice_split}
use Rattle.script.specs.Reading.{name_of}
use Rattle.path_walk.specs.declared.fault.PathFault.{PathFault}
use Rattle.path_walk.specs.declared.fault.PathFault.TheVariants.{BadPath, OutOfMemory}

-- what stands between the slashes, where something does
abbrev pub components : List ℕ → List (List ℕ)
components path = filter (λ piece. not (length piece == 0)) (slice_split (λ byte. byte == 47) path)

-- the names that components spell, in their order, or the place of the first that spells none; they have the places
-- from `at` on
abbrev pub onto_name : List ℕ → Result (List (List ℕ)) ℕ → Result (List (List ℕ)) ℕ
onto_name name (Ok names) = Ok (name ∷ names)
onto_name name (Err at) = Err at

abbrev pub onto_spelled : ℕ → Option (List ℕ) → Result (List (List ℕ)) ℕ → Result (List (List ℕ)) ℕ
onto_spelled at None rest = Err at
onto_spelled at (Some name) rest = onto_name name rest

abbrev pub names_from : ℕ → List (List ℕ) → Result (List (List ℕ)) ℕ
names_from at [] = Ok []
names_from at (component ∷ rest) = onto_spelled at (name_of component) (names_from (at + 1) rest)

-- the names along a path, or the place at which it is bad; a path that does not begin with a slash is bad at 0
abbrev pub names_along : List ℕ → Result (List (List ℕ)) ℕ
names_along path = if slice_index path 0 == 47 then names_from 0 (components path) else Err 0

-- what reading a path answers: the names along it, the place at which it is bad, or want of memory
abbrev pub Reads : {X : Type 0} → (X → List (List ℕ)) → Result X PathFault → Result (List (List ℕ)) ℕ → Type 0
Reads view (Ok names) read = read ≡ Ok (view names)
Reads view (Err (BadPath at)) read = read ≡ Err at
Reads view (Err OutOfMemory) read = Unit {0}

-- what reading the component at this place answers: the name that it spells, its place where it spells none, or want of
-- memory
abbrev pub ReadsOne : Result (List ℕ) PathFault → ℕ → Option (List ℕ) → Type 0
ReadsOne (Ok name) at spelled = spelled ≡ Some name
ReadsOne (Err (BadPath bad)) at spelled = (spelled ≡ None) × (bad ≡ at)
ReadsOne (Err OutOfMemory) at spelled = Unit {0}

-- Reading the components of a path one after another.
use Rattle.std.proofs.Common.{◌≡◌, ◌∙◌, sym, ap, subst, refl, ℕ, ◌+◌, ◌<◌, List, [], ◌∷◌, ◌++◌, length, take, drop, get_or, Option, Some, None, Result, Ok, Err, IsErrAnd, cond, true, arith}
use Rattle.std.specs.Prelude.{◌==◌, slice_index}
use Rattle.std.proofs.lemmas.List.{at_drop_more, take-append-drop}
use Rattle.path_walk.specs.declared.fault.PathFault.{PathFault}
use Rattle.path_walk.specs.declared.fault.PathFault.TheVariants.{BadPath, OutOfMemory}
use Rattle.script.specs.Reading.{name_of}
use Rattle.path_walk.specs.Paths.{components, onto_name, onto_spelled, names_from, names_along, Reads, ReadsOne}

-- names behind the ones that were read
onto_more : (at : ℕ) (spelled : Option (List ℕ)) (read longer : Result (List (List ℕ)) ℕ) (names extra : List (List ℕ)) → onto_spelled at spelled read ≡ Ok names → ((rest : List (List ℕ)) → read ≡ Ok rest → longer ≡ Ok (rest ++ extra)) → onto_spelled at spelled longer ≡ Ok (names ++ extra)
onto_more at None read longer names extra is on = cc
onto_more at (Some name) (Ok rest) longer names extra is on =
    let same : names ≡ name ∷ rest = cc in
    ap (onto_name name) (on rest refl) ∙ ap (λ n. Ok (n ++ extra)) (sym same)
onto_more at (Some name) (Err bad) longer names extra is on = cc

pub names_more : (at : ℕ) (front : List (List ℕ)) (component name : List ℕ) (names : List (List ℕ)) → names_from at front ≡ Ok names → name_of component ≡ Some name → names_from at (front ++ component ∷ []) ≡ Ok (names ++ name ∷ [])
names_more at [] component name names is spelled = let none : names ≡ [] = cc in ap (λ o. onto_spelled at o (Ok [])) spelled ∙ ap (λ n. Ok (n ++ name ∷ [])) (sym none)
names_more at (first ∷ front) component name names is spelled =
    onto_more at (name_of first) (names_from (at + 1) front) _ names (name ∷ []) is (λ rest read. names_more (at + 1) front component name rest read spelled)

-- a component that spells no name, behind the ones that were read
onto_stop : (at : ℕ) (spelled : Option (List ℕ)) (read longer : Result (List (List ℕ)) ℕ) (names : List (List ℕ)) → onto_spelled at spelled read ≡ Ok names → ((rest : List (List ℕ)) → read ≡ Ok rest → longer ≡ Err (at + 1 + length rest)) → onto_spelled at spelled longer ≡ Err (at + length names)
onto_stop at None read longer names is on = cc
onto_stop at (Some name) (Ok rest) longer names is on =
    let same : names ≡ name ∷ rest = cc in
    let place : at + 1 + length rest ≡ at + length names = omega (arith, ap length same) in
    ap (onto_name name) (on rest refl) ∙ ap Err place
onto_stop at (Some name) (Err bad) longer names is on = cc

pub names_stop : (at : ℕ) (front : List (List ℕ)) (component : List ℕ) (more names : List (List ℕ)) → names_from at front ≡ Ok names → name_of component ≡ None → names_from at (front ++ component ∷ more) ≡ Err (at + length names)
names_stop at [] component more names is spelled =
    let none : names ≡ [] = cc in
    let place : at ≡ at + length names = omega (arith, ap length none) in
    ap (λ o. onto_spelled at o (names_from (at + 1) more)) spelled ∙ ap Err place
names_stop at (first ∷ front) component more names is spelled =
    onto_stop at (name_of first) (names_from (at + 1) front) _ names is (λ rest read. names_stop (at + 1) front component more rest read spelled)

-- ---- what the code does: it takes the components from a list of them, of which it had the first

next_in : (all front : List (List ℕ)) (n : ℕ) (component : List ℕ) → front ≡ take n all → n < length all → component ≡ get_or all n component → all ≡ front ++ component ∷ drop (n + 1) all
next_in all front n component had within is =
    sym (take-append-drop n all) ∙ ap (λ l. l ++ drop n all) (sym had) ∙ ap (λ l. front ++ l) (at_drop_more (λ l. l) all n component within ∙ ap (λ x. x ∷ drop (n + 1) all) (sym is))

pub with_slash : (path : List ℕ) → (slice_index path 0 == 47) ≡ true → names_along path ≡ names_from 0 (components path)
with_slash path slash = ap (λ t. cond t (names_from 0 (components path)) (Err 0)) slash

pub stopped : (path : List ℕ) (front : List (List ℕ)) (n : ℕ) (component : List ℕ) (names : List (List ℕ)) → (slice_index path 0 == 47) ≡ true → names_from 0 front ≡ Ok names → front ≡ take n (components path) → n < length (components path) → component ≡ get_or (components path) n component → name_of component ≡ None → names_along path ≡ Err (length names)
stopped path front n component names slash read had within is none =
    let place : 0 + length names ≡ length names = omega arith in
    with_slash path slash ∙ ap (names_from 0) (next_in (components path) front n component had within is) ∙ names_stop 0 front component _ names read none ∙ ap Err place

pub reads_stop : {X : Type 0} (view : X → List (List ℕ)) (result : Result X PathFault) (e : PathFault) (at : ℕ) (spelled : Option (List ℕ)) (read : Result (List (List ℕ)) ℕ) → IsErrAnd result (λ f. f ≡ e) → ReadsOne (Err e) at spelled → (spelled ≡ None → read ≡ Err at) → Reads view result read
reads_stop view (Ok x) e at spelled read is one next = absurd is
reads_stop view (Err f) (BadPath bad) at spelled read is one next = subst (λ (f : PathFault). Reads view (Err f) read) (sym is) (next one.0 ∙ ap Err (sym one.1))
reads_stop view (Err f) OutOfMemory at spelled read is one next = subst (λ (f : PathFault). Reads view (Err f) read) (sym is) tt

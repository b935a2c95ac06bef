-- Marks of places, as the set of the places that are marked.
use Rattle.std.proofs.Common.{◌≡◌, ◌∙◌, sym, ap, refl, ℕ, zero, suc, ◌+◌, ◌<◌, ◌≤◌, List, [], ◌∷◌, ◌++◌, length, take, take_all, replicate, Bool, true, false, Option, Some, None, arith}
use Rattle.std.specs.Prelude.{◌||◌, slice_set}
use Rattle.std.specs.List.{slice_get}
use Rattle.std.specs.Cmp.{nat_cmp_total}
use Rattle.std.specs.Ordering.{nat_cmp, eq_by_cmp}
use Rattle.std.specs.FinSet as set
use Rattle.std.specs.FinSet.{FinSet}
use Rattle.std.proofs.lemmas.Map.Lookups.{exact_unsigned}
use Rattle.simulation.specs.Places.{places_from, places_of}
use Rattle.simulation.proofs.KeySets.{insert_here, insert_apart}

or_twice : (a x : Bool) → (a || (a || x)) ≡ (a || x)
or_twice true x = refl
or_twice false x = refl

or_swap : (a b x : Bool) → (a || (b || x)) ≡ (b || (a || x))
or_swap true true x = refl
or_swap true false x = refl
or_swap false true x = refl
or_swap false false x = refl

insert_twice : (s : FinSet nat_cmp) (k : ℕ) → set.insert (set.insert s k) k ≡ set.insert s k
insert_twice s k = set.same_set nat_cmp_total exact_unsigned _ _ (λ q.
    set.contains-insert nat_cmp_total (set.insert s k) k q ∙ ap (λ b. eq_by_cmp nat_cmp q k || b) (set.contains-insert nat_cmp_total s k q)
    ∙ or_twice (eq_by_cmp nat_cmp q k) (set.contains s q) ∙ sym (set.contains-insert nat_cmp_total s k q))

insert_swap : (s : FinSet nat_cmp) (a b : ℕ) → set.insert (set.insert s a) b ≡ set.insert (set.insert s b) a
insert_swap s a b = set.same_set nat_cmp_total exact_unsigned _ _ (λ q.
    set.contains-insert nat_cmp_total (set.insert s a) b q ∙ ap (λ x. eq_by_cmp nat_cmp q b || x) (set.contains-insert nat_cmp_total s a q)
    ∙ or_swap (eq_by_cmp nat_cmp q b) (eq_by_cmp nat_cmp q a) (set.contains s q)
    ∙ sym (set.contains-insert nat_cmp_total (set.insert s b) a q ∙ ap (λ x. eq_by_cmp nat_cmp q a || x) (set.contains-insert nat_cmp_total s b q)))

-- one mark more
marked_from : (marks : List Bool) (at k : ℕ) → k < length marks → places_from at (slice_set marks k true) ≡ set.insert (places_from at marks) (at + k)
marked_from [] at k below = absurd (omega (arith, below))
marked_from (false ∷ marks) at zero below = ap (set.insert (places_from (at + 1) marks)) (omega arith)
marked_from (true ∷ marks) at zero below =
    let same : at ≡ at + 0 = omega arith in
    sym (insert_twice (places_from (at + 1) marks) at) ∙ ap (set.insert (set.insert (places_from (at + 1) marks) at)) same
marked_from (false ∷ marks) at (suc k) below =
    let same : at + 1 + k ≡ at + suc k = omega arith in
    marked_from marks (at + 1) k (omega (arith, below)) ∙ ap (set.insert (places_from (at + 1) marks)) same
marked_from (true ∷ marks) at (suc k) below =
    let same : at + 1 + k ≡ at + suc k = omega arith in
    ap (λ s. set.insert s at) (marked_from marks (at + 1) k (omega (arith, below)) ∙ ap (set.insert (places_from (at + 1) marks)) same)
    ∙ insert_swap (places_from (at + 1) marks) (at + suc k) at

pub one_marked : (marks : List Bool) (k : ℕ) → k < length marks → places_of (slice_set marks k true) ≡ set.insert (places_of marks) k
one_marked marks k below =
    let same : 0 + k ≡ k = omega arith in
    marked_from marks 0 k below ∙ ap (set.insert (places_of marks)) same

-- places without a mark at the end
none_from : (n at : ℕ) → places_from at (replicate n false) ≡ set.empty
none_from zero at = refl
none_from (suc n) at = none_from n (at + 1)

more_from : (marks : List Bool) (n at : ℕ) → places_from at (marks ++ replicate n false) ≡ places_from at marks
more_from [] n at = none_from n at
more_from (true ∷ marks) n at = ap (λ s. set.insert s at) (more_from marks n (at + 1))
more_from (false ∷ marks) n at = more_from marks n (at + 1)

pub unmarked_more : (marks : List Bool) (len n : ℕ) → length marks ≤ len → places_of (take len marks ++ replicate n false) ≡ places_of marks
unmarked_more marks len n longer = ap (λ l. places_of (l ++ replicate n false)) (take_all len marks longer) ∙ more_from marks n 0

-- whether a place is marked
abbrev pub is_marked : Option Bool → Bool
is_marked None = false
is_marked (Some marked) = marked

before : (marks : List Bool) (at q : ℕ) → q < at → set.contains (places_from at marks) q ≡ false
before [] at q below = set.contains-empty nat_cmp q
before (true ∷ marks) at q below =
    insert_apart nat_cmp_total exact_unsigned (places_from (at + 1) marks) at q (λ e. omega (arith, e, below)) ∙ before marks (at + 1) q (omega (arith, below))
before (false ∷ marks) at q below = before marks (at + 1) q (omega (arith, below))

contains_from : (marks : List Bool) (at k q : ℕ) → q ≡ at + k → set.contains (places_from at marks) q ≡ is_marked (slice_get marks k)
contains_from [] at k q e = set.contains-empty nat_cmp q
contains_from (true ∷ marks) at zero q e =
    let same : q ≡ at = omega (arith, e) in
    ap (set.contains (set.insert (places_from (at + 1) marks) at)) same ∙ insert_here nat_cmp_total exact_unsigned (places_from (at + 1) marks) at
contains_from (false ∷ marks) at zero q e = before marks (at + 1) q (omega (arith, e))
contains_from (true ∷ marks) at (suc k) q e =
    insert_apart nat_cmp_total exact_unsigned (places_from (at + 1) marks) at q (λ same. omega (arith, e, same)) ∙ contains_from marks (at + 1) k q (omega (arith, e))
contains_from (false ∷ marks) at (suc k) q e = contains_from marks (at + 1) k q (omega (arith, e))

pub contains_marked : (marks : List Bool) (k : ℕ) → set.contains (places_of marks) k ≡ is_marked (slice_get marks k)
contains_marked marks k = contains_from marks 0 k k (omega arith)

-- The greatest of a floor and the ends of a map.
use Rattle.std.proofs.Common.{◌≡◌, ◌∙◌, sym, ap, refl, ℕ, Bool, true, false, cond, List, [], ◌∷◌, Option, Some, None, ◌≤◌, max, map as list_map, arith, subst}
use Rattle.std.specs.Prelude.{unwrap_or, T}
use Rattle.std.specs.Cmp.{tied_itself}
use Rattle.std.specs.Cmp.Lexicographic.{slice_cmp}
use Rattle.std.specs.List.{AllByRecursion, fold}
use Rattle.std.specs.Ordering.{nat_cmp, is_eq, is_lt, ordering_reverse}
use Rattle.std.specs.declared.cmp.Ordering.{Ordering}
use Rattle.std.specs.declared.cmp.Ordering.TheVariants.{Less, Equal, Greater}
use Rattle.std.specs.FinMap as map
use Rattle.std.proofs.lemmas.Bool.{and_parts, false≢true}
use Rattle.std.proofs.lemmas.Cmp.{nat_list_cmp_total}
use Rattle.std.proofs.lemmas.List.{nil_from_length}
use Rattle.std.proofs.lemmas.Option.{same_Some}
use Rattle.leases.specs.Leases.{Ends, LeasesV, end_of, top}
use Rattle.leases.proofs.Above.{names, one_name}

abbrev find : List ℕ → List (List ℕ × ℕ) → Option ℕ
find = map.find (slice_cmp nat_cmp)

abbrev untils : List (List ℕ × ℕ) → List ℕ
untils es = list_map (λ e. e.1) es

-- ---- lists

max_from : (a : ℕ) (xs : List ℕ) → a ≤ fold max a xs
max_from a [] = omega arith
max_from a (x ∷ xs) = omega (arith, max_from (max a x) xs)

max_upto : (a b : ℕ) (xs : List ℕ) → a ≤ b → AllByRecursion (λ x. x ≤ b) xs → fold max a xs ≤ b
max_upto a b [] first rest = first
max_upto a b (x ∷ xs) first rest = max_upto (max a x) b xs (omega (arith, first, rest.0)) rest.1

found_upto : (a : ℕ) (es : List (List ℕ × ℕ)) (name : List ℕ) (end : ℕ) → find name es ≡ Some end → end ≤ fold max a (untils es)
found_upto a [] name end is = cc
found_upto a (e ∷ es) name end is =
    elim (names name e.0) as (λ b. cond b (Some e.1) (find name es) ≡ Some end → end ≤ fold max (max a e.1) (untils es)) [
      | true ↦ λ is. let same = same_Some e.1 end is in omega (arith, max_from (max a e.1) (untils es))
      | false ↦ λ is. found_upto (max a e.1) es name end is
    ] is

less_is : (r : Ordering) → is_lt r ≡ true → r ≡ Less
less_is Less e = refl
less_is Equal e = absurd (false≢true e)
less_is Greater e = absurd (false≢true e)

-- what is found behind an entry has another name
found_apart : (a : List ℕ) (es : List (List ℕ × ℕ)) (name : List ℕ) (end : ℕ) → map.Entries.below_all (slice_cmp nat_cmp) a es ≡ true → find name es ≡ Some end → names name a ≡ false
found_apart a [] name end below is = cc
found_apart a (e ∷ es) name end below is =
    let parts = and_parts (is_lt (slice_cmp nat_cmp a e.0)) (map.Entries.below_all (slice_cmp nat_cmp) a es) below in
    (elim (names name e.0) as (λ b. names name e.0 ≡ b → cond b (Some e.1) (find name es) ≡ Some end → names name a ≡ false) [
      | true ↦ λ same is. ap (λ q. names q a) (one_name name e.0 same) ∙ ap is_eq (nat_list_cmp_total.antisymm e.0 a ∙ ap ordering_reverse (less_is (slice_cmp nat_cmp a e.0) parts.0))
      | false ↦ λ apart is. found_apart a es name end parts.1 is
    ]) refl is

all_upto : (b : ℕ) (es : List (List ℕ × ℕ)) → map.is_sorted (slice_cmp nat_cmp) es ≡ true → ((name : List ℕ) (end : ℕ) → find name es ≡ Some end → end ≤ b) → AllByRecursion (λ x. x ≤ b) (untils es)
all_upto b [] rising upto = tt
all_upto b (e ∷ es) rising upto =
    let parts = and_parts (map.Entries.below_all (slice_cmp nat_cmp) e.0 es) (map.is_sorted (slice_cmp nat_cmp) es) rising in (
      upto e.0 e.1 (ap (λ r. cond (is_eq r) (Some e.1) (find e.0 es)) (tied_itself nat_list_cmp_total e.0)),
      all_upto b es parts.1 (λ name end is. upto name end (ap (λ t. cond t (Some e.1) (find name es)) (found_apart e.0 es name end parts.0 is) ∙ is)),
    )

-- ---- maps

passes : (b : Bool) → T b → b ≡ true
passes true p = refl
passes false p = absurd p

-- no end is above the top
pub upto_top : (l : LeasesV) (name : List ℕ) → end_of l.ends name ≤ top l
upto_top l name =
    let upto : (o : Option ℕ) → map.get l.ends name ≡ o → unwrap_or o 0 ≤ top l = λ o. elim o as (λ o. map.get l.ends name ≡ o → unwrap_or o 0 ≤ top l) [
      | None ↦ λ is. omega arith
      | Some end ↦ λ is. found_upto l.floor (map.entries l.ends) name end (sym (map.get-entries l.ends name) ∙ is)
    ] in
    upto (map.get l.ends name) refl

pub floor_upto_top : (l : LeasesV) → l.floor ≤ top l
floor_upto_top l = max_from l.floor (map.values l.ends)

-- and no number below it bounds the floor and all ends
pub top_least : (l : LeasesV) (b : ℕ) → l.floor ≤ b → ((name : List ℕ) → end_of l.ends name ≤ b) → top l ≤ b
top_least l b first upto = max_upto l.floor b (map.values l.ends) first (all_upto b (map.entries l.ends) (passes _ (map.entries_sorted l.ends)) (λ name end is. let at : map.get l.ends name ≡ Some end = map.get-entries l.ends name ∙ is in subst (λ o. unwrap_or o 0 ≤ b) at (upto name)))

pub top_of_none : (l : LeasesV) → l.ends ≡ map.empty → top l ≡ l.floor
top_of_none l none =
    let empty : map.entries l.ends ≡ [] = ap (λ (m : Ends). map.entries m) none ∙ nil_from_length _ (sym (map.len-entries (map.empty {R = slice_cmp nat_cmp})) ∙ map.len-empty (slice_cmp nat_cmp) ℕ) in
    ap (λ es. fold max l.floor (untils es)) empty

-- the top is the greatest end or the floor
pub top_is : (l : LeasesV) (last : ℕ) → ((name : List ℕ) × (map.get l.ends name ≡ Some last)) → ((name : List ℕ) → end_of l.ends name ≤ last) → max last l.floor ≡ top l
top_is l last reached greatest =
    let from : last ≤ top l = subst (λ o. unwrap_or o 0 ≤ top l) reached.1 (upto_top l reached.0) in
    let upto : top l ≤ max last l.floor = top_least l (max last l.floor) (omega arith) (λ name. omega (arith, greatest name)) in
    omega (arith, from, upto, floor_upto_top l)

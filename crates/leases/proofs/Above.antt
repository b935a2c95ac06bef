-- Maps of ends: what is left of one above a moment, and one that is listed in order.
use Rattle.std.proofs.Common.{◌≡◌, ◌∙◌, sym, ap, refl, ℕ, Bool, true, false, cond, List, [], ◌∷◌, ◌++◌, Option, Some, None, ◌<◌, ◌≤◌, ◌-◌, max, nat_lt, arith, subst, append_assoc}
use Rattle.std.specs.Prelude.{unwrap_or, is_some}
use Rattle.std.specs.Cmp.{Equal-is, eq_by_cmp_equiv}
use Rattle.std.specs.Cmp.Lexicographic.{slice_cmp}
use Rattle.std.specs.List.{AllByRecursion}
use Rattle.std.specs.List.Sorted.{IsStrictlySortedBy}
use Rattle.std.specs.Map.{keys_of}
use Rattle.std.specs.Ordering.{nat_cmp, eq_by_cmp, is_eq, ordering_reverse}
use Rattle.std.specs.declared.cmp.Ordering.TheVariants.{Less}
use Rattle.std.specs.FinMap as map
use Rattle.std.proofs.lemmas.Bool.{lt-ltb, le-ltb, false≢true}
use Rattle.std.proofs.lemmas.Cmp.{nat_list_cmp_total}
use Rattle.std.proofs.lemmas.Map.Lookups.{exact_bytes}
use Rattle.std.proofs.lemmas.Map.Keys.{sorted_head, sorted_tail}
use Rattle.leases.specs.Leases.{Ends, LeasesV, end_of, ends_above, granted}

abbrev pub names : List ℕ → List ℕ → Bool
names = eq_by_cmp (slice_cmp nat_cmp)

pub one_name : (a b : List ℕ) → names a b ≡ true → a ≡ b
one_name a b same = exact_bytes a b ((Equal-is (slice_cmp nat_cmp a b)).0 same)

pub names_turned : (a b : List ℕ) → names a b ≡ names b a
names_turned = (eq_by_cmp_equiv nat_list_cmp_total).symm

pub same_ends : (m n : Ends) → ((name : List ℕ) → map.get m name ≡ map.get n name) → m ≡ n
same_ends = map.same_map nat_list_cmp_total exact_bytes

-- ---- above a moment

-- an end where it is above the moment
abbrev pub end_above : ℕ → Option ℕ → Option ℕ
end_above now o = cond (nat_lt now (unwrap_or o 0)) o None

pub get_above : (m : Ends) (now : ℕ) (name : List ℕ) → map.get (ends_above m now) name ≡ end_above now (map.get m name)
get_above m now name = map.get-retain_keys m (λ q. nat_lt now (unwrap_or (map.get m q) 0)) name (λ x tied. ap (λ q. nat_lt now (unwrap_or (map.get m q) 0)) (sym (exact_bytes name x tied)))

none_above : (now : ℕ) → end_above now None ≡ None
none_above now = let none : Option ℕ = None in elim (nat_lt now 0) as (λ b. cond b none none ≡ none) [ true ↦ refl | false ↦ refl ]

over : (now end : ℕ) → end ≤ now → end_above now (Some end) ≡ None
over now end ended = ap (λ b. cond b (Some end) None) (le-ltb now end ended)

-- where all ends are above the moment, none goes
pub all_above : (m : Ends) (now : ℕ) → ((name : List ℕ) (end : ℕ) → map.get m name ≡ Some end → now < end) → m ≡ ends_above m now
all_above m now above = same_ends m (ends_above m now) (λ name.
    let kept : (o : Option ℕ) → map.get m name ≡ o → o ≡ end_above now o = λ o. elim o as (λ o. map.get m name ≡ o → o ≡ end_above now o) [
      | None ↦ λ is. sym (none_above now)
      | Some end ↦ λ is. sym (ap (λ b. cond b (Some end) None) (lt-ltb now end (above name end is)))
    ] in
    kept (map.get m name) refl ∙ sym (get_above m now name))

-- an end that is not above the moment may be taken out before
pub above_taken : (m : Ends) (now : ℕ) (name : List ℕ) (end : ℕ) → map.get m name ≡ Some end → end ≤ now → ends_above (map.remove m name) now ≡ ends_above m now
above_taken m now name end is ended = same_ends _ _ (λ q.
    let left : (b : Bool) → names q name ≡ b → end_above now (cond b None (map.get m q)) ≡ end_above now (map.get m q) = λ b. elim b as (λ b. names q name ≡ b → end_above now (cond b None (map.get m q)) ≡ end_above now (map.get m q)) [
      | true ↦ λ same. none_above now ∙ sym (ap (end_above now) (ap (map.get m) (one_name q name same) ∙ is) ∙ over now end ended)
      | false ↦ λ apart. refl
    ] in
    get_above (map.remove m name) now q ∙ ap (end_above now) (map.get-remove nat_list_cmp_total m name q) ∙ left (names q name) refl ∙ sym (get_above m now q))

-- a name that has an end is one of at least one
pub one_fewer : (m : Ends) (name : List ℕ) (end : ℕ) → map.get m name ≡ Some end → map.len (map.remove m name) < map.len m
one_fewer m name end is =
    let some : map.contains_key m name ≡ true = ap is_some is in
    let length : map.len (map.remove m name) ≡ map.len m - 1 = map.len-remove nat_list_cmp_total m name ∙ ap (λ b. cond b (map.len m - 1) (map.len m)) some in
    let one : map.len m ≡ 0 → ⊥ = λ none. false≢true (ap is_some (sym (ap (λ (n : Ends). map.get n name) (map.empty_of_len m none) ∙ map.get-empty (slice_cmp nat_cmp) name)) ∙ ap is_some is) in
    omega arith

-- a name that had no end has none again
pub put_taken : (m : Ends) (name : List ℕ) (end : ℕ) → map.get m name ≡ None → map.remove (map.insert m name end) name ≡ m
put_taken m name end none = same_ends _ _ (λ q.
    let left : (b : Bool) → names q name ≡ b → cond b None (cond b (Some end) (map.get m q)) ≡ map.get m q = λ b. elim b as (λ b. names q name ≡ b → cond b None (cond b (Some end) (map.get m q)) ≡ map.get m q) [
      | true ↦ λ same. sym (ap (map.get m) (one_name q name same) ∙ none)
      | false ↦ λ apart. refl
    ] in
    map.get-remove nat_list_cmp_total (map.insert m name end) name q
    ∙ ap (cond (names q name) None) (map.get-insert nat_list_cmp_total m name end q)
    ∙ left (names q name) refl)

-- ---- in order

below_next : (a : List ℕ) (es : List (List ℕ × ℕ)) (name : List ℕ) (end : ℕ) (rest : List (List ℕ × ℕ)) → AllByRecursion (λ y. slice_cmp nat_cmp a y ≡ Less) (keys_of (es ++ (name, end) ∷ rest)) → slice_cmp nat_cmp a name ≡ Less
below_next a [] name end rest below = below.0
below_next a (e ∷ es) name end rest below = below_next a es name end rest below.1

-- in a list that rises, a name does not stand before its place
pub not_before : (es : List (List ℕ × ℕ)) (name : List ℕ) (end : ℕ) (rest : List (List ℕ × ℕ)) → IsStrictlySortedBy (slice_cmp nat_cmp) (keys_of (es ++ (name, end) ∷ rest)) → map.find (slice_cmp nat_cmp) name es ≡ None
not_before [] name end rest rising = refl
not_before (e ∷ es) name end rest rising =
    let less = below_next e.0 es name end rest (sorted_head (slice_cmp nat_cmp) e.0 _ rising) in
    ap (λ r. cond (is_eq r) (Some e.1) (map.find (slice_cmp nat_cmp) name es)) (nat_list_cmp_total.antisymm name e.0 ∙ ap ordering_reverse less)
    ∙ not_before es name end rest (sorted_tail (slice_cmp nat_cmp) e.0 _ rising)

-- what was copied of the ends, and what is left
pub record Copies (copy : Ends) (rest all : List (List ℕ × ℕ)) : Type 0 where
  pub done : List (List ℕ × ℕ)
  pub parts : done ++ rest ≡ all
  pub is : copy ≡ map.from_entries done

pub copy_lacks : (copy : Ends) (rest all : List (List ℕ × ℕ)) (name : List ℕ) (end : ℕ) (next : List (List ℕ × ℕ)) → Copies copy rest all → rest ≡ (name, end) ∷ next → IsStrictlySortedBy (slice_cmp nat_cmp) (keys_of all) → map.get copy name ≡ None
copy_lacks copy rest all name end next copies is rising =
    let whole : all ≡ copies.done ++ (name, end) ∷ next = sym copies.parts ∙ ap (λ es. copies.done ++ es) is in
    ap (λ m. map.get m name) copies.is ∙ map.get-from_entries nat_list_cmp_total copies.done name
    ∙ not_before copies.done name end next (subst (λ es. IsStrictlySortedBy (slice_cmp nat_cmp) (keys_of es)) whole rising)

pub copy_more : (copy new : Ends) (rest all : List (List ℕ × ℕ)) (name : List ℕ) (end : ℕ) (next : List (List ℕ × ℕ)) → Copies copy rest all → rest ≡ (name, end) ∷ next → IsStrictlySortedBy (slice_cmp nat_cmp) (keys_of all) → new ≡ map.insert copy name end → Copies new next all
copy_more copy new rest all name end next copies is rising put =
    let lacks : map.find (slice_cmp nat_cmp) name copies.done ≡ None = sym (ap (λ m. map.get m name) copies.is ∙ map.get-from_entries nat_list_cmp_total copies.done name) ∙ copy_lacks copy rest all name end next copies is rising in
    record {
      done = copies.done ++ (name, end) ∷ [];
      parts = append_assoc copies.done ((name, end) ∷ []) next ∙ sym (ap (λ es. copies.done ++ es) is) ∙ copies.parts;
      is = put ∙ ap (λ m. map.insert m name end) copies.is ∙ sym (map.from_entries_push nat_list_cmp_total exact_bytes copies.done name end lacks);
    }

-- ---- granted

put_less : (m : Ends) (name : List ℕ) (end until : ℕ) → map.get m name ≡ Some end → until ≤ end → m ≡ map.insert m name (max (end_of m name) until)
put_less m name end until is less = same_ends _ _ (λ q.
    let greater : max (end_of m name) until ≡ end = ap (λ o. max (unwrap_or o 0) until) is ∙ omega arith in
    let stays : (b : Bool) → names q name ≡ b → map.get m q ≡ cond b (Some (max (end_of m name) until)) (map.get m q) = λ b. elim b as (λ b. names q name ≡ b → map.get m q ≡ cond b (Some (max (end_of m name) until)) (map.get m q)) [
      | true ↦ λ same. ap (map.get m) (one_name q name same) ∙ is ∙ ap (λ n. Some n) (sym greater)
      | false ↦ λ apart. refl
    ] in
    stays (names q name) refl ∙ sym (map.get-insert nat_list_cmp_total m name (max (end_of m name) until) q))

-- a lease that ends no later than the one that is kept changes nothing
pub granted_less : (l : LeasesV) (name : List ℕ) (end until : ℕ) → map.get l.ends name ≡ Some end → until ≤ end → l ≡ granted l name until
granted_less l name end until is less = ap (λ (m : Ends). record l { ends = m }) (put_less l.ends name end until is less)

-- The order of ends and the map: what each says of the other, and how both change together.
use Rattle.std.proofs.Common.{◌≡◌, ◌∙◌, sym, ap, refl, ℕ, Bool, true, false, cond, ◌&&◌, ◌==◌, List, [], ◌∷◌, length, Option, Some, None, ◌<◌, ◌≤◌, arith, subst, IsTrue}
use Rattle.std.specs.Prelude.{unwrap_or}
use Rattle.std.specs.declared.cmp.Ordering.{Ordering}
use Rattle.std.specs.declared.cmp.Ordering.TheVariants.{Less, Equal, Greater}
use Rattle.std.specs.Cmp.{unsigned_tied}
use Rattle.std.specs.Cmp.Lexicographic.{slice_cmp}
use Rattle.std.specs.BTreeMap.{is_at}
use Rattle.std.specs.Ordering.{nat_cmp, ordering_then, is_eq, is_lt, is_gt}
use Rattle.std.specs.FinMap as map
use Rattle.std.proofs.lemmas.Bool.{eqb-true, eq-eqb, false≢true}
use Rattle.std.proofs.lemmas.Bool.Decides.{nat_tests}
use Rattle.std.proofs.lemmas.Cmp.{nat_list_cmp_total}
use Rattle.leases.specs.declared.ending.Ending.{Ending}
use Rattle.leases.specs.Leases.{Ends, end_of, ends_above}
use Rattle.leases.specs.Order.{ending_cmp, has_ending, is_end, AreEndings}
use Rattle.leases.proofs.Above.{names, one_name, names_turned, same_ends, all_above, above_taken, one_fewer}

abbrev pub ending : ℕ → List ℕ → Ending
ending until name = record { until = until; name = name }

tied_both : (r s : Ordering) → is_eq (ordering_then r s) ≡ (is_eq r && is_eq s)
tied_both Less s = refl
tied_both Equal s = refl
tied_both Greater s = refl

-- an ending ties with those of its moment and its name
tied : (e q : Ending) → is_at (ending_cmp e) q ≡ ((e.until == q.until) && names e.name q.name)
tied e q = tied_both (nat_cmp e.until q.until) (slice_cmp nat_cmp e.name q.name) ∙ ap (λ b. b && names e.name q.name) (unsigned_tied e.until q.until)

-- ---- what the order says

pub none_yet : AreEndings [] map.empty
none_yet e = sym (ap (λ o. is_end o e.until) (map.get-empty (slice_cmp nat_cmp) e.name))

is_end-true : (o : Option ℕ) (until : ℕ) → is_end o until ≡ true → o ≡ Some until
is_end-true None until e = absurd (false≢true e)
is_end-true (Some end) until e = ap (λ n. Some n) (eqb-true end until e)

-- an ending that is there is the end of its name
pub end_there : (es : List Ending) (m : Ends) (e : Ending) → AreEndings es m → has_ending es e ≡ true → map.get m e.name ≡ Some e.until
end_there es m e are has = is_end-true (map.get m e.name) e.until (sym (are e) ∙ has)

-- the end of a name is there as an ending
pub ending_there : (es : List Ending) (m : Ends) (name : List ℕ) (end : ℕ) → AreEndings es m → map.get m name ≡ Some end → has_ending es (ending end name) ≡ true
ending_there es m name end are is = are (ending end name) ∙ ap (λ o. is_end o end) is ∙ eq-eqb end end refl

-- without endings no name has an end
pub no_ends : (es : List Ending) (m : Ends) → AreEndings es m → (0 < length es → ⊥) → m ≡ map.empty
no_ends (e ∷ es) m are none = absurd (none (omega arith))
no_ends [] m are none = same_ends m map.empty (λ name.
    let no_end : (o : Option ℕ) → map.get m name ≡ o → o ≡ None = λ o. elim o as (λ o. map.get m name ≡ o → o ≡ None) [
      | None ↦ λ is. refl
      | Some end ↦ λ is. absurd (false≢true (ending_there [] m name end are is))
    ] in
    no_end (map.get m name) refl ∙ sym (map.get-empty (slice_cmp nat_cmp) name))

not_less : (r s : Ordering) → is_lt (ordering_then r s) ≡ false → is_lt r ≡ false
not_less Less s e = e
not_less Equal s e = refl
not_less Greater s e = refl

not_greater : (r s : Ordering) → is_gt (ordering_then r s) ≡ false → is_gt r ≡ false
not_greater Less s e = refl
not_greater Equal s e = refl
not_greater Greater s e = e

-- of two endings in order the moments are in order
pub until_upto : (a b : Ending) → is_lt (ending_cmp a b) ≡ false → b.until ≤ a.until
until_upto a b e = let r = not_less (nat_cmp a.until b.until) (slice_cmp nat_cmp a.name b.name) e in grind (arith, nat_tests)

pub until_from : (a b : Ending) → is_gt (ending_cmp a b) ≡ false → a.until ≤ b.until
until_from a b e = let r = not_greater (nat_cmp a.until b.until) (slice_cmp nat_cmp a.name b.name) e in grind (arith, nat_tests)

-- the end of each name is at most the greatest ending's
pub upto_last : (es : List Ending) (m : Ends) (last : Ending) → AreEndings es m → ((q : Ending) → IsTrue (has_ending es q) → is_lt (ending_cmp last q) ≡ false) → (name : List ℕ) → end_of m name ≤ last.until
upto_last es m last are greatest name =
    let upto : (o : Option ℕ) → map.get m name ≡ o → unwrap_or o 0 ≤ last.until = λ o. elim o as (λ o. map.get m name ≡ o → unwrap_or o 0 ≤ last.until) [
      | None ↦ λ is. omega arith
      | Some end ↦ λ is. until_upto last (ending end name) (greatest (ending end name) (ending_there es m name end are is))
    ] in
    upto (map.get m name) refl

-- ---- how both change

-- at a name with no end: one that begins
begun_at : (same : Bool) (o : Option ℕ) (until at : ℕ) → (same ≡ true → o ≡ None) → cond ((until == at) && same) true (is_end o at) ≡ is_end (cond same (Some until) o) at
begun_at true o until at none = ap (λ o. cond ((until == at) && true) true (is_end o at)) (none refl) ∙ elim (until == at) as (λ b. cond (b && true) true false ≡ b) [ true ↦ refl | false ↦ refl ]
begun_at false o until at none = elim (until == at) as (λ b. cond (b && false) true (is_end o at) ≡ is_end o at) [ true ↦ refl | false ↦ refl ]

pub begun : (es ns : List Ending) (m : Ends) (name : List ℕ) (until : ℕ) → AreEndings es m → map.get m name ≡ None
    → ((q : Ending) → has_ending ns q ≡ cond (is_at (ending_cmp (ending until name)) q) true (has_ending es q)) → AreEndings ns (map.insert m name until)
begun es ns m name until are none puts = λ q.
    puts q
    ∙ ap (λ b. cond b true (has_ending es q)) (tied (ending until name) q)
    ∙ ap (cond ((until == q.until) && names name q.name) true) (are q)
    ∙ begun_at (names name q.name) (map.get m q.name) until q.until (λ same. ap (map.get m) (sym (one_name name q.name same)) ∙ none)
    ∙ ap (λ b. is_end (cond b (Some until) (map.get m q.name)) q.until) (names_turned name q.name)
    ∙ ap (λ o. is_end o q.until) (sym (map.get-insert nat_list_cmp_total m name until q.name))

-- at a name with an end: one that takes its place
prolonged_at : (same : Bool) (o : Option ℕ) (end until at : ℕ) → (same ≡ true → o ≡ Some end) → end < until
    → cond ((end == at) && same) false (cond ((until == at) && same) true (is_end o at)) ≡ is_end (cond same (Some until) o) at
prolonged_at true o end until at some later =
    ap (λ o. cond ((end == at) && true) false (cond ((until == at) && true) true (is_end o at))) (some refl) ∙ grind (arith, nat_tests)
prolonged_at false o end until at some later =
    elim (end == at) as (λ b. cond (b && false) false (cond ((until == at) && false) true (is_end o at)) ≡ is_end o at) [
      | true ↦ elim (until == at) as (λ b. cond (b && false) true (is_end o at) ≡ is_end o at) [ true ↦ refl | false ↦ refl ]
      | false ↦ elim (until == at) as (λ b. cond (b && false) true (is_end o at) ≡ is_end o at) [ true ↦ refl | false ↦ refl ]
    ]

pub prolonged : (es mid ns : List Ending) (m : Ends) (name : List ℕ) (end until : ℕ) → AreEndings es m → map.get m name ≡ Some end → end < until
    → ((q : Ending) → has_ending mid q ≡ cond (is_at (ending_cmp (ending until name)) q) true (has_ending es q))
    → ((q : Ending) → has_ending ns q ≡ cond (is_at (ending_cmp (ending end name)) q) false (has_ending mid q)) → AreEndings ns (map.insert m name until)
prolonged es mid ns m name end until are some later puts takes = λ q.
    takes q
    ∙ ap (cond (is_at (ending_cmp (ending end name)) q) false) (puts q)
    ∙ ap (λ b. cond b false (cond (is_at (ending_cmp (ending until name)) q) true (has_ending es q))) (tied (ending end name) q)
    ∙ ap (λ b. cond ((end == q.until) && names name q.name) false (cond b true (has_ending es q))) (tied (ending until name) q)
    ∙ ap (λ b. cond ((end == q.until) && names name q.name) false (cond ((until == q.until) && names name q.name) true b)) (are q)
    ∙ prolonged_at (names name q.name) (map.get m q.name) end until q.until (λ same. ap (map.get m) (sym (one_name name q.name same)) ∙ some) later
    ∙ ap (λ b. is_end (cond b (Some until) (map.get m q.name)) q.until) (names_turned name q.name)
    ∙ ap (λ o. is_end o q.until) (sym (map.get-insert nat_list_cmp_total m name until q.name))

-- at a name with an end: none
ended_at : (same : Bool) (o : Option ℕ) (end at : ℕ) → (same ≡ true → o ≡ Some end) → cond ((end == at) && same) false (is_end o at) ≡ is_end (cond same None o) at
ended_at true o end at some = ap (λ o. cond ((end == at) && true) false (is_end o at)) (some refl) ∙ elim (end == at) as (λ b. cond (b && true) false b ≡ false) [ true ↦ refl | false ↦ refl ]
ended_at false o end at some = elim (end == at) as (λ b. cond (b && false) false (is_end o at) ≡ is_end o at) [ true ↦ refl | false ↦ refl ]

pub ended : (es ns : List Ending) (m : Ends) (e : Ending) → AreEndings es m → has_ending es e ≡ true
    → ((q : Ending) → has_ending ns q ≡ cond (is_at (ending_cmp e) q) false (has_ending es q)) → AreEndings ns (map.remove m e.name)
ended es ns m e are has takes = λ q.
    takes q
    ∙ ap (λ b. cond b false (has_ending es q)) (tied e q)
    ∙ ap (cond ((e.until == q.until) && names e.name q.name) false) (are q)
    ∙ ended_at (names e.name q.name) (map.get m q.name) e.until q.until (λ same. ap (map.get m) (sym (one_name e.name q.name same)) ∙ end_there es m e are has)
    ∙ ap (λ b. is_end (cond b None (map.get m q.name)) q.until) (names_turned e.name q.name)
    ∙ ap (λ o. is_end o q.until) (sym (map.get-remove nat_list_cmp_total m e.name q.name))

-- ---- the first ending

pub record IsFirstTaken (ns : List Ending) (m n : Ends) (now : ℕ) : Type 0 where
  pub endings : AreEndings ns n
  pub same : ends_above n now ≡ ends_above m now
  pub fewer : map.len n < map.len m

-- an ending that is not above the moment is taken out of both
pub first_taken : (es ns : List Ending) (m n : Ends) (e : Ending) (now : ℕ) → AreEndings es m → has_ending es e ≡ true
    → ((q : Ending) → has_ending ns q ≡ cond (is_at (ending_cmp e) q) false (has_ending es q)) → n ≡ map.remove m e.name → e.until ≤ now → IsFirstTaken ns m n now
first_taken es ns m n e now are has takes is over =
    let there = end_there es m e are has in
    subst (λ n. IsFirstTaken ns m n now) (sym is) (record {
      endings = ended es ns m e are has takes;
      same = above_taken m now e.name e.until there over;
      fewer = one_fewer m e.name e.until there;
    })

-- where all endings are above the moment, all ends are
pub none_taken : (es : List Ending) (m : Ends) (now : ℕ) → AreEndings es m → ((q : Ending) → has_ending es q ≡ true → now < q.until) → m ≡ ends_above m now
none_taken es m now are above = all_above m now (λ name end is. above (ending end name) (ending_there es m name end are is))

-- How many rows of a load are absent: no more than there are, and where their names rise any number up to that, on some map.
use Rattle.std.proofs.Common.{◌≡◌, ◌∙◌, sym, ap, subst, refl, ℕ, ◌+◌, ◌≤◌, arith, Bool, true, false, cond, List, [], ◌∷◌, length, Option, Some, None, inl, inr}
use Rattle.std.specs.Prelude.{is_some}
use Rattle.std.specs.List.{AllByRecursion}
use Rattle.std.specs.Cmp.{IsTotalOrder, nat_cmp_total, eq_by_cmp_equiv}
use Rattle.std.specs.FinMap as map
use Rattle.std.specs.Ordering.{is_lt, ordering_reverse, eq_by_cmp}
use Rattle.std.specs.declared.cmp.Ordering.{Ordering}
use Rattle.std.specs.declared.cmp.Ordering.TheVariants.{Less, Equal, Greater}
use Rattle.std.proofs.lemmas.Bool.{cases_lt}
use Rattle.std.proofs.lemmas.Cmp.{then_total, on_total, nat_list_cmp_total}
use Rattle.mds_base.specs.declared.attr.Attr.{Attr}
use Rattle.mds_base.specs.declared.row.Row.{Row}
use Rattle.mds_base.specs.Entries.{Place, place_cmp, Entries}
use Rattle.mds_base.specs.PlainRules.{added}
use Rattle.mds_base.proofs.Lists.{all_map}
use Rattle.mds_base.proofs.Maps.{insert_apart, remove_apart}
use Rattle.mds_base.proofs.Places.{places_total, exact_places}
use Rattle.name_hash.specs.ScanOrder.{place_of, scan_cmp}
use Rattle.records.specs.Rows.{AreRising}

scan_total : IsTotalOrder scan_cmp
scan_total = then_total (on_total place_of nat_cmp_total) nat_list_cmp_total

less_of : (o : Ordering) → is_lt o ≡ true → o ≡ Less
less_of Less e = refl
less_of Equal e = absurd cc
less_of Greater e = absurd cc

not_before_itself : (name : List ℕ) → scan_cmp name name ≡ Less → ⊥
not_before_itself name lt =
    let turned : Less ≡ ordering_reverse Less = sym lt ∙ scan_total.antisymm name name ∙ ap ordering_reverse lt in
    cc

-- a name before that of a row is before all that rise behind it
behind_all : (stamped : Bool) (name : List ℕ) (row : Row) (rows : List Row) → scan_cmp name row.name ≡ Less → AreRising stamped 0 (Some row) rows → AllByRecursion (λ r. scan_cmp name r.name ≡ Less) rows
behind_all stamped name row [] lt rising = tt
behind_all stamped name row (x ∷ rows) lt rising =
    let next : scan_cmp row.name x.name ≡ Less = less_of _ (rising.0 (omega arith)) in
    let further = scan_total.trans name row.name x.name lt next in
    (further, behind_all stamped name x rows further rising.1)

abbrev Apart : List ℕ → List Row → Type 0
Apart name = AllByRecursion (λ r. r.name ≡ name → ⊥)

apart_of : (stamped : Bool) (row : Row) (rows : List Row) → AreRising stamped 0 (Some row) rows → Apart row.name rows
apart_of stamped row [] rising = tt
apart_of stamped row (x ∷ rows) rising =
    let next : scan_cmp row.name x.name ≡ Less = less_of _ (rising.0 (omega arith)) in
    all_map (λ (r : Row). scan_cmp row.name r.name ≡ Less) (λ (r : Row). r.name ≡ row.name → ⊥) (x ∷ rows) (λ r lt same. not_before_itself row.name (subst (λ (n : List ℕ). scan_cmp row.name n ≡ Less) same lt)) (next, behind_all stamped row.name x rows next rising.1)

-- no two rows have one name
abbrev pub Distinct : List Row → Type 0
Distinct [] = Unit {0}
Distinct (row ∷ rows) = Apart row.name rows × Distinct rows

pub distinct_of : (stamped : Bool) (before : Option Row) (rows : List Row) → AreRising stamped 0 before rows → Distinct rows
distinct_of stamped before [] rising = tt
distinct_of stamped before (row ∷ rows) rising = (apart_of stamped row rows rising.1, distinct_of stamped (Some row) rows rising.1)

-- ---- how many are added

-- what one row adds, and the others after it
abbrev counted : Entries → ℕ → Row → List Row → Bool → ℕ
counted entries dir row rows there = cond there (added entries dir rows) (added (map.insert entries (dir, row.name) row.attr) dir rows + 1)

pub added_most : (entries : Entries) (dir : ℕ) (rows : List Row) → added entries dir rows ≤ length rows
added_most entries dir [] = omega arith
added_most entries dir (row ∷ rows) = elim (is_some (map.get entries (dir, row.name))) as (λ t. counted entries dir row rows t ≤ length (row ∷ rows)) [
  | true ↦ let few = added_most entries dir rows in omega arith
  | false ↦ let few = added_most (map.insert entries (dir, row.name) row.attr) dir rows in omega arith
]

-- maps that agree on the rows' names
abbrev Agree : Entries → Entries → ℕ → List Row → Type 0
Agree a b dir = AllByRecursion (λ r. map.get a (dir, r.name) ≡ map.get b (dir, r.name))

agree_still : (a b : Entries) (dir : ℕ) (place : Place) (attr : Attr) (rows : List Row) → Agree a b dir rows → Agree (map.insert a place attr) (map.insert b place attr) dir rows
agree_still a b dir place attr rows = all_map (λ (r : Row). map.get a (dir, r.name) ≡ map.get b (dir, r.name)) (λ (r : Row). map.get (map.insert a place attr) (dir, r.name) ≡ map.get (map.insert b place attr) (dir, r.name)) rows
    (λ r e. map.get-insert places_total a place attr (dir, r.name) ∙ ap (λ (o : Option Attr). cond (eq_by_cmp place_cmp (dir, r.name) place) (Some attr) o) e ∙ sym (map.get-insert places_total b place attr (dir, r.name)))

same_added : (a b : Entries) (dir : ℕ) (rows : List Row) → Agree a b dir rows → added a dir rows ≡ added b dir rows
same_added a b dir [] agree = refl
same_added a b dir (row ∷ rows) agree =
    ap (λ (o : Option Attr). counted a dir row rows (is_some o)) agree.0
    ∙ elim (is_some (map.get b (dir, row.name))) as (λ t. counted a dir row rows t ≡ counted b dir row rows t) [
      | true ↦ same_added a b dir rows agree.1
      | false ↦ ap (λ (n : ℕ). n + 1) (same_added (map.insert a (dir, row.name) row.attr) (map.insert b (dir, row.name) row.attr) dir rows (agree_still a b dir (dir, row.name) row.attr rows agree.1))
    ]

put_there : (entries : Entries) (place : Place) (attr : Attr) → map.get (map.insert entries place attr) place ≡ Some attr
put_there entries place attr = map.get-insert places_total entries place attr place ∙ ap (λ (b : Bool). cond b (Some attr) (map.get entries place)) ((eq_by_cmp_equiv places_total).refl place)

taken_there : (entries : Entries) (place : Place) → map.get (map.remove entries place) place ≡ None
taken_there entries place = map.get-remove places_total entries place place ∙ ap (λ (b : Bool). cond b None (map.get entries place)) ((eq_by_cmp_equiv places_total).refl place)

put_apart : (entries : Entries) (dir : ℕ) (name : List ℕ) (attr : Attr) (rows : List Row) → Apart name rows → Agree (map.insert entries (dir, name) attr) entries dir rows
put_apart entries dir name attr rows = all_map (λ (r : Row). r.name ≡ name → ⊥) (λ (r : Row). map.get (map.insert entries (dir, name) attr) (dir, r.name) ≡ map.get entries (dir, r.name)) rows
    (λ r apart. insert_apart places_total exact_places entries (dir, name) attr (dir, r.name) (λ same. apart (ap (λ (p : Place). p.1) same)))

moved_apart : (entries : Entries) (dir : ℕ) (name : List ℕ) (attr : Attr) (rows : List Row) → Apart name rows → Agree (map.insert (map.remove entries (dir, name)) (dir, name) attr) entries dir rows
moved_apart entries dir name attr rows = all_map (λ (r : Row). r.name ≡ name → ⊥) (λ (r : Row). map.get (map.insert (map.remove entries (dir, name)) (dir, name) attr) (dir, r.name) ≡ map.get entries (dir, r.name)) rows
    (λ r apart. let other : (dir, r.name) ≡ (dir, name) → ⊥ = λ same. apart (ap (λ (p : Place). p.1) same) in
    insert_apart places_total exact_places (map.remove entries (dir, name)) (dir, name) attr (dir, r.name) other ∙ remove_apart places_total exact_places entries (dir, name) (dir, r.name) other)

-- each number up to that of the rows is what some map lacks of them
pub reached : (dir : ℕ) (rows : List Row) (number : ℕ) → Distinct rows → number ≤ length rows → (entries : Entries) × (number ≡ added entries dir rows)
reached dir [] number d le = (map.empty, omega arith)
reached dir (row ∷ rows) number d le = elim (cases_lt (length rows) number) [
  | inl all ↦
      let r = reached dir rows (length rows) d.1 (omega arith) in
      let e : Entries = map.remove r.0 (dir, row.name) in
      let step : added e dir (row ∷ rows) ≡ added (map.insert e (dir, row.name) row.attr) dir rows + 1 = ap (λ (o : Option Attr). counted e dir row rows (is_some o)) (taken_there r.0 (dir, row.name)) in
      let rest = same_added (map.insert e (dir, row.name) row.attr) r.0 dir rows (moved_apart r.0 dir row.name row.attr rows d.0) in
      (e, omega (arith, step, rest, r.1))
  | inr few ↦
      let r = reached dir rows number d.1 few in
      let e : Entries = map.insert r.0 (dir, row.name) row.attr in
      let step : added e dir (row ∷ rows) ≡ added e dir rows = ap (λ (o : Option Attr). counted e dir row rows (is_some o)) (put_there r.0 (dir, row.name) row.attr) in
      let rest = same_added e r.0 dir rows (put_apart r.0 dir row.name row.attr rows d.0) in
      (e, r.1 ∙ sym rest ∙ sym step)
]

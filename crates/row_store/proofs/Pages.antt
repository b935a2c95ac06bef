-- A page, as seeks of one row after another list it.
use Rattle.std.proofs.Common.{◌≡◌, ◌∙◌, sym, ap, subst, refl, ℕ, zero, suc, ◌-◌, ◌<◌, List, [], ◌∷◌, ◌++◌, append_assoc, length, take, map, Bool, true, false, cond, ◌&&◌, Option, Some, None, arith}
use Rattle.std.specs.Prelude.{not, T}
use Rattle.std.specs.declared.cmp.Ordering.{Ordering}
use Rattle.std.specs.declared.cmp.Ordering.TheVariants.{Less, Equal, Greater}
use Rattle.std.specs.FinMap as map
use Rattle.std.specs.FinMap.Entries.{find, below_all, is_sorted}
use Rattle.std.specs.List.{filter, slice_get}
use Rattle.std.specs.Cmp.Lexicographic.{slice_cmp}
use Rattle.std.specs.Option.{option_map}
use Rattle.std.specs.Ordering.{nat_cmp, is_lt, is_le, is_eq}
use Rattle.std.proofs.lemmas.Bool.Decides.{nat_tests}
use Rattle.std.proofs.lemmas.Cmp.{nat_list_cmp_total}
use Rattle.std.proofs.lemmas.List.{append-nil, length-append}
use Rattle.mds_base.specs.declared.attr.Attr.{Attr}
use Rattle.mds_base.specs.declared.cursor.Cursor.{Cursor}
use Rattle.mds_base.specs.declared.row.Row.{Row}
use Rattle.mds_base.specs.declared.row_key.RowKey.{RowKey}
use Rattle.mds_base.specs.RowKeys.{row_key_cmp, RowMap, is_in_page, is_outside, row_of, page_of}
use Rattle.mds_base.proofs.RowMaps.{exact_row_keys, kept_rows}
use Rattle.row_store.specs.Seeks.{IsFirst, before_next, least_from}
use Rattle.row_store.proofs.SaidBehind.{not_below}
use Rattle.row_store.proofs.Passing.{self_tied, compare, not_both, not_self, past_below, past_above}
use Rattle.sorted_table.specs.Starts.{before_at}

abbrev Entries : Type 0
Entries = List (RowKey × Attr)

-- ---- entries in order, and what is found in them

parts_of : (a b : Bool) → T (a && b) → T a × T b
parts_of true b h = (tt, h)
parts_of false b h = absurd h

less_of : (r : Ordering) → T (is_lt r) → r ≡ Less
less_of Less h = refl
less_of Equal h = absurd h
less_of Greater h = absurd h

find_is : (q : RowKey) (e : RowKey × Attr) (es : Entries) (r : Ordering) → row_key_cmp q e.0 ≡ r → find row_key_cmp q (e ∷ es) ≡ cond (is_eq r) (Some e.1) (find row_key_cmp q es)
find_is q e es r is = ap (λ x. cond (is_eq x) (Some e.1) (find row_key_cmp q es)) is

find_self : (e : RowKey × Attr) (es : Entries) → find row_key_cmp e.0 (e ∷ es) ≡ Some e.1
find_self e es = find_is e.0 e es Equal (self_tied e.0)

none_behind : (q : RowKey) (e : RowKey × Attr) (es : Entries) → find row_key_cmp q (e ∷ es) ≡ None → find row_key_cmp q es ≡ None
none_behind q e es none = go (row_key_cmp q e.0) refl
  where
    go : (r : Ordering) → row_key_cmp q e.0 ≡ r → find row_key_cmp q es ≡ None
    go Less is = sym (find_is q e es Less is) ∙ none
    go Equal is = let no : ◌≡◌ {A = Option Attr} (Some e.1) None = sym (find_is q e es Equal is) ∙ none in absurd cc
    go Greater is = sym (find_is q e es Greater is) ∙ none

-- what is found among entries that are above a key is above it
found_above : (x k : RowKey) (a : Attr) (es : Entries) → T (below_all row_key_cmp x es) → find row_key_cmp k es ≡ Some a → row_key_cmp x k ≡ Less
found_above x k a [] below is = absurd cc
found_above x k a (e ∷ es) below is = go (found_above x k a es) (row_key_cmp k e.0) refl
  where
    here : row_key_cmp x e.0 ≡ Less
    here = less_of (row_key_cmp x e.0) (parts_of (is_lt (row_key_cmp x e.0)) (below_all row_key_cmp x es) below).0

    more : T (below_all row_key_cmp x es)
    more = (parts_of (is_lt (row_key_cmp x e.0)) (below_all row_key_cmp x es) below).1

    go : (T (below_all row_key_cmp x es) → find row_key_cmp k es ≡ Some a → row_key_cmp x k ≡ Less) → (r : Ordering) → row_key_cmp k e.0 ≡ r → row_key_cmp x k ≡ Less
    go rest Less tie = rest more (sym (find_is k e es Less tie) ∙ is)
    go rest Equal tie = ap (row_key_cmp x) (exact_row_keys k e.0 tie) ∙ here
    go rest Greater tie = rest more (sym (find_is k e es Greater tie) ∙ is)

abbrev kept : (RowKey → Bool) → Entries → Entries
kept test es = filter (λ e. test e.0) es

kept_is : (test : RowKey → Bool) (e : RowKey × Attr) (es : Entries) (b : Bool) → test e.0 ≡ b → kept test (e ∷ es) ≡ cond b (e ∷ kept test es) (kept test es)
kept_is test e es b is = ap (λ x. cond x (e ∷ kept test es) (kept test es)) is

same_kept : (test other : RowKey → Bool) (es : Entries) → ((q : RowKey) → test q ≡ other q) → kept test es ≡ kept other es
same_kept test other [] same = refl
same_kept test other (e ∷ es) same = kept_is test e es (other e.0) (same e.0) ∙ ap (λ (l : Entries). cond (other e.0) (e ∷ l) l) (same_kept test other es same)

-- tests that agree above a key keep the same of what is above it
same_above : (test later : RowKey → Bool) (k : RowKey) (es : Entries) → T (below_all row_key_cmp k es) → ((q : RowKey) → row_key_cmp k q ≡ Less → later q ≡ test q) → kept later es ≡ kept test es
same_above test later k [] below agree = refl
same_above test later k (e ∷ es) below agree =
    let p = parts_of (is_lt (row_key_cmp k e.0)) (below_all row_key_cmp k es) below in
    kept_is later e es (test e.0) (agree e.0 (less_of (row_key_cmp k e.0) p.0)) ∙ ap (λ (l : Entries). cond (test e.0) (e ∷ l) l) (same_above test later k es p.1 agree)

-- none passes the test
none_kept : (test : RowKey → Bool) (es : Entries) → ((q : RowKey) → test q ≡ true → find row_key_cmp q es ≡ None) → kept test es ≡ []
none_kept test [] none = refl
none_kept test (e ∷ es) none = go (test e.0) refl (none_kept test es (λ q passed. none_behind q e es (none q passed)))
  where
    go : (b : Bool) → test e.0 ≡ b → kept test es ≡ [] → kept test (e ∷ es) ≡ []
    go true passed rest = let no : ◌≡◌ {A = Option Attr} (Some e.1) None = sym (find_self e es) ∙ none e.0 passed in absurd cc
    go false failed rest = kept_is test e es false failed ∙ rest

-- the first that passes, and then those that pass and are above it
first_kept : (test later : RowKey → Bool) (k : RowKey) (a : Attr) (es : Entries) → T (is_sorted row_key_cmp es) → find row_key_cmp k es ≡ Some a → test k ≡ true → ((q : RowKey) → test q ≡ true → row_key_cmp q k ≡ Less → find row_key_cmp q es ≡ None)
    → ((q : RowKey) → row_key_cmp k q ≡ Less → later q ≡ test q) → ((q : RowKey) → (row_key_cmp k q ≡ Less → ⊥) → later q ≡ false) → kept test es ≡ (k, a) ∷ kept later es
first_kept test later k a [] sorted is passed none agree off = absurd cc
first_kept test later k a (e ∷ es) sorted is passed none agree off = go (row_key_cmp k e.0) refl (first_kept test later k a es)
  where
    both : T (below_all row_key_cmp e.0 es) × T (is_sorted row_key_cmp es)
    both = parts_of (below_all row_key_cmp e.0 es) (is_sorted row_key_cmp es) sorted

    -- it is this one
    here : k ≡ e.0 → row_key_cmp k e.0 ≡ Equal → kept test (e ∷ es) ≡ (k, a) ∷ kept later (e ∷ es)
    here same tie =
        let value : e.1 ≡ a = (let v : ◌≡◌ {A = Option Attr} (Some e.1) (Some a) = sym (find_is k e es Equal tie) ∙ is in cc) in
        let passes : test e.0 ≡ true = ap test (sym same) ∙ passed in
        let fails : later e.0 ≡ false = ap later (sym same) ∙ off k (λ less. not_self ⊥ k less) in
        let below : T (below_all row_key_cmp k es) = subst (λ (x : RowKey). T (below_all row_key_cmp x es)) (sym same) both.0 in
        kept_is test e es true passes
        ∙ ap (λ (l : Entries). e ∷ l) (sym (same_above test later k es below agree))
        ∙ ap (λ (x : RowKey). (x, e.1) ∷ kept later es) (sym same)
        ∙ ap (λ (x : Attr). (k, x) ∷ kept later es) value
        ∙ ap (λ (l : Entries). (k, a) ∷ l) (sym (kept_is later e es false fails))

    -- it is a later one
    behind : row_key_cmp e.0 k ≡ Less → find row_key_cmp k es ≡ Some a → kept test es ≡ (k, a) ∷ kept later es → (b : Bool) → test e.0 ≡ b → kept test (e ∷ es) ≡ (k, a) ∷ kept later (e ∷ es)
    behind less later_found rest true passes = let no : ◌≡◌ {A = Option Attr} (Some e.1) None = sym (find_self e es) ∙ none e.0 passes less in absurd cc
    behind less later_found rest false fails =
        let not_later : later e.0 ≡ false = off e.0 (λ more. not_both ⊥ e.0 k less more) in
        kept_is test e es false fails ∙ rest ∙ ap (λ (l : Entries). (k, a) ∷ l) (sym (kept_is later e es false not_later))

    go : (r : Ordering) → row_key_cmp k e.0 ≡ r
        → (T (is_sorted row_key_cmp es) → find row_key_cmp k es ≡ Some a → test k ≡ true → ((q : RowKey) → test q ≡ true → row_key_cmp q k ≡ Less → find row_key_cmp q es ≡ None)
        → ((q : RowKey) → row_key_cmp k q ≡ Less → later q ≡ test q) → ((q : RowKey) → (row_key_cmp k q ≡ Less → ⊥) → later q ≡ false) → kept test es ≡ (k, a) ∷ kept later es)
        → kept test (e ∷ es) ≡ (k, a) ∷ kept later (e ∷ es)
    go Less tie rest =
        let found : find row_key_cmp k es ≡ Some a = sym (find_is k e es Less tie) ∙ is in
        not_both (kept test (e ∷ es) ≡ (k, a) ∷ kept later (e ∷ es)) k e.0 tie (found_above e.0 k a es both.0 found)
    go Equal tie rest = here (exact_row_keys k e.0 tie) tie
    go Greater tie rest =
        let found : find row_key_cmp k es ≡ Some a = sym (find_is k e es Greater tie) ∙ is in
        behind (found_above e.0 k a es both.0 found) found (rest both.1 found passed (λ q passes less. none_behind q e es (none q passes less)) agree off) (test e.0) refl

-- ---- the least key that is not below another

not_true : (b : Bool) → not b ≡ true → b ≡ false
not_true true e = absurd cc
not_true false e = refl

pub least_is : (rows : RowMap) (key : RowKey) (found : Option (RowKey × Attr)) → IsFirst rows (before_at key false) found → option_map (λ row. row.0) found ≡ least_from rows key
least_is rows key None first =
    let test : RowKey → Bool = λ other. not (before_at key false other) in
    let none : kept test (map.entries rows) ≡ [] = none_kept test (map.entries rows) (λ q passed. sym (map.get-entries rows q) ∙ first q (not_true (before_at key false q) passed)) in
    ap (λ (es : Entries). option_map (λ row. row.0) (slice_get es 0)) (sym (kept_rows rows test ∙ none))
least_is rows key (Some row) first =
    let test : RowKey → Bool = λ other. not (before_at key false other) in
    let later : RowKey → Bool = λ other. is_lt (row_key_cmp row.0 other) && test other in
    let some : kept test (map.entries rows) ≡ row ∷ kept later (map.entries rows) =
    first_kept test later row.0 row.1 (map.entries rows) (map.entries_sorted rows) (sym (map.get-entries rows row.0) ∙ first.1) (ap not first.0.0) (λ q passed less. sym (map.get-entries rows q) ∙ first.0.1 q (not_true (before_at key false q) passed) less)
    (λ q less. ap (λ r. is_lt r && test q) less) (λ q apart. off row.0 q (test q) apart) in
    ap (λ (es : Entries). option_map (λ row. row.0) (slice_get es 0)) (sym (kept_rows rows test ∙ some))
  where
    off : (k q : RowKey) (b : Bool) → (row_key_cmp k q ≡ Less → ⊥) → (is_lt (row_key_cmp k q) && b) ≡ false
    off k q b apart = go (row_key_cmp k q) refl
      where
        go : (r : Ordering) → row_key_cmp k q ≡ r → (is_lt (row_key_cmp k q) && b) ≡ false
        go Less is = absurd (apart is)
        go Equal is = ap (λ x. is_lt x && b) is
        go Greater is = ap (λ x. is_lt x && b) is

-- ---- a page

-- a start of another form
pub first_as : (rows : RowMap) (before other : RowKey → Bool) (found : Option (RowKey × Attr)) → ((key : RowKey) → before key ≡ other key) → IsFirst rows before found → IsFirst rows other found
first_as rows before other None same first = λ q behind. first q (same q ∙ behind)
first_as rows before other (Some row) same first = ((sym (same row.0) ∙ first.0.0, λ q behind less. first.0.1 q (same q ∙ behind) less), first.1)

-- from a place of the partition on, what follows a row outside is outside
outside_up : (dir part last : ℕ) (place a b : RowKey) → place.dir ≡ dir → place.part ≡ part → is_le (row_key_cmp place a) ≡ true → is_outside dir part last a ≡ true → row_key_cmp a b ≡ Less → is_outside dir part last b ≡ true
outside_up dir part last place a b dirs parts start out up = grind (arith, nat_tests)

from_next : (dir part : ℕ) (from : Cursor) (rev : ℕ) (row : Option Row) (last : ℕ) (a b : RowKey) → before_next dir part from rev row a ≡ false → is_outside dir part last a ≡ true → row_key_cmp a b ≡ Less → is_outside dir part last b ≡ true
from_next dir part from rev (Some row) last a b behind out up =
    let place : RowKey = record { dir = dir; part = part; rev = rev; name = row.name } in
    outside_up dir part last place a b refl refl (not_below place true a behind) out up
from_next dir part from rev None last a b behind out up = go from.after refl
  where
    go : (after : Option (List ℕ)) → from.after ≡ after → is_outside dir part last b ≡ true
    go None is = outside_up dir part last (record { dir = dir; part = part; rev = from.at; name = [] }) a b refl refl (not_below (record { dir = dir; part = part; rev = from.at; name = [] }) false a (rw is at behind)) out up
    go (Some name) is = outside_up dir part last (record { dir = dir; part = part; rev = from.at; name = name }) a b refl refl (not_below (record { dir = dir; part = part; rev = from.at; name = name }) true a (rw is at behind)) out up

no_less : (name : List ℕ) → is_lt (slice_cmp nat_cmp name []) ≡ false
no_less [] = refl
no_less (b ∷ bytes) = refl

turned_names : (a b : List ℕ) → not (is_le (slice_cmp nat_cmp a b)) ≡ is_lt (slice_cmp nat_cmp b a)
turned_names a b = go (slice_cmp nat_cmp a b) refl
  where
    go : (r : Ordering) → slice_cmp nat_cmp a b ≡ r → not (is_le (slice_cmp nat_cmp a b)) ≡ is_lt (slice_cmp nat_cmp b a)
    go Less is = rw (nat_list_cmp_total.antisymm b a, is) refl
    go Equal is = rw (nat_list_cmp_total.antisymm b a, is) refl
    go Greater is = rw (nat_list_cmp_total.antisymm b a, is) refl

-- what is behind the cursor and not outside is of the page
in_page : (dir part : ℕ) (from : Cursor) (rev last : ℕ) (q : RowKey) → (not (before_next dir part from rev None q) && not (is_outside dir part last q)) ≡ is_in_page dir part from last q
in_page dir part from rev last q = go from.after refl
  where
    go : (after : Option (List ℕ)) → from.after ≡ after → (not (before_next dir part from rev None q) && not (is_outside dir part last q)) ≡ is_in_page dir part from last q
    go None is = let names = no_less q.name in rw is (grind (arith, nat_tests, names))
    go (Some name) is = let names = turned_names q.name name in rw is (grind (arith, nat_tests, names))

module _ (rows : RowMap) (dir part : ℕ) (from : Cursor) (last limit : ℕ) where
  abbrev is_left : (RowKey → Bool) → RowKey → Bool
  is_left before q = not (before q) && not (is_outside dir part last q)

  -- what is left to list behind a start
  abbrev left_rows : (RowKey → Bool) → List Row
  left_rows before = map row_of (kept (is_left before) (map.entries rows))

  -- these rows are listed, and what is behind the start is left
  pub record Lists (page : List Row) (before : RowKey → Bool) : Type 0 where
    pub listed : page ++ take (limit - length page) (left_rows before) ≡ page_of rows dir part from last limit

  pub lists_none : (rev : ℕ) → Lists [] (before_next dir part from rev None)
  lists_none rev = record {
    listed = ap (λ (n : ℕ). take n (left_rows (before_next dir part from rev None))) (omega arith) ∙ ap (λ (es : Entries). take limit (map row_of es)) (same_kept (is_left (before_next dir part from rev None)) (is_in_page dir part from last) (map.entries rows) (in_page dir part from rev last) ∙ sym (kept_rows rows (is_in_page dir part from last)));
  }

  abbrev nothing : List Row
  nothing = []

  take_none : (n : ℕ) → take n nothing ≡ []
  take_none zero = refl
  take_none (suc n) = refl

  lists_end : (page : List Row) (before : RowKey → Bool) → Lists page before → kept (is_left before) (map.entries rows) ≡ [] → page ≡ page_of rows dir part from last limit
  lists_end page before lists none =
      sym (append-nil page) ∙ ap (λ (l : List Row). page ++ l) (sym (take_none (limit - length page))) ∙ ap (λ (es : Entries). page ++ take (limit - length page) (map row_of es)) (sym none) ∙ lists.listed

  parts_true : (a b : Bool) → (not a && not b) ≡ true → (a ≡ false) × (b ≡ false)
  parts_true true b e = absurd cc
  parts_true false true e = absurd cc
  parts_true false false e = (refl, refl)

  -- nothing is behind the start
  pub lists_all : (page : List Row) (before : RowKey → Bool) → Lists page before → IsFirst rows before None → page ≡ page_of rows dir part from last limit
  lists_all page before lists first = lists_end page before lists (none_kept (is_left before) (map.entries rows) (λ q passed. sym (map.get-entries rows q) ∙ first q (parts_true (before q) (is_outside dir part last q) passed).0))

  -- the first row behind the start is outside
  pub lists_beyond : (page : List Row) (rev : ℕ) (row : Option Row) (found : RowKey × Attr) → Lists page (before_next dir part from rev row) → IsFirst rows (before_next dir part from rev row) (Some found) → is_outside dir part last found.0 ≡ true → page ≡ page_of rows dir part from last limit
  lists_beyond page rev row found lists first out =
      lists_end page (before_next dir part from rev row) lists (none_kept (is_left (before_next dir part from rev row)) (map.entries rows) (λ q passed. sym (map.get-entries rows q) ∙ none q passed))
    where
      none : (q : RowKey) → is_left (before_next dir part from rev row) q ≡ true → map.get rows q ≡ None
      none q passed =
          let p = parts_true (before_next dir part from rev row q) (is_outside dir part last q) passed in
          compare (map.get rows q ≡ None) q found.0 (λ less. first.0.1 q p.0 less)
          (λ same. let no : is_outside dir part last q ≡ true = ap (is_outside dir part last) same ∙ out in absurd cc)
          (λ more. let no : is_outside dir part last q ≡ true = from_next dir part from rev row last found.0 q first.0.0 out more in absurd cc)

  -- the page is full
  pub lists_full : (page : List Row) (before : RowKey → Bool) → Lists page before → length page ≡ limit → page ≡ page_of rows dir part from last limit
  lists_full page before lists full =
      let none : limit - length page ≡ 0 = omega arith in
      sym (append-nil page) ∙ ap (λ (n : ℕ). page ++ take n (left_rows before)) (sym none) ∙ lists.listed

  one_more : (page : List Row) (row : Row) → length page < limit → limit - length page ≡ suc (limit - length (page ++ row ∷ []))
  one_more page row room = omega (arith, length-append page (row ∷ []))

  -- and a row is listed
  lists_row : (page : List Row) (before : RowKey → Bool) (found : RowKey × Attr) → Lists page before → IsFirst rows before (Some found) → ((a b : RowKey) → row_key_cmp a b ≡ Less → before b ≡ true → before a ≡ true) → is_outside dir part last found.0 ≡ false → length page < limit
      → Lists (page ++ row_of found ∷ []) (before_at found.0 true)
  lists_row page before found lists first down inside room =
      let rest = left_rows (before_at found.0 true) in
      let head : left_rows before ≡ row_of found ∷ rest = ap (map row_of) (first_kept (is_left before) (is_left (before_at found.0 true)) found.0 found.1 (map.entries rows) (map.entries_sorted rows) (sym (map.get-entries rows found.0) ∙ first.1) passed (λ q passes less. sym (map.get-entries rows q) ∙ none q passes less) agree off) in
      record {
        listed = sym (ap (λ (l : List Row). page ++ take (limit - length page) l) head ∙ ap (λ (n : ℕ). page ++ take n (row_of found ∷ rest)) (one_more page (row_of found) room)
            ∙ sym (append_assoc page (row_of found ∷ []) (take (limit - length (page ++ row_of found ∷ [])) rest))) ∙ lists.listed;
      }
    where
      passed : is_left before found.0 ≡ true
      passed = ap (λ b. not b && not (is_outside dir part last found.0)) first.0.0 ∙ ap not inside

      none : (q : RowKey) → is_left before q ≡ true → row_key_cmp q found.0 ≡ Less → map.get rows q ≡ None
      none q passes less = first.0.1 q (parts_true (before q) (is_outside dir part last q) passes).0 less

      not_before : (q : RowKey) → row_key_cmp found.0 q ≡ Less → before q ≡ false
      not_before q less = go (before q) refl
        where
          go : (b : Bool) → before q ≡ b → before q ≡ false
          go true is = let no : before found.0 ≡ true = down found.0 q less is in let was : before found.0 ≡ false = first.0.0 in absurd cc
          go false is = is

      agree : (q : RowKey) → row_key_cmp found.0 q ≡ Less → is_left (before_at found.0 true) q ≡ is_left before q
      agree q less = ap (λ b. not b && not (is_outside dir part last q)) (past_above found.0 q less ∙ sym (not_before q less))

      off : (q : RowKey) → (row_key_cmp found.0 q ≡ Less → ⊥) → is_left (before_at found.0 true) q ≡ false
      off q apart = go (before_at found.0 true q) refl
        where
          go : (b : Bool) → before_at found.0 true q ≡ b → is_left (before_at found.0 true) q ≡ false
          go true is = ap (λ b. not b && not (is_outside dir part last q)) is
          go false is = absurd (apart (past_below found.0 q is))

  inside_dir : (key : RowKey) → is_outside dir part last key ≡ false → (key.dir ≡ dir) × (key.part ≡ part)
  inside_dir key inside = (grind (arith, nat_tests), grind (arith, nat_tests))

  same_lists : (page : List Row) (before other : RowKey → Bool) → ((q : RowKey) → before q ≡ other q) → Lists page before → Lists page other
  same_lists page before other same lists = record {
    listed = ap (λ (es : Entries). page ++ take (limit - length page) (map row_of es)) (same_kept (is_left other) (is_left before) (map.entries rows) (λ q. ap (λ b. not b && not (is_outside dir part last q)) (sym (same q)))) ∙ lists.listed;
  }

  last_is : (page : List Row) (row : Row) → slice_get (page ++ row ∷ []) (length (page ++ row ∷ []) - 1) ≡ Some row
  last_is page row = ap (slice_get (page ++ row ∷ [])) (omega (arith, length-append page (row ∷ []))) ∙ at page
    where
      at : (p : List Row) → slice_get (p ++ row ∷ []) (length p) ≡ Some row
      at [] = refl
      at (x ∷ p) = at p

  pub lists_more : (page : List Row) (rev : ℕ) (row : Option Row) (found : RowKey × Attr) → Lists page (before_next dir part from rev row) → IsFirst rows (before_next dir part from rev row) (Some found) → is_outside dir part last found.0 ≡ false → length page < limit
      → ((a b : RowKey) → row_key_cmp a b ≡ Less → before_next dir part from rev row b ≡ true → before_next dir part from rev row a ≡ true)
      → Lists (page ++ row_of found ∷ []) (before_next dir part from found.0.rev (slice_get (page ++ row_of found ∷ []) (length (page ++ row_of found ∷ []) - 1)))
  lists_more page rev row found lists first inside room down =
      let d = inside_dir found.0 inside in
      let key : found.0 ≡ record { dir = dir; part = part; rev = found.0.rev; name = found.0.name } = rw (sym d.0, sym d.1) refl in
      let P : RowKey → Type 0 = λ k. Lists (page ++ row_of found ∷ []) (before_at k true) in
      let Q : Option Row → Type 0 = λ r. Lists (page ++ row_of found ∷ []) (before_next dir part from found.0.rev r) in
      subst Q (sym (last_is page (row_of found))) (same_lists (page ++ row_of found ∷ []) (before_at (record { dir = dir; part = part; rev = found.0.rev; name = found.0.name }) true) (before_next dir part from found.0.rev (Some (row_of found))) (λ q. refl)
      (subst P key (lists_row page (before_next dir part from rev row) found lists first down inside room)))

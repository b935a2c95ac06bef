-- Row keys are in a total order that tells them apart, and a page is what a walk from its first key lists.
use Rattle.std.proofs.Common.{◌≡◌, ◌∙◌, sym, ap, refl, ℕ, zero, suc, Bool, true, false, cond, ◌&&◌, List, [], ◌∷◌, ◌++◌, append_assoc, take, map, length, ◌-◌, ◌≤◌, arith, Option, Some, None}
use Rattle.std.specs.Prelude.{IsTrue, unwrap_or}
use Rattle.std.specs.BTreeMap.{insert_entry}
use Rattle.std.specs.declared.cmp.Ordering.{Ordering}
use Rattle.std.specs.declared.cmp.Ordering.TheVariants.{Less, Equal, Greater}
use Rattle.std.specs.Cmp.{IsTotalOrder, nat_cmp_total}
use Rattle.std.specs.Cmp.Lexicographic.{slice_cmp}
use Rattle.std.specs.List.{AllByRecursion, filter}
use Rattle.std.specs.List.Sorted.{IsStrictlySortedBy}
use Rattle.std.specs.Map.{keys_of, remove_entry}
use Rattle.std.specs.Ordering.{nat_cmp, is_lt, is_le, match_ordering}
use Rattle.std.specs.FinMap as map
use Rattle.std.proofs.lemmas.Bool.Decides.{nat_tests}
use Rattle.std.proofs.lemmas.Cmp.{then_total, on_total, nat_list_cmp_total}
use Rattle.std.proofs.lemmas.Map.Lookups.{exact_pairs, exact_unsigned, exact_bytes}
use Rattle.std.proofs.lemmas.List.{append-nil, length-append}
use Rattle.std.proofs.lemmas.Map.Keys.{sorted_head, sorted_tail}
use Rattle.mds_base.specs.declared.attr.Attr.{Attr}
use Rattle.mds_base.specs.declared.cursor.Cursor.{Cursor}
use Rattle.mds_base.specs.declared.row.Row.{Row}
use Rattle.mds_base.specs.declared.row_key.RowKey.{RowKey}
use Rattle.mds_base.specs.Name.{is_name}
use Rattle.mds_base.specs.RowKeys.{row_key_cmp, RowMap, is_after, is_past, is_in_page, is_outside, first_key, row_of, AreNamed}
use Rattle.mds_base.proofs.Maps.{entries-retain_keys, entries_of_sorted}

abbrev Parts : Type 0
Parts = ℕ × (ℕ × (ℕ × List ℕ))

abbrev key_of : Parts → RowKey
key_of p = record { dir = p.0; part = p.1.0; rev = p.1.1.0; name = p.1.1.1 }

abbrev parts_of : RowKey → Parts
parts_of k = (k.dir, (k.part, (k.rev, k.name)))

pub row_keys_total : IsTotalOrder row_key_cmp
row_keys_total = then_total (on_total (λ (k : RowKey). k.dir) nat_cmp_total) (then_total (on_total (λ (k : RowKey). k.part) nat_cmp_total) (then_total (on_total (λ (k : RowKey). k.rev) nat_cmp_total) (on_total (λ (k : RowKey). k.name) nat_list_cmp_total)))

pub exact_row_keys : map.IsAntisymmetric row_key_cmp
exact_row_keys a b tied = ap key_of (exact_pairs nat_cmp _ exact_unsigned (exact_pairs nat_cmp _ exact_unsigned (exact_pairs nat_cmp (slice_cmp nat_cmp) exact_unsigned exact_bytes)) (parts_of a) (parts_of b) tied)

pub same_rows : (m n : RowMap) → ((key : RowKey) → map.get m key ≡ map.get n key) → m ≡ n
same_rows = map.same_map row_keys_total exact_row_keys

pub kept_rows : (rows : RowMap) (test : RowKey → Bool) → map.entries (map.retain_keys rows test) ≡ filter (λ row. test row.0) (map.entries rows)
kept_rows = entries-retain_keys row_keys_total exact_row_keys

is_less : (r : Ordering) → is_lt r ≡ true → r ≡ Less
is_less Less e = refl
is_less Equal e = cc
is_less Greater e = cc

after_up : (after : Option (List ℕ)) (a b : List ℕ) → is_after after a ≡ true → slice_cmp nat_cmp a b ≡ Less → is_after after b ≡ true
after_up None a b past up = refl
after_up (Some before) a b past up = ap is_lt (nat_list_cmp_total.trans before a b (is_less _ past) up)

-- in a partition, what follows a row that is past the cursor is past it too
pub past_up : (cursor : Cursor) (a b : RowKey) → a.dir ≡ b.dir → a.part ≡ b.part → is_past cursor a ≡ true → row_key_cmp a b ≡ Less → is_past cursor b ≡ true
past_up cursor a b dirs parts past up = let names = after_up cursor.after a.name b.name in grind (arith, nat_tests, names)

-- no name is below the single byte 1, nor one after a cursor's below the cursor's
name_from : (after : Option (List ℕ)) (name : List ℕ) → IsTrue (is_name name) → is_after after name ≡ true → is_le (slice_cmp nat_cmp (unwrap_or after (1 ∷ [])) name) ≡ true
name_from None [] named past = cc
name_from None (b ∷ []) named past = grind (arith, nat_tests)
name_from None (b ∷ c ∷ bytes) named past = grind (arith, nat_tests)
name_from (Some before) name named past = rw (is_less _ past) refl

-- a row of a page is not below the first key of the page
at_first : (dir part : ℕ) (from : Cursor) (last : ℕ) (key : RowKey) → IsTrue (is_name key.name) → is_in_page dir part from last key ≡ true → is_le (row_key_cmp (first_key dir part from) key) ≡ true
at_first dir part from last key named within = let names = name_from from.after key.name named in grind (arith, nat_tests, names)

-- from the first key on, what follows a row outside is outside
outside_up : (dir part : ℕ) (from : Cursor) (last : ℕ) (a b : RowKey) → is_le (row_key_cmp (first_key dir part from) a) ≡ true → is_outside dir part last a ≡ true → row_key_cmp a b ≡ Less → is_outside dir part last b ≡ true
outside_up dir part from last a b start out up = grind (arith, nat_tests)

outside_not_in : (dir part : ℕ) (from : Cursor) (last : ℕ) (key : RowKey) → is_outside dir part last key ≡ true → is_in_page dir part from last key ≡ false
outside_not_in dir part from last key out = grind (arith, nat_tests)

inside_in : (dir part : ℕ) (from : Cursor) (last : ℕ) (key : RowKey) → is_outside dir part last key ≡ false → is_in_page dir part from last key ≡ is_past from key
inside_in dir part from last key out = grind (arith, nat_tests)

-- ---- the walk

-- from these entries on, in order, what a walk lists until it comes outside of the page
pub walked : ℕ → ℕ → Cursor → ℕ → List (RowKey × Attr) → List Row
walked dir part from last [] = []
walked dir part from last (e ∷ es) = cond (is_outside dir part last e.0) [] (cond (is_past from e.0) (row_of e ∷ walked dir part from last es) (walked dir part from last es))

abbrev FromFirst : ℕ → ℕ → Cursor → List (RowKey × Attr) → Type 0
FromFirst dir part from = AllByRecursion (λ e. is_le (row_key_cmp (first_key dir part from) e.0) ≡ true)

none_in : (dir part : ℕ) (from : Cursor) (last : ℕ) (key : RowKey) (es : List (RowKey × Attr)) → is_le (row_key_cmp (first_key dir part from) key) ≡ true → is_outside dir part last key ≡ true → AllByRecursion (λ y. row_key_cmp key y ≡ Less) (keys_of es) → filter (λ e. is_in_page dir part from last e.0) es ≡ []
none_in dir part from last key [] start out up = refl
none_in dir part from last key (e ∷ es) start out up = rw (outside_not_in dir part from last e.0 (outside_up dir part from last key e.0 start out up.0)) (none_in dir part from last key es start out up.1)

walked_in : (dir part : ℕ) (from : Cursor) (last : ℕ) (es : List (RowKey × Attr)) → IsStrictlySortedBy row_key_cmp (keys_of es) → FromFirst dir part from es → walked dir part from last es ≡ map row_of (filter (λ e. is_in_page dir part from last e.0) es)
unfolding walked
walked_in dir part from last [] sorted start = refl
walked_in dir part from last (e ∷ es) sorted start =
    elim (is_outside dir part last e.0) as (λ b. is_outside dir part last e.0 ≡ b → cond b [] (cond (is_past from e.0) (row_of e ∷ walked dir part from last es) (walked dir part from last es)) ≡ map row_of (filter (λ x. is_in_page dir part from last x.0) (e ∷ es))) [
      | true ↦ λ out. rw (outside_not_in dir part from last e.0 out, none_in dir part from last e.0 es start.0 out (sorted_head row_key_cmp e.0 (keys_of es) sorted)) refl
      | false ↦ λ out. rw (inside_in dir part from last e.0 out) (
          let rest = walked_in dir part from last es (sorted_tail row_key_cmp e.0 (keys_of es) sorted) start.1 in
          elim (is_past from e.0) as (λ b. cond b (row_of e ∷ walked dir part from last es) (walked dir part from last es) ≡ map row_of (cond b (e ∷ filter (λ x. is_in_page dir part from last x.0) es) (filter (λ x. is_in_page dir part from last x.0) es))) [ true ↦ ap (λ (rows : List Row). row_of e ∷ rows) rest | false ↦ rest ])
    ] refl

-- the entries from the first key on, as a range gives them
abbrev pub from_first : ℕ → ℕ → Cursor → List (RowKey × Attr) → List (RowKey × Attr)
from_first dir part from = filter (λ e. is_le (row_key_cmp (first_key dir part from) e.0) && true)

starts : (dir part : ℕ) (from : Cursor) (es : List (RowKey × Attr)) → FromFirst dir part from (from_first dir part from es)
starts dir part from [] = tt
starts dir part from (e ∷ es) =
    elim (is_le (row_key_cmp (first_key dir part from) e.0)) as (λ b. is_le (row_key_cmp (first_key dir part from) e.0) ≡ b → FromFirst dir part from (cond (b && true) (e ∷ from_first dir part from es) (from_first dir part from es))) [
      | true ↦ λ is. (is, starts dir part from es)
      | false ↦ λ is. starts dir part from es
    ] refl

less_filter : (test : RowKey × Attr → Bool) (key : RowKey) (es : List (RowKey × Attr)) → AllByRecursion (λ y. row_key_cmp key y ≡ Less) (keys_of es) → AllByRecursion (λ y. row_key_cmp key y ≡ Less) (keys_of (filter test es))
less_filter test key [] less = tt
less_filter test key (e ∷ es) less = elim (test e) as (λ b. AllByRecursion (λ y. row_key_cmp key y ≡ Less) (keys_of (cond b (e ∷ filter test es) (filter test es)))) [ true ↦ (less.0, less_filter test key es less.1) | false ↦ less_filter test key es less.1 ]

sorted_filter : (test : RowKey × Attr → Bool) (es : List (RowKey × Attr)) → IsStrictlySortedBy row_key_cmp (keys_of es) → IsStrictlySortedBy row_key_cmp (keys_of (filter test es))
unfolding IsStrictlySortedBy
sorted_filter test [] sorted = tt
sorted_filter test (e ∷ es) sorted = elim (test e) as (λ b. IsStrictlySortedBy row_key_cmp (keys_of (cond b (e ∷ filter test es) (filter test es)))) [ true ↦ (less_filter test e.0 es sorted.0, sorted_filter test es sorted.1) | false ↦ sorted_filter test es sorted.1 ]

-- nothing of a page lies before its first key
all_from : (dir part : ℕ) (from : Cursor) (last : ℕ) (es : List (RowKey × Attr)) → AreNamed es → filter (λ e. is_in_page dir part from last e.0) (from_first dir part from es) ≡ filter (λ e. is_in_page dir part from last e.0) es
all_from dir part from last [] named = refl
all_from dir part from last (e ∷ es) named =
    let rest = all_from dir part from last es named.1 in
    elim (is_in_page dir part from last e.0) as (λ b. is_in_page dir part from last e.0 ≡ b → filter (λ x. is_in_page dir part from last x.0) (from_first dir part from (e ∷ es)) ≡ cond b (e ∷ filter (λ x. is_in_page dir part from last x.0) es) (filter (λ x. is_in_page dir part from last x.0) es)) [
      | true ↦ λ is. rw (at_first dir part from last e.0 named.0 is, is) (ap (λ (rows : List (RowKey × Attr)). e ∷ rows) rest)
      | false ↦ λ is. elim (is_le (row_key_cmp (first_key dir part from) e.0)) as (λ b. filter (λ x. is_in_page dir part from last x.0) (cond (b && true) (e ∷ from_first dir part from es) (from_first dir part from es)) ≡ filter (λ x. is_in_page dir part from last x.0) es) [ true ↦ rw is rest | false ↦ rest ]
    ] refl

-- a walk from the first key on lists the rows of the page
pub walked_page : (dir part : ℕ) (from : Cursor) (last : ℕ) (es : List (RowKey × Attr)) → IsStrictlySortedBy row_key_cmp (keys_of es) → AreNamed es → walked dir part from last (from_first dir part from es) ≡ map row_of (map.entries (map.retain_keys (map.from_entries {R = row_key_cmp} es) (is_in_page dir part from last)))
walked_page dir part from last es sorted named =
    walked_in dir part from last (from_first dir part from es) (sorted_filter _ es sorted) (starts dir part from es)
    ∙ ap (map row_of) (all_from dir part from last es named
    ∙ sym (kept_rows (map.from_entries es) (is_in_page dir part from last) ∙ ap (filter (λ e. is_in_page dir part from last e.0)) (entries_of_sorted row_keys_total exact_row_keys es sorted)))

-- a walk that has listed these rows, and goes on at these entries
pub record Walks (dir part : ℕ) (from : Cursor) (last limit : ℕ) (page : List Row) (rest all : List (RowKey × Attr)) : Type 0 where
  pub listed : page ++ take (limit - length page) (walked dir part from last rest) ≡ take limit (walked dir part from last all)
  pub within : length page ≤ limit

abbrev nothing : List Row
nothing = []

take_none : (n : ℕ) → take n nothing ≡ []
take_none zero = refl
take_none (suc n) = refl

-- the walk is over where nothing more is listed, or where the page is full
pub walk_over : (dir part : ℕ) (from : Cursor) (last limit : ℕ) (page : List Row) (rest all : List (RowKey × Attr)) → Walks dir part from last limit page rest all → walked dir part from last rest ≡ [] → page ≡ take limit (walked dir part from last all)
walk_over dir part from last limit page rest all walks over = sym (append-nil page) ∙ ap (λ (rows : List Row). page ++ rows) (sym (take_none (limit - length page))) ∙ ap (λ (rows : List Row). page ++ take (limit - length page) rows) (sym over) ∙ walks.listed

pub walk_full : (dir part : ℕ) (from : Cursor) (last limit : ℕ) (page : List Row) (rest all : List (RowKey × Attr)) → Walks dir part from last limit page rest all → length page ≡ limit → page ≡ take limit (walked dir part from last all)
walk_full dir part from last limit page rest all walks full = let none : limit - length page ≡ 0 = omega arith in sym (append-nil page) ∙ ap (λ (n : ℕ). page ++ take n (walked dir part from last rest)) (sym none) ∙ walks.listed

pub walked_none : (dir part : ℕ) (from : Cursor) (last : ℕ) (rest : List (RowKey × Attr)) → rest ≡ [] → walked dir part from last rest ≡ []
unfolding walked
walked_none dir part from last rest none = rw none refl

-- ---- one step of the walk

pub walk_ends : (dir part : ℕ) (from : Cursor) (last : ℕ) (rest : List (RowKey × Attr)) (e : RowKey × Attr) (es : List (RowKey × Attr)) → rest ≡ e ∷ es → is_outside dir part last e.0 ≡ true → walked dir part from last rest ≡ []
unfolding walked
walk_ends dir part from last rest e es is out = rw (is, out) refl

one_more : (limit : ℕ) (page : List Row) (row : Row) → length page ≤ limit → (length page ≡ limit → ⊥) → limit - length page ≡ suc (limit - length (page ++ row ∷ []))
one_more limit page row within room = omega (arith, length-append page (row ∷ []))

pub walk_lists : (dir part : ℕ) (from : Cursor) (last limit : ℕ) (page : List Row) (rest all : List (RowKey × Attr)) (e : RowKey × Attr) (es : List (RowKey × Attr)) → Walks dir part from last limit page rest all → rest ≡ e ∷ es → (length page ≡ limit → ⊥) → is_outside dir part last e.0 ≡ false → is_past from e.0 ≡ true → Walks dir part from last limit (page ++ row_of e ∷ []) es all
unfolding walked
walk_lists dir part from last limit page rest all e es walks is room out past =
    let first : walked dir part from last rest ≡ row_of e ∷ walked dir part from last es = rw (is, out, past) refl in
    let count = one_more limit page (row_of e) walks.within room in
    let step : page ++ take (limit - length page) (walked dir part from last rest) ≡ (page ++ row_of e ∷ []) ++ take (limit - length (page ++ row_of e ∷ [])) (walked dir part from last es) = rw (first, count) (sym (append_assoc page (row_of e ∷ []) _)) in
    record { listed = sym step ∙ walks.listed; within = omega (arith, walks.within, length-append page (row_of e ∷ [])) }

pub walk_passes : (dir part : ℕ) (from : Cursor) (last limit : ℕ) (page : List Row) (rest all : List (RowKey × Attr)) (e : RowKey × Attr) (es : List (RowKey × Attr)) → Walks dir part from last limit page rest all → rest ≡ e ∷ es → is_outside dir part last e.0 ≡ false → is_past from e.0 ≡ false → Walks dir part from last limit page es all
unfolding walked
walk_passes dir part from last limit page rest all e es walks is out past =
    let same : walked dir part from last rest ≡ walked dir part from last es = rw (is, out, past) refl in
    record { listed = ap (λ (rows : List Row). page ++ take (limit - length page) rows) (sym same) ∙ walks.listed; within = walks.within }

-- ---- the names of the keys

pub named_insert : (es : List (RowKey × Attr)) (key : RowKey) (attr : Attr) → IsTrue (is_name key.name) → AreNamed es → AreNamed (insert_entry row_key_cmp es key attr)
named_insert [] key attr name named = (name, tt)
named_insert (e ∷ es) key attr name named = elim (row_key_cmp key e.0) as (λ r. AreNamed (match_ordering r ((key, attr) ∷ e ∷ es) ((e.0, attr) ∷ es) (e ∷ insert_entry row_key_cmp es key attr))) [
  | Less ↦ (name, named)
  | Equal ↦ named
  | Greater ↦ (named.0, named_insert es key attr name named.1)
]

pub named_remove : (test : RowKey → Bool) (es : List (RowKey × Attr)) → AreNamed es → AreNamed (remove_entry test es)
named_remove test [] named = tt
named_remove test (e ∷ es) named = elim (test e.0) as (λ b. AreNamed (cond b es (e ∷ remove_entry test es))) [ true ↦ named.1 | false ↦ (named.0, named_remove test es named.1) ]

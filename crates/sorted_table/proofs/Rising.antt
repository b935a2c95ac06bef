-- Rows that rise: each above the one before it is each above all before it.
use Rattle.std.proofs.Common.{◌≡◌, ◌∙◌, sym, ap, subst, refl, ℕ, Bool, true, false, ◌&&◌, List, [], ◌∷◌, ◌++◌, Option, None, Some}
use Rattle.std.specs.declared.cmp.Ordering.{Ordering}
use Rattle.std.specs.declared.cmp.Ordering.TheVariants.{Less, Equal, Greater}
use Rattle.std.specs.List.{AllByRecursion}
use Rattle.std.specs.Ordering.{is_lt}
use Rattle.mds_base.specs.declared.row_key.RowKey.{RowKey}
use Rattle.mds_base.specs.RowKeys.{row_key_cmp}
use Rattle.mds_base.proofs.RowMaps.{row_keys_total}
use Rattle.sorted_table.specs.declared.table_row.TableRow.{TableRow}
use Rattle.sorted_table.specs.TableRows.{Rises}
use Rattle.sorted_table.specs.Blocks.{last_key, is_above, rise_behind}

-- all rows are above this key
abbrev pub AllAbove : RowKey → List TableRow → Type 0
AllAbove key = AllByRecursion (λ later. row_key_cmp key later.key ≡ Less)

pub less_is : (r : Ordering) → is_lt r ≡ true → r ≡ Less
less_is Less e = refl
less_is Equal e = absurd cc
less_is Greater e = absurd cc

pub and_both : (a b : Bool) → (a && b) ≡ true → (a ≡ true) × (b ≡ true)
and_both true b e = (refl, e)
and_both false b e = absurd cc

-- ---- all elements of joined lists

pub all_left : {X : Type 0} (P : X → Type 0) (xs ys : List X) → AllByRecursion P (xs ++ ys) → AllByRecursion P xs
all_left P [] ys all = tt
all_left P (x ∷ xs) ys all = (all.0, all_left P xs ys all.1)

pub all_right : {X : Type 0} (P : X → Type 0) (xs ys : List X) → AllByRecursion P (xs ++ ys) → AllByRecursion P ys
all_right P [] ys all = all
all_right P (x ∷ xs) ys all = all_right P xs ys all.1

pub all_joined : {X : Type 0} (P : X → Type 0) (xs ys : List X) → AllByRecursion P xs → AllByRecursion P ys → AllByRecursion P (xs ++ ys)
all_joined P [] ys first second = second
all_joined P (x ∷ xs) ys first second = (first.0, all_joined P xs ys first.1 second)

-- ---- above

pub above_above : (a b : RowKey) (rows : List TableRow) → row_key_cmp a b ≡ Less → AllAbove b rows → AllAbove a rows
above_above a b [] less all = tt
above_above a b (row ∷ rows) less all = (row_keys_total.trans a b row.key less all.0, above_above a b rows less all.1)

pub rising_behind : (key : RowKey) (rows : List TableRow) → rise_behind (Some key) rows ≡ true → AllAbove key rows × Rises rows
rising_behind key [] e = (tt, tt)
rising_behind key (row ∷ rows) e =
    let both = and_both (is_lt (row_key_cmp key row.key)) (rise_behind (Some row.key) rows) e in
    let less = less_is (row_key_cmp key row.key) both.0 in
    let rest = rising_behind row.key rows both.1 in
    ((less, above_above key row.key rows less rest.0), (rest.0, rest.1))

rising_first : (rows : List TableRow) → rise_behind None rows ≡ true → Rises rows
rising_first [] e = tt
rising_first (row ∷ rows) e = let rest = rising_behind row.key rows e in (rest.0, rest.1)

more_above : (key : RowKey) (xs ys : List TableRow) → AllAbove key xs → Rises xs → rise_behind (last_key (Some key) xs) ys ≡ true → AllAbove key (xs ++ ys) × Rises (xs ++ ys)
more_above key [] ys above rise e = rising_behind key ys e
more_above key (x ∷ xs) ys above rise e =
    let rest = more_above x.key xs ys rise.0 rise.1 e in
    ((above.0, above_above key x.key (xs ++ ys) above.0 rest.0), (rest.0, rest.1))

-- rows that rise, and then rows that rise behind them
pub rises_on : (xs ys : List TableRow) → Rises xs → rise_behind (last_key None xs) ys ≡ true → Rises (xs ++ ys)
rises_on [] ys rise e = rising_first ys e
rises_on (x ∷ xs) ys rise e = let rest = more_above x.key xs ys rise.0 rise.1 e in (rest.0, rest.1)

behind_key : (key : RowKey) (ys : List TableRow) → AllAbove key ys → Rises ys → rise_behind (Some key) ys ≡ true
behind_key key [] above rise = refl
behind_key key (y ∷ ys) above rise = ap (λ o. is_lt o && rise_behind (Some y.key) ys) above.0 ∙ behind_key y.key ys rise.0 rise.1

behind_rows : (key : RowKey) (xs ys : List TableRow) → AllAbove key (xs ++ ys) → Rises (xs ++ ys) → rise_behind (last_key (Some key) xs) ys ≡ true
behind_rows key [] ys above rise = behind_key key ys above rise
behind_rows key (x ∷ xs) ys above rise = behind_rows x.key xs ys rise.0 rise.1

behind_first : (ys : List TableRow) → Rises ys → rise_behind None ys ≡ true
behind_first [] rise = refl
behind_first (y ∷ ys) rise = behind_key y.key ys rise.0 rise.1

-- the later ones of rows that rise do so behind the earlier ones
pub rise_later : (xs ys : List TableRow) → Rises (xs ++ ys) → rise_behind (last_key None xs) ys ≡ true
rise_later [] ys rise = behind_first ys rise
rise_later (x ∷ xs) ys rise = behind_rows x.key xs ys rise.0 rise.1

pub rises_left : (xs ys : List TableRow) → Rises (xs ++ ys) → Rises xs
rises_left [] ys rise = tt
rises_left (x ∷ xs) ys rise = (all_left (λ later. row_key_cmp x.key later.key ≡ Less) xs ys rise.0, rises_left xs ys rise.1)

pub rises_right : (xs ys : List TableRow) → Rises (xs ++ ys) → Rises ys
rises_right [] ys rise = rise
rises_right (x ∷ xs) ys rise = rises_right xs ys rise.1

pub last_key-append : (before : Option RowKey) (xs ys : List TableRow) → last_key before (xs ++ ys) ≡ last_key (last_key before xs) ys
last_key-append before [] ys = refl
last_key-append before (x ∷ xs) ys = last_key-append (Some x.key) xs ys

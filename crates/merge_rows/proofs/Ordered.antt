-- Keys in their order, and rows that are below or above one.
use Rattle.std.proofs.Common.{◌≡◌, ◌∙◌, sym, ap, subst, refl, Bool, true, false, cond, List, [], ◌∷◌, ◌++◌}
use Rattle.std.specs.declared.cmp.Ordering.{Ordering}
use Rattle.std.specs.declared.cmp.Ordering.TheVariants.{Less, Equal, Greater}
use Rattle.std.specs.List.{AllByRecursion}
use Rattle.std.specs.Ordering.{is_lt, is_eq, is_le, is_gt, ordering_reverse}
use Rattle.mds_base.specs.declared.row_key.RowKey.{RowKey}
use Rattle.mds_base.specs.RowKeys.{row_key_cmp}
use Rattle.mds_base.proofs.RowMaps.{row_keys_total, exact_row_keys}
use Rattle.sorted_table.specs.declared.table_row.TableRow.{TableRow}
use Rattle.sorted_table.specs.declared.table_row.Held.TheVariants.{Absent}
use Rattle.sorted_table.specs.TableRows.{held_of, held_in}
use Rattle.sorted_table.specs.Building.{AllBelow}
use Rattle.sorted_table.proofs.Looking.{turned, held_under}
use Rattle.sorted_table.proofs.Rising.{AllAbove}

-- ---- orderings

pub equal_is : (r : Ordering) → is_eq r ≡ true → r ≡ Equal
equal_is Less e = absurd cc
equal_is Equal e = refl
equal_is Greater e = absurd cc

pub greater_is : (r : Ordering) → is_gt r ≡ true → r ≡ Greater
greater_is Less e = absurd cc
greater_is Equal e = absurd cc
greater_is Greater e = refl

pub not_greater : (r : Ordering) → is_gt r ≡ false → is_le r ≡ true
not_greater Less e = refl
not_greater Equal e = refl
not_greater Greater e = absurd cc

pub lt_is_less : (r : Ordering) → is_lt r ≡ true → r ≡ Less
lt_is_less Less e = refl
lt_is_less Equal e = absurd cc
lt_is_less Greater e = absurd cc

pub self_equal : (a : RowKey) → row_key_cmp a a ≡ Equal
self_equal a = go (row_key_cmp a a) (row_keys_total.antisymm a a)
  where
    go : (r : Ordering) → r ≡ ordering_reverse r → r ≡ Equal
    go Less e = absurd cc
    go Equal e = refl
    go Greater e = absurd cc

pub le_less : (a b c : RowKey) → is_le (row_key_cmp a b) ≡ true → row_key_cmp b c ≡ Less → row_key_cmp a c ≡ Less
le_less a b c first second = go (row_key_cmp a b) refl first
  where
    go : (r : Ordering) → row_key_cmp a b ≡ r → is_le r ≡ true → row_key_cmp a c ≡ Less
    go Less is le = row_keys_total.trans a b c is second
    go Equal is le = row_keys_total.congr a b c is ∙ second
    go Greater is le = absurd cc

pub le_le : (a b c : RowKey) → is_le (row_key_cmp a b) ≡ true → is_le (row_key_cmp b c) ≡ true → is_le (row_key_cmp a c) ≡ true
le_le a b c first second = go (row_key_cmp b c) refl second
  where
    go : (r : Ordering) → row_key_cmp b c ≡ r → is_le r ≡ true → is_le (row_key_cmp a c) ≡ true
    go Less is le = ap is_le (le_less a b c first is)
    go Equal is le = subst (λ k. is_le (row_key_cmp a k) ≡ true) (exact_row_keys b c is) first
    go Greater is le = absurd cc

-- a key that is not the other stands to no row as the other does
pub not_below : (a b : RowKey) → is_le (row_key_cmp a b) ≡ true → row_key_cmp b a ≡ Less → {A : Type 0} → A
not_below a b le less = let greater = turned b a less in absurd (let never : ◌≡◌ {A = Bool} false true = ap is_le (sym greater) ∙ le in cc)

-- ---- rows from a key on

-- no row is below this key
abbrev pub AllFrom : RowKey → List TableRow → Type 0
AllFrom key = AllByRecursion (λ row. is_le (row_key_cmp key row.key) ≡ true)

pub from_above : (key : RowKey) (rows : List TableRow) → AllAbove key rows → AllFrom key rows
from_above key [] above = tt
from_above key (row ∷ rows) above = (ap is_le above.0, from_above key rows above.1)

pub from_less : (key other : RowKey) (rows : List TableRow) → is_le (row_key_cmp key other) ≡ true → AllFrom other rows → AllFrom key rows
from_less key other [] le from = tt
from_less key other (row ∷ rows) le from = (le_le key other row.key le from.0, from_less key other rows le from.1)

pub all_from_less : (key other : RowKey) (lists : List (List TableRow)) → is_le (row_key_cmp key other) ≡ true → AllByRecursion (AllFrom other) lists → AllByRecursion (AllFrom key) lists
all_from_less key other [] le from = tt
all_from_less key other (rows ∷ lists) le from = (from_less key other rows le from.0, all_from_less key other lists le from.1)

-- ---- what rows below a key say of it

pub held_below : (rows : List TableRow) (key : RowKey) → AllBelow rows key → held_in rows key ≡ Absent
held_below [] key below = refl
held_below (row ∷ rows) key below = ap (λ r. cond (is_eq r) (held_of row.attr) (held_in rows key)) below.0 ∙ held_below rows key below.1

pub held_last : (rows : List TableRow) (row : TableRow) → AllBelow rows row.key → held_in (rows ++ row ∷ []) row.key ≡ held_of row.attr
held_last rows row below = held_under rows (row ∷ []) row.key below ∙ ap (λ r. cond (is_eq r) (held_of row.attr) Absent) (self_equal row.key)

-- a row of another key says nothing
pub held_apart : (rows : List TableRow) (row : TableRow) (key : RowKey) → is_eq (row_key_cmp row.key key) ≡ false → held_in (rows ++ row ∷ []) key ≡ held_in rows key
held_apart [] row key apart = ap (λ b. cond b (held_of row.attr) Absent) apart
held_apart (first ∷ rows) row key apart = ap (λ h. cond (is_eq (row_key_cmp first.key key)) (held_of first.attr) h) (held_apart rows row key apart)

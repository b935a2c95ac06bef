-- Lists of rows that rise, side by side: the least of their first rows, and what passing its key leaves.
use Rattle.std.proofs.Common.{◌≡◌, ◌∙◌, sym, ap, subst, refl, Bool, true, false, cond, List, [], ◌∷◌, map, Option, None, Some}
use Rattle.std.specs.declared.cmp.Ordering.{Ordering}
use Rattle.std.specs.declared.cmp.Ordering.TheVariants.{Less, Equal, Greater}
use Rattle.std.specs.List.{AllByRecursion}
use Rattle.std.specs.Ordering.{is_eq, is_le, is_gt}
use Rattle.std.proofs.lemmas.Option.{same_Some}
use Rattle.mds_base.specs.declared.row_key.RowKey.{RowKey}
use Rattle.mds_base.specs.RowKeys.{row_key_cmp}
use Rattle.mds_base.proofs.RowMaps.{row_keys_total, exact_row_keys}
use Rattle.sorted_table.specs.declared.table_row.TableRow.{TableRow}
use Rattle.sorted_table.specs.declared.table_row.Held.{Held}
use Rattle.sorted_table.specs.declared.table_row.Held.TheVariants.{Absent}
use Rattle.sorted_table.specs.TableRows.{Rises, held_of, held_in}
use Rattle.sorted_table.proofs.Looking.{back, held_over}
use Rattle.sorted_table.proofs.Rising.{AllAbove, above_above}
use Rattle.merge_rows.specs.Cursors.{lesser, least, passed}
use Rattle.merge_rows.specs.Merged.{or_older, newest}
use Rattle.merge_rows.proofs.Ordered.{AllFrom, greater_is, not_greater, self_equal, from_above, all_from_less, not_below}

-- ---- behind a key

pub rise_passed : (key : RowKey) (rows : List TableRow) → Rises rows → Rises (passed key rows)
rise_passed key [] rise = tt
rise_passed key (row ∷ rows) rise = go (is_eq (row_key_cmp row.key key))
  where
    go : (b : Bool) → Rises (cond b rows (row ∷ rows))
    go true = rise.1
    go false = rise

pub above_passed : (key : RowKey) (rows : List TableRow) → Rises rows → AllFrom key rows → AllAbove key (passed key rows)
above_passed key [] rise from = tt
above_passed key (row ∷ rows) rise from = go (row_key_cmp row.key key) refl
  where
    go : (r : Ordering) → row_key_cmp row.key key ≡ r → AllAbove key (cond (is_eq r) rows (row ∷ rows))
    go Less is = not_below key row.key from.0 is
    go Equal is = subst (λ k. AllAbove k rows) (exact_row_keys row.key key is) rise.0
    go Greater is = let less = back row.key key is in (less, above_above key row.key rows less rise.0)

pub held_passed : (key other : RowKey) (rows : List TableRow) → is_eq (row_key_cmp key other) ≡ false → held_in (passed key rows) other ≡ held_in rows other
held_passed key other [] apart = refl
held_passed key other (row ∷ rows) apart = go (row_key_cmp row.key key) refl
  where
    go : (r : Ordering) → row_key_cmp row.key key ≡ r → held_in (cond (is_eq r) rows (row ∷ rows)) other ≡ held_in (row ∷ rows) other
    go Less is = refl
    go Greater is = refl
    go Equal is = sym (ap (λ b. cond b (held_of row.attr) (held_in rows other)) (ap is_eq (row_keys_total.congr row.key key other is) ∙ apart))

pub rise_all : (key : RowKey) (lists : List (List TableRow)) → AllByRecursion Rises lists → AllByRecursion Rises (map (passed key) lists)
rise_all key [] rise = tt
rise_all key (rows ∷ lists) rise = (rise_passed key rows rise.0, rise_all key lists rise.1)

pub above_all : (key : RowKey) (lists : List (List TableRow)) → AllByRecursion Rises lists → AllByRecursion (AllFrom key) lists → AllByRecursion (AllAbove key) (map (passed key) lists)
above_all key [] rise from = tt
above_all key (rows ∷ lists) rise from = (above_passed key rows rise.0 from.0, above_all key lists rise.1 from.1)

pub newest_passed : (key other : RowKey) (lists : List (List TableRow)) → is_eq (row_key_cmp key other) ≡ false → newest (map (passed key) lists) other ≡ newest lists other
newest_passed key other [] apart = refl
newest_passed key other (rows ∷ lists) apart =
    ap (λ h. or_older h (newest (map (passed key) lists) other)) (held_passed key other rows apart) ∙ ap (or_older (held_in rows other)) (newest_passed key other lists apart)

pub newest_above : (key : RowKey) (lists : List (List TableRow)) → AllByRecursion (AllAbove key) lists → newest lists key ≡ Absent
newest_above key [] above = refl
newest_above key (rows ∷ lists) above = ap (λ h. or_older h (newest lists key)) (held_over rows key above.0) ∙ newest_above key lists above.1

-- ---- the least row

-- no row of these is below the row, and it is what they say of its key
pub record IsLeastOf (lists : List (List TableRow)) (row : TableRow) : Type 0 where
  pub from : AllByRecursion (AllFrom row.key) lists
  pub is : newest lists row.key ≡ held_of row.attr

-- where there is no first row there is none
pub all_none : (lists : List (List TableRow)) → least lists ≡ None → AllByRecursion (λ (rows : List TableRow). rows ≡ []) lists
all_none [] none = tt
all_none ([] ∷ lists) none = (refl, all_none lists none)
all_none ((row ∷ rows) ∷ lists) none = absurd (go (least lists) none)
  where
    go : (o : Option TableRow) → lesser (Some row) o ≡ None → ⊥
    go None e = cc
    go (Some other) e = never (is_gt (row_key_cmp row.key other.key)) e
      where
        never : (b : Bool) → cond b (Some other) (Some row) ≡ None → ⊥
        never true e = cc
        never false e = cc

pub newest_none : (lists : List (List TableRow)) (key : RowKey) → AllByRecursion (λ (rows : List TableRow). rows ≡ []) lists → newest lists key ≡ Absent
newest_none [] key none = refl
newest_none (rows ∷ lists) key none = ap (λ l. or_older (held_in l key) (newest lists key)) none.0 ∙ newest_none lists key none.1

from_none : (key : RowKey) (lists : List (List TableRow)) → AllByRecursion (λ (rows : List TableRow). rows ≡ []) lists → AllByRecursion (AllFrom key) lists
from_none key [] none = tt
from_none key (rows ∷ lists) none = (subst (AllFrom key) (sym none.0) tt, from_none key lists none.1)

held_older : (attr : Held) (older : Held) (row : TableRow) → attr ≡ held_of row.attr → or_older attr older ≡ held_of row.attr
held_older attr older row is = ap (λ h. or_older h older) is ∙ go row.attr
  where
    go : (a : _) → or_older (held_of a) older ≡ held_of a
    go None = refl
    go (Some a) = refl

module _ (row : TableRow) (rows : List TableRow) (lists : List (List TableRow)) (rise : Rises (row ∷ rows)) where
  own_held : held_in (row ∷ rows) row.key ≡ held_of row.attr
  own_held = ap (λ r. cond (is_eq r) (held_of row.attr) (held_in rows row.key)) (self_equal row.key)

  -- the first row is the least, where no row of the others is below it
  first_least : AllByRecursion (AllFrom row.key) lists → IsLeastOf ((row ∷ rows) ∷ lists) row
  first_least from = record {
    from = ((ap is_le (self_equal row.key), from_above row.key rows rise.0), from);
    is = held_older (held_in (row ∷ rows) row.key) (newest lists row.key) row own_held;
  }

  -- the least row of the others, where the first row is above it
  other_least : (other : TableRow) → row_key_cmp row.key other.key ≡ Greater → IsLeastOf lists other → IsLeastOf ((row ∷ rows) ∷ lists) other
  other_least other greater l =
      let less = back row.key other.key greater in
      let above : AllAbove other.key (row ∷ rows) = (less, above_above other.key row.key rows less rise.0) in
      record {
        from = (from_above other.key (row ∷ rows) above, l.from);
        is = ap (λ h. or_older h (newest lists other.key)) (held_over (row ∷ rows) other.key above) ∙ l.is;
      }

  which : (found other : TableRow) (b : Bool) → is_gt (row_key_cmp row.key other.key) ≡ b → ◌≡◌ {A = Option TableRow} (cond b (Some other) (Some row)) (Some found) → IsLeastOf lists other → IsLeastOf ((row ∷ rows) ∷ lists) found
  which found other true is e l = subst (IsLeastOf ((row ∷ rows) ∷ lists)) (same_Some other found e) (other_least other (greater_is (row_key_cmp row.key other.key) is) l)
  which found other false is e l =
      subst (IsLeastOf ((row ∷ rows) ∷ lists)) (same_Some row found e) (first_least (all_from_less row.key other.key lists (not_greater (row_key_cmp row.key other.key) is) l.from))

pub least_is : (lists : List (List TableRow)) → AllByRecursion Rises lists → (row : TableRow) → least lists ≡ Some row → IsLeastOf lists row
least_is [] rise row e = absurd cc
least_is ([] ∷ lists) rise row e = let l = least_is lists rise.1 row e in record { from = (tt, l.from); is = l.is }
least_is ((first_row ∷ rows) ∷ lists) rise row e = go (least lists) refl e (least_is lists rise.1)
  where
    go : (o : Option TableRow) → least lists ≡ o → lesser (Some first_row) o ≡ Some row → ((other : TableRow) → least lists ≡ Some other → IsLeastOf lists other) → IsLeastOf ((first_row ∷ rows) ∷ lists) row
    go None is e rest = subst (IsLeastOf ((first_row ∷ rows) ∷ lists)) (same_Some first_row row e) (first_least first_row rows lists rise.0 (from_none first_row.key lists (all_none lists is)))
    go (Some other) is e rest = which first_row rows lists rise.0 row other (is_gt (row_key_cmp first_row.key other.key)) refl e (rest other is)

-- what holds of all rows holds of the least
pub least_one : (P : TableRow → Type 0) (lists : List (List TableRow)) → AllByRecursion (λ (rows : List TableRow). AllByRecursion P rows) lists → (row : TableRow) → least lists ≡ Some row → P row
least_one P [] all row e = absurd cc
least_one P ([] ∷ lists) all row e = least_one P lists all.1 row e
least_one P ((first_row ∷ rows) ∷ lists) all row e = go (least lists) refl e (least_one P lists all.1)
  where
    go : (o : Option TableRow) → least lists ≡ o → lesser (Some first_row) o ≡ Some row → ((other : TableRow) → least lists ≡ Some other → P other) → P row
    go None is e rest = subst P (same_Some first_row row e) all.0.0
    go (Some other) is e rest = either (is_gt (row_key_cmp first_row.key other.key)) e
      where
        either : (b : Bool) → ◌≡◌ {A = Option TableRow} (cond b (Some other) (Some first_row)) (Some row) → P row
        either true e = subst P (same_Some other row e) (rest other is)
        either false e = subst P (same_Some first_row row e) all.0.0

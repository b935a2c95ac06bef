-- One key more: what was added and what is left still make what the tables make.
use Rattle.std.proofs.Common.{◌≡◌, ◌∙◌, sym, ap, subst, refl, Bool, true, false, List, [], ◌∷◌, map, Option, None, Some}
use Rattle.std.specs.declared.cmp.Ordering.TheVariants.{Less}
use Rattle.std.specs.List.{AllByRecursion}
use Rattle.std.specs.Ordering.{is_lt, is_eq, is_le}
use Rattle.mds_base.specs.declared.attr.Attr.{Attr}
use Rattle.mds_base.specs.declared.row_key.RowKey.{RowKey}
use Rattle.mds_base.specs.RowKeys.{row_key_cmp}
use Rattle.mds_base.proofs.RowMaps.{exact_row_keys}
use Rattle.sorted_table.specs.declared.table_row.TableRow.{TableRow}
use Rattle.sorted_table.specs.declared.table_row.Held.{Held}
use Rattle.sorted_table.specs.declared.table_row.Held.TheVariants.{Absent, Tomb, Row}
use Rattle.sorted_table.specs.Blocks.{is_above}
use Rattle.sorted_table.specs.Building.{AllBelow}
use Rattle.sorted_table.specs.TableRows.{Rises, held_of, held_in}
use Rattle.sorted_table.proofs.Rising.{AllAbove, all_joined}
use Rattle.merge_rows.specs.Cursors.{least, passed}
use Rattle.merge_rows.specs.Merged.{or_older, newest, live, IsMerged}
use Rattle.merge_rows.specs.Merging.{AreUpto, IsPartWay}
use Rattle.merge_rows.specs.Steps.{with_row}
use Rattle.merge_rows.proofs.Ordered.{equal_is, lt_is_less, self_equal, le_less, held_below, held_last, held_apart}
use Rattle.merge_rows.proofs.LeastRows.{least_is, least_one, rise_all, above_all, newest_passed, newest_above}

-- ---- the key that was passed last

all_upto : (last key : RowKey) (done : List TableRow) → row_key_cmp last key ≡ Less → AllByRecursion (λ row. is_le (row_key_cmp row.key last) ≡ true) done → AllBelow done key
all_upto last key [] less upto = tt
all_upto last key (row ∷ done) less upto = (le_less row.key last key upto.0 less, all_upto last key done less upto.1)

pub below_of : (last : Option RowKey) (key : RowKey) (done : List TableRow) → AreUpto last done → is_above last key ≡ true → AllBelow done key
below_of None key done upto above = subst (λ (rows : List TableRow). AllBelow rows key) (sym upto) tt
below_of (Some last) key done upto above = all_upto last key done (lt_is_less (row_key_cmp last key) above) upto

below_upto : (key : RowKey) (done : List TableRow) → AllBelow done key → AllByRecursion (λ row. is_le (row_key_cmp row.key key) ≡ true) done
below_upto key [] below = tt
below_upto key (row ∷ done) below = (ap is_le below.0, below_upto key done below.1)

pub upto_row : (row : TableRow) (done : List TableRow) → AllBelow done row.key → AreUpto (Some row.key) (with_row done row.key row.attr)
upto_row row done below = go row.attr
  where
    go : (attr : Option Attr) → AreUpto (Some row.key) (with_row done row.key attr)
    go None = below_upto row.key done below
    go (Some attr) = all_joined (λ (r : TableRow). is_le (row_key_cmp r.key row.key) ≡ true) done (record { key = row.key; attr = Some attr } ∷ []) (below_upto row.key done below) (ap is_le (self_equal row.key), tt)

-- ---- what is said of each key

pub no_older : (held : Held) → or_older held Absent ≡ held
no_older Absent = refl
no_older Tomb = refl
no_older (Row attr) = refl

held_with : (done : List TableRow) (key other : RowKey) (attr : Option Attr) → is_eq (row_key_cmp key other) ≡ false → held_in (with_row done key attr) other ≡ held_in done other
held_with done key other None apart = refl
held_with done key other (Some attr) apart = held_apart done (record { key = key; attr = Some attr }) other apart

-- of the key itself
own_with : (done : List TableRow) (key : RowKey) (attr : Option Attr) → AllBelow done key → held_in (with_row done key attr) key ≡ live (held_of attr)
own_with done key None below = held_below done key below
own_with done key (Some attr) below = held_last done (record { key = key; attr = Some attr }) below

all_above : (key : RowKey) (lists : List (List TableRow)) → AllByRecursion (AllAbove key) lists → AllByRecursion (λ (rows : List TableRow). AllByRecursion (λ row. is_above (Some key) row.key ≡ true) rows) lists
all_above key [] above = tt
all_above key (rows ∷ lists) above = (one rows above.0, all_above key lists above.1)
  where
    one : (rows : List TableRow) → AllAbove key rows → AllByRecursion (λ row. is_above (Some key) row.key ≡ true) rows
    one [] above = tt
    one (row ∷ rows) above = (ap is_lt above.0, one rows above.1)

module _ (last : Option RowKey) (done : List TableRow) (left tables : List (List TableRow)) (part : IsPartWay last done left tables) where
  -- the least row is above the key that was passed last
  pub least_above : (row : TableRow) → least left ≡ Some row → is_above last row.key ≡ true
  least_above row is = least_one (λ (r : TableRow). is_above last r.key ≡ true) left part.above row is

  pub part_more : (row : TableRow) → AllBelow done row.key → least left ≡ Some row → IsPartWay (Some row.key) (with_row done row.key row.attr) (map (passed row.key) left) tables
  part_more row below is =
      let l = least_is left part.rise row is in
      let above = above_all row.key left part.rise l.from in
      let own : or_older (held_in (with_row done row.key row.attr) row.key) (live (newest (map (passed row.key) left) row.key)) ≡ live (newest tables row.key) =
      ap (λ h. or_older (held_in (with_row done row.key row.attr) row.key) (live h)) (newest_above row.key (map (passed row.key) left) above)
      ∙ no_older (held_in (with_row done row.key row.attr) row.key)
      ∙ own_with done row.key row.attr below
      ∙ sym (ap live l.is)
      ∙ sym (ap (λ h. or_older h (live (newest left row.key))) (held_below done row.key below))
      ∙ part.each row.key in
      record {
        rise = rise_all row.key left part.rise;
        above = all_above row.key (map (passed row.key) left) above;
        each = λ key. go key own (is_eq (row_key_cmp row.key key)) refl;
      }
    where
      go : (key : RowKey) → or_older (held_in (with_row done row.key row.attr) row.key) (live (newest (map (passed row.key) left) row.key)) ≡ live (newest tables row.key) → (b : Bool) → is_eq (row_key_cmp row.key key) ≡ b
          → or_older (held_in (with_row done row.key row.attr) key) (live (newest (map (passed row.key) left) key)) ≡ live (newest tables key)
      go key own true is = subst (λ k. or_older (held_in (with_row done row.key row.attr) k) (live (newest (map (passed row.key) left) k)) ≡ live (newest tables k)) (exact_row_keys row.key key (equal_is (row_key_cmp row.key key) is)) own
      go key own false is =
          ap (λ h. or_older h (live (newest (map (passed row.key) left) key))) (held_with done row.key key row.attr is)
          ∙ ap (λ h. or_older (held_in done key) (live h)) (newest_passed row.key key left is)
          ∙ part.each key

  -- where nothing is left, what was added is what the tables make
  pub part_all : Rises done → ((key : RowKey) → newest left key ≡ Absent) → IsMerged tables done
  part_all rise none = record { rise = rise; each = λ key. sym (ap (λ h. or_older (held_in done key) (live h)) (none key) ∙ no_older (held_in done key)) ∙ part.each key }

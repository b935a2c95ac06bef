-- Edits of rows, row by row: which rows they leave, and how many rows there are.
use Rattle.std.proofs.Common.{◌≡◌, ◌∙◌, sym, ap, subst, refl, ℕ, suc, ◌+◌, ◌-◌, ◌≤◌, Bool, true, false, cond, nat_eq, List, [], ◌∷◌, length, take, Option, Some, None, is_some, arith, inl, inr}
use Rattle.std.specs.Prelude.{◌⊎◌, ◌&&◌, map as list_map}
use Rattle.std.specs.declared.cmp.Ordering.{Ordering}
use Rattle.std.specs.declared.cmp.Ordering.TheVariants.{Less, Equal, Greater}
use Rattle.std.specs.List.{AllByRecursion}
use Rattle.std.specs.Ordering.{eq_by_cmp, is_eq}
use Rattle.std.specs.Cmp.{IsTotalOrder, eq_by_cmp_equiv}
use Rattle.std.specs.FinMap as map
use Rattle.std.proofs.lemmas.Bool.{and_from}
use Rattle.std.proofs.Common.{eq-eqb}
use Rattle.mds_base.specs.declared.attr.Attr.{Attr}
use Rattle.mds_base.specs.declared.edit.Edit.{Edit}
use Rattle.mds_base.specs.declared.edit.Edit.TheVariants.{Keep, Put, Take}
use Rattle.mds_base.specs.declared.row.Row.{Row}
use Rattle.mds_base.specs.declared.row_key.RowKey.{RowKey}
use Rattle.mds_base.specs.Entries.{edited_entry}
use Rattle.mds_base.specs.RowKeys.{RowMap, row_key_cmp, edited_rows, edited_count}
use Rattle.mds_base.proofs.Maps.{insert_apart, remove_apart}
use Rattle.mds_base.proofs.RowMaps.{row_keys_total, exact_row_keys, same_rows}
use Rattle.partition.specs.declared.edits.RowEdit.{RowEdit}
use Rattle.partition.specs.Rows.{written, edits_of, load_edits}
use Rattle.name_hash.specs.RowPlace.{row_key}
use Rattle.partition.specs.Meaning.{IsApart, is_of, count_in}

-- ---- one row

itself : (key : RowKey) → eq_by_cmp row_key_cmp key key ≡ true
itself key = (eq_by_cmp_equiv row_keys_total).refl key

pub row_apart : (rows : RowMap) (key : RowKey) (edit : Edit) (other : RowKey) → (other ≡ key → ⊥) → map.get (edited_rows rows key edit) other ≡ map.get rows other
row_apart rows key Keep other differ = refl
row_apart rows key (Put attr) other differ = insert_apart row_keys_total exact_row_keys rows key attr other differ
row_apart rows key Take other differ = remove_apart row_keys_total exact_row_keys rows key other differ

pub row_here : (rows : RowMap) (key : RowKey) (edit : Edit) → map.get (edited_rows rows key edit) key ≡ edited_entry edit (map.get rows key)
row_here rows key Keep = refl
row_here rows key (Put attr) = map.get-insert row_keys_total rows key attr key ∙ ap (λ (b : Bool). cond b (Some attr) (map.get rows key)) (itself key)
row_here rows key Take = map.get-remove row_keys_total rows key key ∙ ap (λ (b : Bool). cond b None (map.get rows key)) (itself key)

pub one_written : (rows : RowMap) (key : RowKey) (edit : Edit) → written rows (edits_of key edit) ≡ edited_rows rows key edit
one_written rows key Keep = refl
one_written rows key (Put attr) = refl
one_written rows key Take = refl

-- at most one row is edited by a call on a name: where it was not made, nothing was
pub one_at_most : (key : RowKey) (edit : Edit) → length (edits_of key edit) ≤ 1
one_at_most key Keep = omega arith
one_at_most key (Put attr) = omega arith
one_at_most key Take = omega arith

-- ---- rows that stay

pub name_apart : (rows : RowMap) (dir number : ℕ) (name : List ℕ) (edit : Edit) (key : RowKey) → IsApart dir number (name ∷ []) key
    → map.get (written rows (edits_of (row_key dir number name) edit)) key ≡ map.get rows key
name_apart rows dir number name edit key apart = ap (λ m. map.get m key) (one_written rows (row_key dir number name) edit) ∙ row_apart rows (row_key dir number name) edit key apart.0

pub load_apart : (rows : RowMap) (dir number : ℕ) (load : List Row) (key : RowKey) → IsApart dir number (list_map (λ (row : Row). row.name) load) key
    → map.get (written rows (load_edits rows dir number load)) key ≡ map.get rows key
load_apart rows dir number [] key apart = refl
load_apart rows dir number (row ∷ more) key apart =
    by (is_some (map.get rows (row_key dir number row.name))) (load_apart rows dir number more key apart.1) (load_apart (map.insert rows (row_key dir number row.name) row.attr) dir number more key apart.1)
  where
    by : (b : Bool) → map.get (written rows (load_edits rows dir number more)) key ≡ map.get rows key
        → map.get (written (map.insert rows (row_key dir number row.name) row.attr) (load_edits (map.insert rows (row_key dir number row.name) row.attr) dir number more)) key ≡ map.get (map.insert rows (row_key dir number row.name) row.attr) key
        → map.get (written rows (cond b (load_edits rows dir number more) ((record { key = row_key dir number row.name; edit = Put row.attr }) ∷ load_edits (map.insert rows (row_key dir number row.name) row.attr) dir number more))) key ≡ map.get rows key
    by true skipped added = skipped
    by false skipped added = added ∙ row_apart rows (row_key dir number row.name) (Put row.attr) key apart.0

-- ---- how many rows there are

tied : (q k : RowKey) → eq_by_cmp row_key_cmp q k ≡ true → q ≡ k
tied q k is = by (row_key_cmp q k) refl is
  where
    by : (r : Ordering) → row_key_cmp q k ≡ r → is_eq r ≡ true → q ≡ k
    by Less e is = cc
    by Equal e is = exact_row_keys q k e
    by Greater e is = cc

module _ (rows : RowMap) (dir number : ℕ) where
  kept : (m : RowMap) (q : RowKey) → map.get (map.retain_keys m (is_of dir number)) q ≡ cond (is_of dir number q) (map.get m q) None
  kept m q = map.get-retain_keys m (is_of dir number) q (λ x t. ap (is_of dir number) (sym (exact_row_keys q x t)))

  put_of : (key q : RowKey) (attr : Attr) (b : Bool) → eq_by_cmp row_key_cmp q key ≡ b → is_of dir number key ≡ true
      → cond (is_of dir number q) (cond b (Some attr) (map.get rows q)) None ≡ cond b (Some attr) (cond (is_of dir number q) (map.get rows q) None)
  put_of key q attr true e own = ap (λ t. cond t (Some attr) None) (ap (is_of dir number) (tied q key e) ∙ own)
  put_of key q attr false e own = refl

  take_of : (q : RowKey) (b c : Bool) → cond c (cond b None (map.get rows q)) None ≡ cond b None (cond c (map.get rows q) None)
  take_of q true true = refl
  take_of q true false = refl
  take_of q false c = refl

  put_kept : (key : RowKey) (attr : Attr) → is_of dir number key ≡ true → map.retain_keys (map.insert rows key attr) (is_of dir number) ≡ map.insert (map.retain_keys rows (is_of dir number)) key attr
  put_kept key attr own = same_rows _ _ (λ q.
      kept (map.insert rows key attr) q ∙ ap (λ o. cond (is_of dir number q) o None) (map.get-insert row_keys_total rows key attr q)
      ∙ put_of key q attr (eq_by_cmp row_key_cmp q key) refl own
      ∙ ap (cond (eq_by_cmp row_key_cmp q key) (Some attr)) (sym (kept rows q)) ∙ sym (map.get-insert row_keys_total (map.retain_keys rows (is_of dir number)) key attr q))

  take_kept : (key : RowKey) → map.retain_keys (map.remove rows key) (is_of dir number) ≡ map.remove (map.retain_keys rows (is_of dir number)) key
  take_kept key = same_rows _ _ (λ q.
      kept (map.remove rows key) q ∙ ap (λ o. cond (is_of dir number q) o None) (map.get-remove row_keys_total rows key q)
      ∙ take_of q (eq_by_cmp row_key_cmp q key) (is_of dir number q)
      ∙ ap (cond (eq_by_cmp row_key_cmp q key) None) (sym (kept rows q)) ∙ sym (map.get-remove row_keys_total (map.retain_keys rows (is_of dir number)) key q))

  own_kept : (key : RowKey) → is_of dir number key ≡ true → is_some (map.get (map.retain_keys rows (is_of dir number)) key) ≡ is_some (map.get rows key)
  own_kept key own = ap is_some (kept rows key) ∙ ap (λ b. is_some (cond b (map.get rows key) None)) own

  pub put_count : (key : RowKey) (attr : Attr) → is_of dir number key ≡ true → count_in (map.insert rows key attr) dir number ≡ cond (is_some (map.get rows key)) (count_in rows dir number) (count_in rows dir number + 1)
  put_count key attr own =
      ap map.len (put_kept key attr own) ∙ map.len-insert row_keys_total (map.retain_keys rows (is_of dir number)) key attr
      ∙ ap (λ b. cond b (count_in rows dir number) (count_in rows dir number + 1)) (own_kept key own)

  take_count : (key : RowKey) → is_of dir number key ≡ true → count_in (map.remove rows key) dir number ≡ cond (is_some (map.get rows key)) (count_in rows dir number - 1) (count_in rows dir number)
  take_count key own =
      ap map.len (take_kept key) ∙ map.len-remove row_keys_total (map.retain_keys rows (is_of dir number)) key
      ∙ ap (λ b. cond b (count_in rows dir number - 1) (count_in rows dir number)) (own_kept key own)

  by_put : (count : ℕ) (attr : Attr) (o : Option Attr) → edited_count count (Put attr) o ≡ cond (is_some o) count (count + 1)
  by_put count attr None = refl
  by_put count attr (Some x) = refl

  by_take : (count : ℕ) (o : Option Attr) → edited_count count Take o ≡ cond (is_some o) (count - 1) count
  by_take count None = refl
  by_take count (Some x) = refl

  -- an edit counts as the rows do
  pub edit_count : (key : RowKey) (edit : Edit) → is_of dir number key ≡ true → edited_count (count_in rows dir number) edit (map.get rows key) ≡ count_in (edited_rows rows key edit) dir number
  edit_count key Keep own = refl
  edit_count key (Put attr) own = by_put (count_in rows dir number) attr (map.get rows key) ∙ sym (put_count key attr own)
  edit_count key Take own = by_take (count_in rows dir number) (map.get rows key) ∙ sym (take_count key own)

own_key : (dir number : ℕ) (name : List ℕ) → is_of dir number (row_key dir number name) ≡ true
own_key dir number name = and_from (nat_eq dir dir) (nat_eq number number) (eq-eqb dir dir refl) (eq-eqb number number refl)

pub name_count : (rows : RowMap) (dir number count : ℕ) (name : List ℕ) (edit : Edit) → count ≡ count_in rows dir number
    → edited_count count edit (map.get rows (row_key dir number name)) ≡ count_in (written rows (edits_of (row_key dir number name) edit)) dir number
name_count rows dir number count name edit is =
    ap (λ n. edited_count n edit (map.get rows (row_key dir number name))) is ∙ edit_count rows dir number (row_key dir number name) edit (own_key dir number name)
    ∙ ap (λ m. count_in m dir number) (sym (one_written rows (row_key dir number name) edit))

pub load_count : (rows : RowMap) (dir number : ℕ) (load : List Row) → count_in rows dir number + length (load_edits rows dir number load) ≡ count_in (written rows (load_edits rows dir number load)) dir number
load_count rows dir number [] = omega arith
load_count rows dir number (row ∷ more) =
    by (is_some (map.get rows (row_key dir number row.name))) refl (load_count rows dir number more) (load_count (map.insert rows (row_key dir number row.name) row.attr) dir number more)
    (put_count rows dir number (row_key dir number row.name) row.attr (own_key dir number row.name))
  where
    by : (b : Bool) → is_some (map.get rows (row_key dir number row.name)) ≡ b
        → count_in rows dir number + length (load_edits rows dir number more) ≡ count_in (written rows (load_edits rows dir number more)) dir number
        → count_in (map.insert rows (row_key dir number row.name) row.attr) dir number + length (load_edits (map.insert rows (row_key dir number row.name) row.attr) dir number more)
        ≡ count_in (written (map.insert rows (row_key dir number row.name) row.attr) (load_edits (map.insert rows (row_key dir number row.name) row.attr) dir number more)) dir number
        → count_in (map.insert rows (row_key dir number row.name) row.attr) dir number ≡ cond (is_some (map.get rows (row_key dir number row.name))) (count_in rows dir number) (count_in rows dir number + 1)
        → count_in rows dir number + length (cond b (load_edits rows dir number more) ((record { key = row_key dir number row.name; edit = Put row.attr }) ∷ load_edits (map.insert rows (row_key dir number row.name) row.attr) dir number more))
        ≡ count_in (written rows (cond b (load_edits rows dir number more) ((record { key = row_key dir number row.name; edit = Put row.attr }) ∷ load_edits (map.insert rows (row_key dir number row.name) row.attr) dir number more))) dir number
    by true is skipped added put = skipped
    by false is skipped added put =
        let one : count_in (map.insert rows (row_key dir number row.name) row.attr) dir number ≡ count_in rows dir number + 1 = put ∙ ap (λ b. cond b (count_in rows dir number) (count_in rows dir number + 1)) is in
        shift (count_in rows dir number) _ _ _ one added
      where
        shift : (n m k r : ℕ) → m ≡ n + 1 → m + k ≡ r → n + suc k ≡ r
        shift n m k r e f = omega arith
